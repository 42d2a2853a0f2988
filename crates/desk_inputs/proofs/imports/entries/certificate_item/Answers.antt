use Rattle.std.proofs.Common.{ap, sym, rules, ◌∙◌}
use Rattle.desk_inputs.specs.imports.FromLists.{certificate_item}
use Rattle.desk_inputs.specs.declared.imports.item.Item.TheVariants as item
use Rattle.desk_inputs.proofs.TbsLemmas.{tbs_of-each, tbs_of-none}
use Rattle.desk_inputs.proofs.imports.entries.certificate_item.Goals as goal

pub returns-in-Ok : goal.returns-in-Ok
returns-in-Ok c = ap item.Certificate c.hash_of.ensures ∙ ap certificate_item (sym (tbs_of-each _ _ c.in-Ok.ensures.found))

pub returns-in-Err : goal.returns-in-Err
returns-in-Err c = ap certificate_item (sym (tbs_of-none _ (search rules)))
