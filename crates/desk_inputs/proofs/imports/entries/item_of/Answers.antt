use Rattle.std.proofs.Common.{◌∙◌, ap, arith}
use Rattle.std.proofs.lemmas.List.{take_all}
use Rattle.desk_inputs.specs.declared.imports.item.Item.TheVariants as item
use Rattle.desk_inputs.proofs.imports.entries.item_of.Goals as goal

pub returns-in-Sha256-clause-value : goal.returns-in-Sha256-clause-value
returns-in-Sha256-clause-value c =
    let size = rw c.in-Sha256.is at c.requires in
    rw c.in-Sha256.is (ap item.Digest (c.first_digest.ensures ∙ take_all 32 _ (omega (arith, size))))
