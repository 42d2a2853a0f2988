use Rattle.std.proofs.Common.{sym, ◌∙◌}
use Rattle.desk_types.proofs.FormLemmas.{printable-key}
use Rattle.desk_types.proofs.key.Key.parse.Goals as goal

pub held_in_form-requires : goal.held_in_form-requires
held_in_form-requires c has_form = printable-key c.args.text.now (sym c.is_key.ensures ∙ has_form)
