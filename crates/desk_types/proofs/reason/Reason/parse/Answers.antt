use Rattle.std.proofs.Common.{sym, ◌∙◌}
use Rattle.desk_types.proofs.FormLemmas.{printable-reason}
use Rattle.desk_types.proofs.reason.Reason.parse.Goals as goal

pub held_in_form-requires : goal.held_in_form-requires
held_in_form-requires c has_form = printable-reason c.args.text.now (sym c.is_reason.ensures ∙ has_form)
