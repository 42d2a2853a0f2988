use Rattle.std.proofs.Common.{sym, ◌∙◌}
use Rattle.desk_types.proofs.FormLemmas.{printable-title}
use Rattle.desk_types.proofs.title.Title.parse.Goals as goal

pub held_in_form-requires : goal.held_in_form-requires
held_in_form-requires c has_form = printable-title c.args.text.now (sym c.is_title.ensures ∙ has_form)
