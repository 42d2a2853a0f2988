use Rattle.std.proofs.Common.{sym, ◌∙◌}
use Rattle.desk_types.proofs.FormLemmas.{printable-note}
use Rattle.desk_types.proofs.note.Note.parse.Goals as goal

pub held_in_form-requires : goal.held_in_form-requires
held_in_form-requires c has_form = printable-note c.args.text.now (sym c.is_note.ensures ∙ has_form)
