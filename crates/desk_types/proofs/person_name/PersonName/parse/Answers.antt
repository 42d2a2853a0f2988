use Rattle.std.proofs.Common.{sym, ◌∙◌}
use Rattle.desk_types.proofs.FormLemmas.{printable-person_name}
use Rattle.desk_types.proofs.person_name.PersonName.parse.Goals as goal

pub held_in_form-requires : goal.held_in_form-requires
held_in_form-requires c has_form = printable-person_name c.args.text.now (sym c.is_person_name.ensures ∙ has_form)
