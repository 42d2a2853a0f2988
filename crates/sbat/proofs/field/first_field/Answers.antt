use Rattle.std.proofs.Common.{◌+◌, ◌∷◌, take, sym, ap, ◌∙◌}
use Rattle.std.proofs.lemmas.List.{take_rest}
use Rattle.sbat.specs.Fields.{fields_of}
use Rattle.sbat.proofs.FieldLemmas.{fields_of-first, fields_of-last}
use Rattle.sbat.proofs.field.first_field.Goals as goal

pub returns-in-Some : goal.returns-in-Some
returns-in-Some c =
    let line = c.args.line.now in
    let end = c.in-Some.end in
    fields_of-first line end (sym c.in-Some.ensures) ∙ ap (λ rest. take end line ∷ fields_of rest) (sym (take_rest line (end + 1)))

pub returns-in-None : goal.returns-in-None
returns-in-None c = fields_of-last c.args.line.now (sym c.in-None.ensures)
