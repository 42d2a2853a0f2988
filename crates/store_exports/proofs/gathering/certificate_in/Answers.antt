use Rattle.std.proofs.Common.{◌≡◌, ◌∙◌, ap, sym, rules}
use Rattle.desk_types.specs.Commands.{IsCommand}
use Rattle.desk_types.specs.CommandTexts.{text_of}
use Rattle.desk_types.specs.Formed.{IsWithin}
use Rattle.desk_types.specs.Naming.{certificate_listed}
use Rattle.store_exports.proofs.gathering.certificate_in.Goals as goal

-- no other command has the text
pub returns-in-Ok-Some : goal.returns-in-Ok-Some
returns-in-Ok-Some c given forms limits text =
    let read = c.in-Ok-Some.command in
    let it : IsCommand read × IsWithin read × (c.args.text.now ≡ text_of read) = search (rules, c.in-Ok-Some.ensures.found) in
    let same : read ≡ given = c.command_texts_differ.ensures read given it.0 forms (sym it.2 ∙ text) in
    c.into_certificate.ensures ∙ ap certificate_listed same
