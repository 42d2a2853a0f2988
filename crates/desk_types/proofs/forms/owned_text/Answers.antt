use Rattle.std.proofs.lemmas.Str.{IsUtf8-from_ascii}
use Rattle.desk_types.proofs.FormLemmas.{printable-ascii}
use Rattle.desk_types.proofs.forms.owned_text.Goals as goal

-- printable text is ASCII
pub returns-in_default : goal.returns-in_default
returns-in_default c = absurd (c.in_default.ensures.cases.0 (IsUtf8-from_ascii c.args.text.now (printable-ascii c.args.text.now c.requires)))
