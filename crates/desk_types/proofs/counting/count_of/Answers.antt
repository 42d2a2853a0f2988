use Rattle.std.proofs.Common.{sym, ap, ◌∙◌}
use Rattle.std.proofs.lemmas.Str.{IsUtf8-from_ascii}
use Rattle.desk_types.specs.Forms.{is_numeral}
use Rattle.desk_types.proofs.NumberLemmas.{some_false}
use Rattle.desk_types.proofs.SpaceLemmas.{is_numeral-decimal, numeral_ascii, numeral_read, numeral_unread}
use Rattle.desk_types.proofs.counting.count_of.Goals as goal

pub returns-then-not-is_numeral-clause-only : goal.returns-then-not-is_numeral-clause-only
returns-then-not-is_numeral-clause-only c = λ number small same.
    some_false (is_numeral c.args.text.now) (ap is_numeral same ∙ is_numeral-decimal number small) (sym c.is_numeral.ensures ∙ c.if-not-is_numeral.true)

-- a numeral is ASCII, so it is text
pub returns-in_default-clause-only : goal.returns-in_default-clause-only
returns-in_default-clause-only c =
    absurd (c.in_default.ensures.cases.0 (IsUtf8-from_ascii c.args.text.now (numeral_ascii c.args.text.now (sym c.is_numeral.ensures ∙ c.if-not-is_numeral.false))))

pub returns-clause-found : goal.returns-clause-found
returns-clause-found c =
    numeral_read c.args.text.now c.in-Ok.text.now c.parse.result c.ok.result c.in-Ok.ensures.cases.0 (sym c.is_numeral.ensures ∙ c.if-not-is_numeral.false)
    c.parse.ensures.value.0 c.ok.ensures.value

pub returns-clause-only : goal.returns-clause-only
returns-clause-only c =
    numeral_unread c.args.text.now c.in-Ok.text.now c.parse.result c.ok.result c.in-Ok.ensures.cases.0 (sym c.is_numeral.ensures ∙ c.if-not-is_numeral.false)
    c.parse.ensures.value.0 c.ok.ensures.value
