use Rattle.std.proofs.Common.{sym, ap, ◌∙◌}
use Rattle.sbat.specs.Fields.{decimal_of}
use Rattle.desk_types.specs.Forms.{is_decimal}
use Rattle.desk_types.proofs.NumberLemmas.{is_decimal-digits, is_decimal-few, some_false, is_decimal-decimal, decimal_of-read, read_found, read_only}
use Rattle.desk_types.proofs.ordinal.Ordinal.parse.Goals as goal

pub returns-then-not-is_decimal-clause-only : goal.returns-then-not-is_decimal-clause-only
returns-then-not-is_decimal-clause-only c = λ number form same.
    some_false (is_decimal c.args.text.now) (ap is_decimal same ∙ is_decimal-decimal number form) (sym c.is_decimal.ensures ∙ c.if-not-is_decimal.true)

pub returns-clause-found : goal.returns-clause-found
returns-clause-found c =
    let text = c.args.text.now in
    let read = decimal_of-read text (sym c.is_decimal.ensures ∙ c.if-not-is_decimal.false) in
    read_found c.new.result text (decimal_of text) c.decimal.result c.decimal.ensures read c.new.ensures

pub returns-clause-only : goal.returns-clause-only
returns-clause-only c =
    let text = c.args.text.now in
    let read = decimal_of-read text (sym c.is_decimal.ensures ∙ c.if-not-is_decimal.false) in
    read_only c.new.result text (decimal_of text) c.decimal.result _ c.decimal.ensures read c.new.ensures

pub decimal-requires-clause-few : goal.decimal-requires-clause-few
decimal-requires-clause-few c = is_decimal-few c.args.text.now (sym c.is_decimal.ensures ∙ c.if-not-is_decimal.false)

pub decimal-requires-clause-digits : goal.decimal-requires-clause-digits
decimal-requires-clause-digits c = is_decimal-digits c.args.text.now (sym c.is_decimal.ensures ∙ c.if-not-is_decimal.false)
