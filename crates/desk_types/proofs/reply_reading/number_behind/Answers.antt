use Rattle.std.proofs.Common.{◌≡◌, ◌≢◌, ◌++◌, ℕ, decimal, true}
use Rattle.desk_types.specs.Forms.{is_request_number}
use Rattle.desk_types.proofs.SpaceLemmas.{none_fact, stripped, stripped_none, stripped_one, stripped_others}
use Rattle.desk_types.proofs.reply_reading.number_behind.Goals as goal

pub returns-in_err-strip_prefix-clause-only : goal.returns-in_err-strip_prefix-clause-only
returns-in_err-strip_prefix-clause-only c =
    let none : (number : ℕ) → is_request_number number ≡ true → c.args.text.now ≢ c.args.beginning.now ++ decimal number =
    λ number form same. stripped_none c.args.text.now c.args.beginning.now c.in_err-strip_prefix.ensures.cases (decimal number) same in
    none_fact _ none

pub returns-clause-found : goal.returns-clause-found
returns-clause-found c =
    stripped_one c.args.text.now c.args.beginning.now c.in_ok-strip_prefix.field-0 c.parse.result
    (stripped c.args.text.now c.args.beginning.now c.in_ok-strip_prefix.field-0 c.in_ok-strip_prefix.ensures.cases) c.parse.ensures.found

pub returns-clause-only : goal.returns-clause-only
returns-clause-only c =
    stripped_others c.args.text.now c.args.beginning.now c.in_ok-strip_prefix.field-0 c.parse.result
    (stripped c.args.text.now c.args.beginning.now c.in_ok-strip_prefix.field-0 c.in_ok-strip_prefix.ensures.cases) c.parse.ensures.only
