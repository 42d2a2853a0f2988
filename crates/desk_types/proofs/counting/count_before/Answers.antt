use Rattle.std.proofs.Common.{◌≢◌, ◌∷◌, ◌++◌, ℕ, List, decimal, sym, ◌∙◌}
use Rattle.desk_types.specs.Commands.{IsCount}
use Rattle.desk_types.proofs.SpaceLemmas.{none_fact, parted_once}
use Rattle.desk_types.proofs.ValueLemmas.{decimal_free}
use Rattle.desk_types.proofs.counting.count_before.Goals as goal

pub returns-in_err-number-clause-only : goal.returns-in_err-number-clause-only
returns-in_err-number-clause-only c =
    let parts = c.in_ok-first.ensures.found in
    let none : (number : ℕ) (rest : List ℕ) → IsCount number → c.args.text.now ≢ decimal number ++ (32 ∷ rest) =
    λ number rest small same.
    c.in_err-number.ensures.only number small
    (parted_once c.in_ok-first.first.now c.in_ok-first.rest.now (decimal number) rest parts.1 (decimal_free number small) (sym parts.0 ∙ same)).0 in
    none_fact _ none
