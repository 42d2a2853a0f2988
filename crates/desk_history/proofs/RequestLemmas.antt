-- Counts of requests, and of items that pass a test.
use Rattle.std.proofs.Common.{◌≡◌, ◌+◌, Bool, true, false, cond, List, [], ◌∷◌, length, refl, sym, ◌∙◌, ap, arith, suc, filter}
use Rattle.std.specs.Prelude.{count_by}
use Rattle.std.proofs.lemmas.List.Sums.{length-filter}
use Rattle.desk_history.specs.Requests.{Submitted, numbered}
use Rattle.desk_history.proofs.CountLemmas.{one_if}

pub length_numbered : (ss : List Submitted) → length (numbered ss) ≡ length ss
length_numbered [] = refl
length_numbered (s ∷ ss) = ap suc (length_numbered ss)

-- one item more
pub count_more : {X : Type 0} (p : X → Bool) (x : X) (xs : List X) → count_by p (x ∷ xs) ≡ one_if (p x) + count_by p xs
count_more p x xs =
    sym (length-filter p (x ∷ xs))
    ∙ (elim (p x) as (λ b. length (cond b (x ∷ filter p xs) (filter p xs)) ≡ one_if b + length (filter p xs)) [ true ↦ omega arith | false ↦ omega arith ]
    ∙ ap (λ n. one_if (p x) + n) (length-filter p xs))
