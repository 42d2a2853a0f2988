-- The bytes that were read of a file.
use Rattle.std.proofs.Common.{◌≡◌, ◌∙◌, ◌≤◌, ◌<◌, ℕ, List, [], ◌++◌, Option, None, Some, IfSome, arith, ap, length, subst, sym, take, true, false, Bool, refl}
use Rattle.std.specs.Prelude.{nat_lt}
use Rattle.std.specs.Io.KnownBytes.{Consumes, IsAtEnd}
use Rattle.std.proofs.lemmas.Bool.Decides.{nat_tests}
use Rattle.std.proofs.lemmas.Grind.{common_steps}
use Rattle.std.proofs.lemmas.List.{append-nil, take-append-le, take_all}

-- the bytes before others are the first so many, unless they are fewer and nothing follows
takes : (most : ℕ) (bytes rest : List ℕ) (is_short : Bool) → nat_lt (length bytes) most ≡ is_short → length bytes ≤ most
    → (length bytes < most → rest ≡ []) → take most (bytes ++ rest) ≡ bytes
takes most bytes rest true e bound end =
    let short : length bytes < most = grind (arith, nat_tests) in
    let P : List ℕ → Type 0 = λ r. take most (bytes ++ r) ≡ bytes in
    subst P (sym (end short)) (ap (take most) (append-nil bytes) ∙ take_all most bytes bound)
takes most bytes rest false e bound end =
    let long : most ≤ length bytes = grind (arith, nat_tests) in
    take-append-le most bytes rest long ∙ take_all most bytes bound

pub start_of : (most : ℕ) (old new : Option (List ℕ)) (bytes : List ℕ) → Consumes old new bytes → length bytes ≤ most
    → (length bytes < most → IsAtEnd new) → IfSome old (λ given. bytes ≡ take most given)
start_of most None new bytes eats bound end = tt
start_of most (Some xs) None bytes eats bound end = absurd eats
start_of most (Some xs) (Some ys) bytes eats bound end =
    let P : List ℕ → Type 0 = λ given. bytes ≡ take most given in
    subst P (sym eats) (sym (takes most bytes ys _ refl bound end))
