-- Bodies that are whole.
use Rattle.std.proofs.Common.{◌≡◌, ◌∙◌, ℕ, ◌≤◌, List, ◌++◌, length, take, refl, sym, ap, arith, true, length-append, Some}
use Rattle.std.specs.Prelude.{nat_le}
use Rattle.std.proofs.lemmas.Bool.Decides.{nat_tests}
use Rattle.std.proofs.lemmas.List.{take-append-le}
use Rattle.http_exchange.specs.Bodies.{body_in}

-- the body is there
pub is_whole : (size : ℕ) (b : List ℕ) → size ≤ length b → body_in size b ≡ Some (take size b)
is_whole size b le = let yes : nat_le size (length b) ≡ true = grind (arith, nat_tests) in rw yes refl

-- the bytes after a body don't change it
pub body_followed : (size : ℕ) (rest more : List ℕ) → size ≤ length rest → body_in size (rest ++ more) ≡ body_in size rest
body_followed size rest more le =
    let sum = length-append rest more in
    let whole : body_in size (rest ++ more) ≡ Some (take size (rest ++ more)) = is_whole size (rest ++ more) (omega arith) in
    let same : take size (rest ++ more) ≡ take size rest = take-append-le size rest more le in
    whole ∙ (ap (λ (x : List ℕ). Some x) same ∙ sym (is_whole size rest le))
