-- The digests that lines name, one after another.
use Rattle.std.proofs.Common.{◌≡◌, ℕ, List, [], ◌∷◌, ◌++◌, Result, Ok, Err, refl, sym, ap, append_assoc}
use Rattle.base.specs.Lines.{put_first}

-- the items that were read already, and then the rest
abbrev pub put_before : {X : Type 0} → List X → Result (List X) ℕ → Result (List X) ℕ
put_before xs (Ok ys) = Ok (xs ++ ys)
put_before xs (Err n) = Err n

pub put_before-nil : {X : Type 0} (r : Result (List X) ℕ) → put_before [] r ≡ r
put_before-nil (Ok ys) = refl
put_before-nil (Err n) = refl

pub put_before-more : {X : Type 0} (xs : List X) (x : X) (r : Result (List X) ℕ) → put_before xs (put_first x r) ≡ put_before (xs ++ x ∷ []) r
put_before-more xs x (Ok ys) = ap Ok (sym (append_assoc xs (x ∷ []) ys))
put_before-more xs x (Err n) = refl
