-- Texts that grow.
use Rattle.std.proofs.Common.{◌≡◌, ◌++◌, ◌+◌, ◌∙◌, ℕ, zero, suc, List, [], ◌∷◌, replicate, append_assoc, refl, ap, arith}

pub one_more : (n x : ℕ) → replicate n x ++ (x ∷ []) ≡ replicate (n + 1) x
one_more zero x = refl
one_more (suc n) x = let e : suc (n + 1) ≡ suc n + 1 = omega arith in ap (λ l. x ∷ l) (one_more n x) ∙ ap (λ m. replicate m x) e

-- fourteen texts, in their groups
pub grouped : (a b c d e f g h i j k l m n : List ℕ)
    → (a ++ b) ++ (c ++ d ++ e ++ f ++ g) ++ (h ++ i ++ j ++ k) ++ (l ++ m ++ n) ≡ a ++ b ++ c ++ d ++ e ++ f ++ g ++ h ++ i ++ j ++ k ++ l ++ m ++ n
grouped a b c d e f g h i j k l m n = simp append_assoc
