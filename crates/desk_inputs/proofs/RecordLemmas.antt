-- Records of three fields.
use Rattle.std.proofs.Common.{◌≡◌, ℕ, List, [], ◌∷◌, length, Some, refl, arith}
use Rattle.csv.specs.Records.{field_at}

some_same : {A : Type 0} (x y : A) → Some x ≡ Some y → x ≡ y
some_same x y h = cc

-- a record is its fields at the three places
pub three : (fs : List (List ℕ)) (a b d : List ℕ) → length fs ≡ 3 → Some a ≡ field_at fs 0 → Some b ≡ field_at fs 1 → Some d ≡ field_at fs 2 → fs ≡ a ∷ b ∷ d ∷ []
unfolding field_at
three [] a b d size one two last = absurd (omega (arith, size))
three (x ∷ []) a b d size one two last = absurd (omega (arith, size))
three (x ∷ y ∷ []) a b d size one two last = absurd (omega (arith, size))
three (x ∷ y ∷ z ∷ []) a b d size one two last = rw (some_same a x one, some_same b y two, some_same d z last) refl
three (x ∷ y ∷ z ∷ w ∷ rest) a b d size one two last = absurd (omega (arith, size))
