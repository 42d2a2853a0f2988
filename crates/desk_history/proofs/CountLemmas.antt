-- Tests on reversed lists, and counts of different texts.
use Rattle.std.proofs.Common.{◌≡◌, ℕ, ◌+◌, ◌<◌, ◌≤◌, Bool, true, false, not, ◌||◌, List, [], ◌∷◌, ◌++◌, length, take, get_or, sym, ◌∙◌, ap, arith}
use Rattle.std.specs.Prelude.{if◌then◌else◌, reverse}
use Rattle.std.specs.List.{list_any}
use mir.Val.{bool_byte}
use Rattle.std.proofs.lemmas.List.{reverse-append, take_more}
use Rattle.std.proofs.lemmas.List.Folds.{list_any-append}
use Rattle.std.proofs.lemmas.List.Sorted.{IsPermutation-reverse, list_any-IsPermutation}
use Rattle.desk_history.specs.Calls.{is_among, distinct}

pub any_reverse : {X : Type 0} (p : X → Bool) (xs : List X) → list_any p (reverse xs) ≡ list_any p xs
any_reverse p xs = sym (list_any-IsPermutation p xs (reverse xs) (IsPermutation-reverse xs))

-- a test on a reversed list in front of another
pub any_two : {X : Type 0} (p : X → Bool) (xs ys : List X) → list_any p (reverse xs ++ ys) ≡ (list_any p xs || list_any p ys)
any_two p xs ys = list_any-append p (reverse xs) ys ∙ ap (λ b. b || list_any p ys) (any_reverse p xs)

-- a test on a list that is another one reversed
pub any_known : {X : Type 0} (p : X → Bool) (xs front : List X) → reverse xs ≡ front → list_any p front ≡ list_any p xs
any_known p xs front e = ap (list_any p) (sym e) ∙ any_reverse p xs

-- one item more, reversed
pub reverse_more : {X : Type 0} (xs : List X) (i : ℕ) (d : X) → i < length xs → reverse (take (i + 1) xs) ≡ get_or xs i d ∷ reverse (take i xs)
reverse_more xs i d h = ap reverse (take_more xs i d h) ∙ reverse-append (take i xs) (get_or xs i d ∷ [])

-- 1 for true
abbrev pub one_if : Bool → ℕ
one_if b = bool_byte b

pub one_most : (b : Bool) (n : ℕ) → n ≡ one_if b → n ≤ 1
one_most true n e = omega arith
one_most false n e = omega arith

-- one text more counts where it is new
pub once_more : (t : List ℕ) (ts : List (List ℕ)) → length (distinct (t ∷ ts)) ≡ one_if (not (is_among ts t)) + length (distinct ts)
once_more t ts =
    elim (is_among ts t) as (λ b. length (if b then distinct ts else t ∷ distinct ts) ≡ one_if (not b) + length (distinct ts)) [ true ↦ omega arith | false ↦ omega arith ]
