-- GUIDs and their text.
use Rattle.std.proofs.Common.{◌≡◌, ℕ, zero, suc, ◌<◌, List, [], ◌∷◌, ◌++◌, length, get_or, drop, take, slice_range, Some, Result, Ok, Err, refl, sym, ap, ap₂, subst, ◌∙◌, arith}
use Rattle.std.specs.Result.{result_ok}
use Rattle.hex.specs.Hex.{IsBytes, decode_of, encode_lower, lower_digits}
use Rattle.hex.proofs.HexLemmas.{decode_of-encode_lower, length-encode_with}
use Rattle.hex.specs.declared.error.FromHexError.{FromHexError}
use Rattle.base.specs.Guids.{IsGuid, IsGuidText, group, swapped, text_of}

-- the bytes of five groups, one after another
abbrev pub joined : List ℕ → List ℕ → List ℕ → List ℕ → List ℕ → List ℕ
joined a b c d e =
    get_or a 0 0 ∷ get_or a 1 0 ∷ get_or a 2 0 ∷ get_or a 3 0 ∷ get_or b 0 0 ∷ get_or b 1 0 ∷ get_or c 0 0 ∷ get_or c 1 0
    ∷ get_or d 0 0 ∷ get_or d 1 0 ∷ get_or e 0 0 ∷ get_or e 1 0 ∷ get_or e 2 0 ∷ get_or e 3 0 ∷ get_or e 4 0 ∷ get_or e 5 0 ∷ []

-- each group of a GUID that was joined of five
pub record HasGroups (g a b c d e : List ℕ) : Type 0 where
  pub first : a ≡ group g 0 4
  pub second : b ≡ group g 4 6
  pub third : c ≡ group g 6 8
  pub fourth : d ≡ group g 8 10
  pub fifth : e ≡ group g 10 16

pub groups_joined : (a b c d e : List ℕ) → length a ≡ 4 → length b ≡ 2 → length c ≡ 2 → length d ≡ 2 → length e ≡ 6
    → HasGroups (swapped (joined a b c d e)) a b c d e
groups_joined (a₀ ∷ a₁ ∷ a₂ ∷ a₃ ∷ []) (b₀ ∷ b₁ ∷ []) (c₀ ∷ c₁ ∷ []) (d₀ ∷ d₁ ∷ []) (e₀ ∷ e₁ ∷ e₂ ∷ e₃ ∷ e₄ ∷ e₅ ∷ []) h i j k l =
    record { first = refl; second = refl; third = refl; fourth = refl; fifth = refl }
groups_joined a b c d e h i j k l = absurd (omega arith)

-- a group that was read is what its digits spell
pub decoded : (r : Result (List ℕ) FromHexError) (read group : List ℕ) → Some read ≡ result_ok r → read ≡ group → r ≡ Ok group
decoded (Ok bytes) read group h same = cc
decoded (Err e) read group h same = cc

-- ---- a text spells one GUID

swapped-swapped : (g : List ℕ) → swapped (swapped g) ≡ g
swapped-swapped (a ∷ b ∷ c ∷ d ∷ e ∷ f ∷ g ∷ h ∷ rest) = refl
swapped-swapped g = refl

length-swapped : (g : List ℕ) → length (swapped g) ≡ length g
length-swapped (a ∷ b ∷ c ∷ d ∷ e ∷ f ∷ g ∷ h ∷ rest) = refl
length-swapped g = refl

-- 16 bytes are their five groups
abbrev five_groups : List ℕ → List ℕ → List ℕ → List ℕ → List ℕ → List ℕ
five_groups a b c d e = a ++ (b ++ (c ++ (d ++ e)))

parted_16 : (w : List ℕ) → length w ≡ 16
    → w ≡ five_groups (slice_range w 0 4) (slice_range w 4 6) (slice_range w 6 8) (slice_range w 8 10) (slice_range w 10 16)
parted_16 (a ∷ b ∷ c ∷ d ∷ e ∷ f ∷ g ∷ h ∷ i ∷ j ∷ k ∷ l ∷ m ∷ n ∷ o ∷ p ∷ []) size = refl
parted_16 w size = absurd (omega arith)

ok_same : {E : Type 0} (xs ys : List ℕ) (r : Result (List ℕ) E) → r ≡ Ok xs → r ≡ Ok ys → xs ≡ ys
ok_same xs ys r h k = cc

pub IsGuidText-one : (text g h : List ℕ) → IsGuidText text g → IsGuidText text h → g ≡ h
IsGuidText-one text g h a b =
    let one = ok_same (group g 0 4) (group h 0 4) _ a.first b.first in
    let two = ok_same (group g 4 6) (group h 4 6) _ a.second b.second in
    let three = ok_same (group g 6 8) (group h 6 8) _ a.third b.third in
    let four = ok_same (group g 8 10) (group h 8 10) _ a.fourth b.fourth in
    let five = ok_same (group g 10 16) (group h 10 16) _ a.fifth b.fifth in
    let same : swapped g ≡ swapped h =
    parted_16 (swapped g) (length-swapped g ∙ a.stored)
    ∙ ap₂ ◌++◌ one (ap₂ ◌++◌ two (ap₂ ◌++◌ three (ap₂ ◌++◌ four five)))
    ∙ sym (parted_16 (swapped h) (length-swapped h ∙ b.stored)) in
    sym (swapped-swapped g) ∙ ap swapped same ∙ swapped-swapped h

-- ---- a GUID's text spells it

IsBytes-swapped : (g : List ℕ) → IsBytes g → IsBytes (swapped g)
IsBytes-swapped (a ∷ b ∷ c ∷ d ∷ e ∷ f ∷ g ∷ h ∷ rest) bytes = λ i. place i
  where
    place : (i : ℕ) → get_or (d ∷ c ∷ b ∷ a ∷ f ∷ e ∷ h ∷ g ∷ rest) i 0 < 256
    place zero = bytes 3
    place (suc zero) = bytes 2
    place (suc (suc zero)) = bytes 1
    place (suc (suc (suc zero))) = bytes 0
    place (suc (suc (suc (suc zero)))) = bytes 5
    place (suc (suc (suc (suc (suc zero))))) = bytes 4
    place (suc (suc (suc (suc (suc (suc zero)))))) = bytes 7
    place (suc (suc (suc (suc (suc (suc (suc zero))))))) = bytes 6
    place (suc (suc (suc (suc (suc (suc (suc (suc i)))))))) = bytes (suc (suc (suc (suc (suc (suc (suc (suc i))))))))
IsBytes-swapped g bytes = bytes

IsBytes-take : (n : ℕ) (xs : List ℕ) → IsBytes xs → IsBytes (take n xs)
IsBytes-take zero xs h i = omega arith
IsBytes-take (suc n) [] h i = omega arith
IsBytes-take (suc n) (x ∷ xs) h zero = h 0
IsBytes-take (suc n) (x ∷ xs) h (suc i) = IsBytes-take n xs (λ k. h (suc k)) i

IsBytes-drop : (n : ℕ) (xs : List ℕ) → IsBytes xs → IsBytes (drop n xs)
IsBytes-drop zero xs h = h
IsBytes-drop (suc n) [] h = h
IsBytes-drop (suc n) (x ∷ xs) h = IsBytes-drop n xs (λ k. h (suc k))

-- the parts of a text between hyphens
abbrev hyphenated : List ℕ → List ℕ → List ℕ → List ℕ → List ℕ → List ℕ
hyphenated a b c d e = a ++ 45 ∷ (b ++ 45 ∷ (c ++ 45 ∷ (d ++ 45 ∷ e)))

record HasParts (text a b c d e : List ℕ) : Type 0 where
  size : length text ≡ 36
  first_hyphen : get_or text 8 0 ≡ 45
  second_hyphen : get_or text 13 0 ≡ 45
  third_hyphen : get_or text 18 0 ≡ 45
  fourth_hyphen : get_or text 23 0 ≡ 45
  first : slice_range text 0 8 ≡ a
  second : slice_range text 9 13 ≡ b
  third : slice_range text 14 18 ≡ c
  fourth : slice_range text 19 23 ≡ d
  fifth : slice_range text 24 36 ≡ e

parts_hyphenated : (a b c d e : List ℕ) → length a ≡ 8 → length b ≡ 4 → length c ≡ 4 → length d ≡ 4 → length e ≡ 12
    → HasParts (hyphenated a b c d e) a b c d e
parts_hyphenated (a₀ ∷ a₁ ∷ a₂ ∷ a₃ ∷ a₄ ∷ a₅ ∷ a₆ ∷ a₇ ∷ []) (b₀ ∷ b₁ ∷ b₂ ∷ b₃ ∷ []) (c₀ ∷ c₁ ∷ c₂ ∷ c₃ ∷ [])
    (d₀ ∷ d₁ ∷ d₂ ∷ d₃ ∷ []) (e₀ ∷ e₁ ∷ e₂ ∷ e₃ ∷ e₄ ∷ e₅ ∷ e₆ ∷ e₇ ∷ e₈ ∷ e₉ ∷ e₁₀ ∷ e₁₁ ∷ []) h i j k l = record {
      size = refl;
      first_hyphen = refl;
      second_hyphen = refl;
      third_hyphen = refl;
      fourth_hyphen = refl;
      first = refl;
      second = refl;
      third = refl;
      fourth = refl;
      fifth = refl;
    }
parts_hyphenated a b c d e h i j k l = absurd (omega arith)

-- the digits of one group
digits_of : (w : List ℕ) (from to : ℕ) → IsBytes w → decode_of (encode_lower (slice_range w from to)) ≡ Ok (slice_range w from to)
digits_of w from to bytes = decode_of-encode_lower (slice_range w from to) (IsBytes-take _ _ (IsBytes-drop from w bytes))

-- a slice of 16 bytes has its length
length_16 : (w : List ℕ) → length w ≡ 16
    → (length (slice_range w 0 4) ≡ 4) × (length (slice_range w 4 6) ≡ 2) × (length (slice_range w 6 8) ≡ 2)
    × (length (slice_range w 8 10) ≡ 2) × (length (slice_range w 10 16) ≡ 6)
length_16 (a ∷ b ∷ c ∷ d ∷ e ∷ f ∷ g ∷ h ∷ i ∷ j ∷ k ∷ l ∷ m ∷ n ∷ o ∷ p ∷ []) size = (refl, refl, refl, refl, refl)
length_16 w size = absurd (omega arith)

pub text_of-spells : (g : List ℕ) → IsGuid g → IsGuidText (text_of g) g
text_of-spells g h =
    let w = swapped g in
    let bytes = IsBytes-swapped g h.1 in
    let sizes = length_16 w (length-swapped g ∙ h.0) in
    let long = λ (xs : List ℕ). length-encode_with lower_digits xs in
    let p = parts_hyphenated (encode_lower (slice_range w 0 4)) (encode_lower (slice_range w 4 6)) (encode_lower (slice_range w 6 8))
    (encode_lower (slice_range w 8 10)) (encode_lower (slice_range w 10 16))
    (omega (arith, long (slice_range w 0 4), sizes.0)) (omega (arith, long (slice_range w 4 6), sizes.1)) (omega (arith, long (slice_range w 6 8), sizes.2))
    (omega (arith, long (slice_range w 8 10), sizes.3)) (omega (arith, long (slice_range w 10 16), sizes.4)) in
    record {
      stored = h.0;
      size = p.size;
      first_hyphen = p.first_hyphen;
      second_hyphen = p.second_hyphen;
      third_hyphen = p.third_hyphen;
      fourth_hyphen = p.fourth_hyphen;
      first = ap decode_of p.first ∙ digits_of w 0 4 bytes;
      second = ap decode_of p.second ∙ digits_of w 4 6 bytes;
      third = ap decode_of p.third ∙ digits_of w 6 8 bytes;
      fourth = ap decode_of p.fourth ∙ digits_of w 8 10 bytes;
      fifth = ap decode_of p.fifth ∙ digits_of w 10 16 bytes;
    }

-- no two GUIDs have one text
pub text_of-differ : (g h : List ℕ) → IsGuid g → IsGuid h → text_of g ≡ text_of h → g ≡ h
text_of-differ g h a b same =
    IsGuidText-one (text_of h) g h (subst (λ t. IsGuidText t g) same (text_of-spells g a)) (text_of-spells h b)
