-- The first place of a byte, and the bytes of a name.
use Rattle.std.proofs.Common.{◌≡◌, ℕ, zero, suc, ◌<◌, ltb, Bool, true, false, cond, ◌&&◌, List, [], ◌∷◌, length, get_or, take, drop, ◌+◌, Some, None, refl, ap, ◌∙◌, arith}
use Rattle.std.specs.Char.{is_ascii_graphic}
use Rattle.std.specs.List.{list_all, position, position_or_len, before_first}
use Rattle.std.proofs.lemmas.Bool.Decides.{nat_tests}
use Rattle.std.proofs.lemmas.List.{take_all}
use Rattle.std.proofs.lemmas.List.Splits.{slice_split_first, slice_split_none}
use Rattle.std.proofs.lemmas.List.Sums.{fails_before_first}
use Rattle.sbat.specs.Fields.{fields_of, is_comma, is_name, is_name_byte}

place_is : (b : Bool) (n i : ℕ) → cond b (Some n) None ≡ Some i → (b ≡ true) × (n ≡ i)
place_is true n i e = (refl, cc)
place_is false n i e = absurd (cc)

none_is : (b : Bool) (n : ℕ) → cond b (Some n) None ≡ None → b ≡ false
none_is true n e = absurd (cc)
none_is false n e = refl

-- where a first place was found
pub position_found : (p : ℕ → Bool) (xs : List ℕ) (i : ℕ) → position p xs ≡ Some i → (i < length xs) × (position_or_len p xs ≡ i)
position_found p xs i e =
    let both = place_is (ltb (position_or_len p xs) (length xs)) (position_or_len p xs) i e in
    let within : position_or_len p xs < length xs = grind (arith, nat_tests, both.0) in
    let here = both.1 in
    (omega arith, here)

-- the bytes before the first place
pub before_first-found : (p : ℕ → Bool) (xs : List ℕ) (i : ℕ) → position p xs ≡ Some i → before_first p xs ≡ take i xs
before_first-found p xs i e = ap (λ n. take n xs) (position_found p xs i e).1

-- where no byte passes, all bytes are before it
pub before_first-none : (p : ℕ → Bool) (xs : List ℕ) → position p xs ≡ None → before_first p xs ≡ xs
before_first-none p xs e =
    let past = none_is (ltb (position_or_len p xs) (length xs)) (position_or_len p xs) e in
    take_all (position_or_len p xs) xs (grind (arith, nat_tests, past))

both_true : (a b : Bool) → (a && b) ≡ true → (a ≡ true) × (b ≡ true)
both_true true b h = (refl, h)
both_true false b h = absurd (cc)

name_bytes_ascii : (bs : List ℕ) → list_all is_name_byte bs ≡ true → (i : ℕ) → get_or bs i 0 < 128
name_bytes_ascii [] h i = omega arith
name_bytes_ascii (b ∷ bs) h zero =
    let here : is_name_byte b ≡ true = (both_true (is_name_byte b) _ h).0 in
    let graphic : is_ascii_graphic b ≡ true = (both_true (is_ascii_graphic b) _ here).0 in
    grind (arith, nat_tests, graphic)
name_bytes_ascii (b ∷ bs) h (suc i) = name_bytes_ascii bs (both_true (is_name_byte b) _ h).1 i

-- a name is ASCII
pub name_ascii : (bs : List ℕ) → is_name bs ≡ true → (i : ℕ) → get_or bs i 0 < 128
name_ascii bs h = name_bytes_ascii bs (both_true _ (list_all is_name_byte bs) h).1

-- a line up to its first comma, and what follows it
pub fields_of-first : (line : List ℕ) (i : ℕ) → position is_comma line ≡ Some i → fields_of line ≡ take i line ∷ fields_of (drop (i + 1) line)
fields_of-first line i e =
    let found = position_found is_comma line i e in
    let within : position_or_len is_comma line < length line = omega (arith, found.0, found.1) in
    slice_split_first is_comma line 0 within ∙ ap (λ n. take n line ∷ fields_of (drop (n + 1) line)) found.1

-- a line without a comma is one field
pub fields_of-last : (line : List ℕ) → position is_comma line ≡ None → fields_of line ≡ line ∷ []
fields_of-last line e =
    let past = none_is (ltb (position_or_len is_comma line) (length line)) (position_or_len is_comma line) e in
    slice_split_none is_comma line (λ k d l. fails_before_first is_comma line k d (grind (arith, nat_tests, past)))
