-- Numbers in decimal digits, read back.
use Rattle.std.proofs.Common.{◌≡◌, ℕ, ◌+◌, ◌-◌, ◌*◌, ◌<◌, ◌≤◌, ◌^◌, Bool, true, false, ◌&&◌, List, length, fold, Some, decimal, refl, ap, arith}
use Rattle.std.specs.Char.{is_ascii_digit}
use Rattle.std.specs.List.{list_all}
use Rattle.std.proofs.lemmas.Bool.Decides.{nat_tests}
use Rattle.std.proofs.lemmas.Fmt.{decimal_nonempty, digits_decimal, digits_value-decimal, length-decimal-le}
use Rattle.std.proofs.lemmas.Str.Parse.{FoldsDigits, IsDigitsTest, IsNumeralModel, digits_value_short, numerals_by_fold}
use Rattle.sbat.specs.Fields.{decimal_of, generation_of, is_generation, is_stamp, stamp_of}

-- all bytes are digits
abbrev pub AreDigits : List ℕ → Type 0
AreDigits ds = list_all is_ascii_digit ds ≡ true

pub first_part : (a b : Bool) → (a && b) ≡ true → a ≡ true
first_part true b h = refl
first_part false b h = absurd (cc)

pub second_part : (a b : Bool) → (a && b) ≡ true → b ≡ true
second_part true b h = h
second_part false b h = absurd (cc)

pub both_parts : (a b : Bool) → a ≡ true → b ≡ true → (a && b) ≡ true
both_parts a b h k = cc

digits_test : IsDigitsTest AreDigits
digits_test = record {
  empty = refl;
  parts = λ c cs h. (let here = first_part (is_ascii_digit c) (list_all is_ascii_digit cs) h in grind (arith, nat_tests, here), second_part (is_ascii_digit c) (list_all is_ascii_digit cs) h);
  more = λ c cs range h. both_parts (is_ascii_digit c) (list_all is_ascii_digit cs) (grind (arith, nat_tests, range)) h;
}

folds : FoldsDigits (λ n ds. fold (λ m b. 10 * m + (b - 48)) n ds)
folds = record {
  empty = λ n. refl;
  more = λ n c cs range. ap (λ m. fold (λ k b. 10 * k + (b - 48)) m cs) (omega arith);
}

own : IsNumeralModel AreDigits decimal_of
own = numerals_by_fold AreDigits digits_test (λ n ds. fold (λ m b. 10 * m + (b - 48)) n ds) folds

pub digits-decimal : (n : ℕ) → n < 2 ^ 64 → AreDigits (decimal n)
digits-decimal n h = digits_decimal own n h

pub decimal_of-decimal : (n : ℕ) → n < 2 ^ 64 → decimal_of (decimal n) ≡ n
decimal_of-decimal n h = digits_value-decimal own n h

pub generation_of-decimal : (n : ℕ) → is_generation n ≡ true → generation_of (decimal n) ≡ Some n
generation_of-decimal n h =
    let small : n < 2 ^ 32 = grind (arith, nat_tests, h) in
    let value = decimal_of-decimal n (omega arith) in
    let digits = digits-decimal n (omega arith) in
    let some = decimal_nonempty n (omega arith) in
    let short = length-decimal-le 10 n (omega arith) (omega arith) (omega arith) in
    grind (arith, nat_tests, h, value, digits, some, short)

pub stamp_of-decimal : (n : ℕ) → is_stamp n ≡ true → stamp_of (decimal n) ≡ Some n
stamp_of-decimal n h =
    let low : 10 ^ 9 ≤ n = grind (arith, nat_tests, h) in
    let high : n < 10 ^ 10 = grind (arith, nat_tests, h) in
    let value = decimal_of-decimal n (omega arith) in
    let digits = digits-decimal n (omega arith) in
    let short = length-decimal-le 10 n (omega arith) (omega arith) (omega arith) in
    let long : length (decimal n) ≤ 9 → ⊥ = λ few. absurd (omega (arith, digits_value_short own (decimal n) 9 digits few, value)) in
    let ten : length (decimal n) ≡ 10 = omega arith in
    grind (arith, nat_tests, h, value, digits, ten)
