-- Decimal texts of requests' numbers.
use Rattle.std.proofs.Common.{◌≡◌, ℕ, zero, suc, ◌+◌, ◌-◌, ◌*◌, ◌<◌, ◌≤◌, leb, eqb, Bool, true, false, not, ◌&&◌, List, length, get_or, Option, Some, None, MatchOption, IfSome, IfNone, fold, decimal, sym, ap, ◌∙◌, arith, rules}
use Rattle.std.specs.Char.{is_ascii_digit}
use Rattle.std.specs.List.{list_all}
use Rattle.std.proofs.lemmas.Bool.Decides.{nat_tests}
use Rattle.std.proofs.lemmas.Fmt.{decimal_digit, decimal_nonempty, length-decimal-le, first_decimal, digits_decimal, decimal-digits_value}
use Rattle.std.proofs.lemmas.Str.Parse.{IsNumeralModel, numerals_by_fold, digits_value_short}
use Rattle.sbat.specs.Fields.{decimal_of}
use Rattle.desk_types.specs.Forms.{greatest_number, is_decimal, is_request_number}
use Rattle.desk_types.proofs.FormLemmas.{both, joined}

pub some_false : (b : Bool) → b ≡ true → b ≡ false → ⊥
some_false b h k = cc

abbrev are_digits : List ℕ → Type 0
are_digits text = list_all is_ascii_digit text ≡ true

abbrev number_after : ℕ → List ℕ → ℕ
number_after n text = fold (λ m b. 10 * m + (b - 48)) n text

pub own : IsNumeralModel are_digits decimal_of
own = numerals_by_fold are_digits (search rules) number_after (search rules)

pub number_size : (n : ℕ) → is_request_number n ≡ true → (1 ≤ n) × (n ≤ greatest_number)
number_size n h =
    let parts = both (leb 1 n) (leb n greatest_number) h in
    let low = parts.0 in
    let high = parts.1 in
    (grind (arith, nat_tests), grind (arith, nat_tests))

-- the decimal text of a request's number is one
pub is_decimal-decimal : (n : ℕ) → is_request_number n ≡ true → is_decimal (decimal n) ≡ true
is_decimal-decimal n h =
    let size = number_size n h in
    let some : leb 1 (length (decimal n)) ≡ true = grind (arith, nat_tests, decimal_nonempty n (omega arith)) in
    let few : leb (length (decimal n)) 6 ≡ true = grind (arith, nat_tests, length-decimal-le 6 n (omega arith) (omega arith) (omega arith)) in
    let first : not (eqb (get_or (decimal n) 0 0) 48) ≡ true = grind (arith, nat_tests, first_decimal n (omega arith) (omega arith)) in
    let digits = digits_decimal own n (omega arith) in
    joined _ _ (joined _ _ (joined _ _ some few) first) digits

nonzero : (text : List ℕ) (n : ℕ) → text ≡ decimal n → not (eqb (get_or text 0 0) 48) ≡ true → 1 ≤ n
nonzero text zero same first =
    let zero_digit : get_or text 0 0 ≡ 48 = ap (λ t. get_or t 0 0) (same ∙ decimal_digit 0 (omega arith)) in
    grind (arith, nat_tests)
nonzero text (suc n) same first = omega arith

pub record IsRead (text : List ℕ) (n : ℕ) : Type 0 where
  pub same : text ≡ decimal n
  pub form : is_request_number n ≡ true

-- a decimal text has digits alone, and few
pub is_decimal-digits : (text : List ℕ) → is_decimal text ≡ true → list_all is_ascii_digit text ≡ true
is_decimal-digits text h = (both (leb 1 (length text) && leb (length text) 6 && not (eqb (get_or text 0 0) 48)) (list_all is_ascii_digit text) h).1

pub is_decimal-few : (text : List ℕ) → is_decimal text ≡ true → length text ≤ 10
is_decimal-few text h =
    let front = both (leb 1 (length text) && leb (length text) 6 && not (eqb (get_or text 0 0) 48)) (list_all is_ascii_digit text) h in
    let sized = both (leb 1 (length text) && leb (length text) 6) (not (eqb (get_or text 0 0) 48)) front.0 in
    let few = (both (leb 1 (length text)) (leb (length text) 6) sized.0).1 in
    grind (arith, nat_tests)

-- a decimal text of 1 to 6 digits is that of the number that it spells
pub decimal_of-read : (text : List ℕ) → is_decimal text ≡ true → IsRead text (decimal_of text)
decimal_of-read text h =
    let front = both (leb 1 (length text) && leb (length text) 6 && not (eqb (get_or text 0 0) 48)) (list_all is_ascii_digit text) h in
    let sized = both (leb 1 (length text) && leb (length text) 6) (not (eqb (get_or text 0 0) 48)) front.0 in
    let sizes = both (leb 1 (length text)) (leb (length text) 6) sized.0 in
    let low = sizes.0 in
    let high = sizes.1 in
    let first = sized.1 in
    let some : 0 < length text = grind (arith, nat_tests) in
    let few : length text ≤ 6 = grind (arith, nat_tests) in
    let alone : get_or text 0 0 ≡ 48 → length text ≡ 1 = λ e. grind (arith, nat_tests) in
    let small = digits_value_short own text 6 front.1 few in
    let same = decimal-digits_value own text front.1 some alone (omega arith) in
    let positive = nonzero text (decimal_of text) (sym same) first in
    let above : leb 1 (decimal_of text) ≡ true = grind (arith, nat_tests) in
    let below : leb (decimal_of text) greatest_number ≡ true = grind (arith, nat_tests) in
    record {
      same = sym same;
      form = joined (leb 1 (decimal_of text)) (leb (decimal_of text) greatest_number) above below;
    }

-- a number that was made of what was read is the one whose text this is
pub read_found : (o : Option ℕ) (text : List ℕ) (m n : ℕ) → n ≡ m → IsRead text m
    → MatchOption o (is_request_number n ≡ false) (λ r. (r ≡ n) × (is_request_number n ≡ true)) → IfSome o (λ number. text ≡ decimal number)
read_found None text m n e read made = tt
read_found (Some r) text m n e read made = read.same ∙ ap decimal (sym e ∙ sym made.0)

-- and one is made
pub read_only : (o : Option ℕ) (text : List ℕ) (m n : ℕ) (P : Type 0) → n ≡ m → IsRead text m
    → MatchOption o (is_request_number n ≡ false) (λ r. (r ≡ n) × (is_request_number n ≡ true)) → IfNone o P
read_only None text m n P e read made = absurd (some_false _ (ap is_request_number e ∙ read.form) made)
read_only (Some r) text m n P e read made = tt
