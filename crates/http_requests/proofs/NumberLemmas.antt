-- The number at {no}, as desk_types reads it.
use Rattle.std.proofs.Common.{◌≡◌, ◌∙◌, ℕ, List, Bool, true, false, Option, Some, None, decimal, ap, refl, arith, cond}
use Rattle.sbat.specs.Fields.{decimal_of}
use Rattle.sbat.proofs.DigitLemmas.{decimal_of-decimal}
use Rattle.desk_types.specs.Forms.{is_decimal, is_request_number}
use Rattle.desk_types.proofs.NumberLemmas.{is_decimal-decimal, decimal_of-read, number_size}

-- the number of a text, if it is decimal
abbrev number_of : List ℕ → Option ℕ
number_of text = cond (is_decimal text) (Some (decimal_of text)) None

-- the number whose decimal text this is
pub number_found : (text : List ℕ) (n : ℕ) → is_request_number n ≡ true → text ≡ decimal n → number_of text ≡ Some n
number_found text n form same =
    let size = number_size n form in
    let is = ap is_decimal same ∙ is_decimal-decimal n form in
    let read = ap decimal_of same ∙ decimal_of-decimal n (omega arith) in
    rw (is, read) refl

-- a text is no number's, where it is that of none
pub number_only : (text : List ℕ) → ((n : ℕ) → is_request_number n ≡ true → text ≡ decimal n → ⊥) → number_of text ≡ None
number_only text none = by_form (is_decimal text) refl
  where
    by_form : (b : Bool) → is_decimal text ≡ b → number_of text ≡ None
    by_form true is = let read = decimal_of-read text is in absurd (none (decimal_of text) read.form read.same)
    by_form false is = rw is refl
