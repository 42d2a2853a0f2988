-- Bytes of names, keys, titles, notes and reasons.
use Rattle.std.proofs.Common.{◌≡◌, ℕ, zero, suc, leb, Bool, true, false, ◌&&◌, List, [], ◌∷◌, length, get_or, refl, arith}
use Rattle.std.specs.Char.{is_ascii_lowercase}
use Rattle.std.specs.List.{list_all}
use Rattle.std.specs.Str.{IsAscii}
use Rattle.std.proofs.lemmas.Bool.Decides.{nat_tests}
use Rattle.desk_types.specs.Forms.{is_between, is_name_byte, is_person_name, is_key, is_title, is_note, is_reason}

pub both : (a b : Bool) → (a && b) ≡ true → (a ≡ true) × (b ≡ true)
both true b h = (refl, h)
both false b h = absurd (cc)

pub joined : (a b : Bool) → a ≡ true → b ≡ true → (a && b) ≡ true
joined a b h k = cc

-- bytes that each pass a test each pass a weaker one
pub list_all-weaker : (p q : ℕ → Bool) → ((b : ℕ) → p b ≡ true → q b ≡ true) → (bs : List ℕ) → list_all p bs ≡ true → list_all q bs ≡ true
list_all-weaker p q weaker [] h = refl
list_all-weaker p q weaker (b ∷ bs) h =
    let parts = both (p b) (list_all p bs) h in
    joined (q b) (list_all q bs) (weaker b parts.0) (list_all-weaker p q weaker bs parts.1)

pub printable-visible : (b : ℕ) → is_between 33 126 b ≡ true → is_between 32 126 b ≡ true
printable-visible b h =
    let parts = both (leb 33 b) (leb b 126) h in
    let low = parts.0 in
    let high = parts.1 in
    joined (leb 32 b) (leb b 126) (grind (arith, nat_tests)) high

pub printable-name_byte : (b : ℕ) → is_name_byte b ≡ true → is_between 32 126 b ≡ true
printable-name_byte b h = grind (arith, nat_tests, h)

pub printable-ascii : (bs : List ℕ) → list_all (is_between 32 126) bs ≡ true → IsAscii bs
printable-ascii [] h i = omega arith
printable-ascii (b ∷ bs) h zero =
    let high : leb b 126 ≡ true = (both (leb 32 b) (leb b 126) (both (is_between 32 126 b) (list_all (is_between 32 126) bs) h).0).1 in
    grind (arith, nat_tests, high)
printable-ascii (b ∷ bs) h (suc i) = printable-ascii bs (both (is_between 32 126 b) (list_all (is_between 32 126) bs) h).1 i

pub printable-person_name : (bs : List ℕ) → is_person_name bs ≡ true → list_all (is_between 32 126) bs ≡ true
printable-person_name bs h =
    list_all-weaker is_name_byte (is_between 32 126) printable-name_byte bs
    (both (leb 1 (length bs) && leb (length bs) 32 && is_ascii_lowercase (get_or bs 0 0)) (list_all is_name_byte bs) h).1

pub printable-key : (bs : List ℕ) → is_key bs ≡ true → list_all (is_between 32 126) bs ≡ true
printable-key bs h =
    list_all-weaker (is_between 33 126) (is_between 32 126) printable-visible bs
    (both (leb 1 (length bs) && leb (length bs) 64) (list_all (is_between 33 126) bs) h).1

pub printable-title : (bs : List ℕ) → is_title bs ≡ true → list_all (is_between 32 126) bs ≡ true
printable-title bs h = (both (leb 1 (length bs) && leb (length bs) 120) (list_all (is_between 32 126) bs) h).1

pub printable-note : (bs : List ℕ) → is_note bs ≡ true → list_all (is_between 32 126) bs ≡ true
printable-note bs h = (both (leb (length bs) 200) (list_all (is_between 32 126) bs) h).1

pub printable-reason : (bs : List ℕ) → is_reason bs ≡ true → list_all (is_between 32 126) bs ≡ true
printable-reason bs h = (both _ (list_all (is_between 32 126) bs) h).1
