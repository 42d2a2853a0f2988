-- Values of commands read back from their texts.
use Rattle.std.proofs.Common.{◌≡◌, ℕ, suc, ◌<◌, ◌≤◌, ◌/◌, ◌%◌, leb, eqb, cond, Bool, true, false, ◌&&◌, ◌||◌, List, [], ◌∷◌, length, get_or, map, All, Option, Some, None, Result, Ok, Err, decimal, refl, ap, ap₂, ◌∙◌, arith}
use Rattle.std.specs.Char.{is_ascii_digit}
use Rattle.std.specs.List.{list_all}
use Rattle.std.proofs.lemmas.Bool.Decides.{nat_tests}
use Rattle.std.proofs.lemmas.Fmt.{decimal_nonempty, digits_decimal, digits_value-decimal, first_decimal}
use Rattle.std.proofs.lemmas.List.Elements.{All-cons, All-head, All-nil, All-tail}
use Rattle.std.proofs.lemmas.List.Sums.{AllPass-from_list_all}
use Rattle.hex.specs.Hex.{IsBytes, decode_of, encode_lower, encode_with, lower_digits}
use Rattle.hex.specs.declared.error.FromHexError.{FromHexError}
use Rattle.hex.proofs.HexLemmas.{decode_of-encode_lower, length-encode_with}
use Rattle.sbat.specs.declared.component.Component.{Component}
use Rattle.sbat.specs.Fields.{decimal_of, is_generation, is_name, is_name_byte, is_stamp}
use Rattle.desk_types.specs.Commands.{IsComponent, IsCount, IsDigest, IsStamp}
use Rattle.desk_types.specs.Forms.{is_between}
use Rattle.desk_types.specs.Items.{component_text, components_text, digests_text, stamp_text}
use Rattle.desk_types.proofs.FieldLemmas.{IsItem, after, after-is, before, before-is, first-append, first-by, free-append, free-by, free_list, is_free, items_in, items_in-list_text}
use Rattle.desk_types.proofs.FormLemmas.{both, joined}
use Rattle.desk_types.proofs.NumberLemmas.{own}

-- ---- numbers

pub decimal_digits : (n : ℕ) → IsCount n → list_all is_ascii_digit (decimal n) ≡ true
decimal_digits n small = digits_decimal own n small

pub decimal_read : (n : ℕ) → IsCount n → decimal_of (decimal n) ≡ n
decimal_read n small = digits_value-decimal own n small

pub decimal_free : (n : ℕ) → IsCount n → is_free 32 (decimal n) ≡ true
decimal_free n small = free-by is_ascii_digit 32 refl (decimal n) (decimal_digits n small)

-- ---- digests and certificates

abbrev is_lower_digit : ℕ → Bool
is_lower_digit b = is_between 48 57 b || is_between 97 102 b

digit_of : (i : ℕ) → i < 16 → is_lower_digit (get_or lower_digits i 0) ≡ true
digit_of i small = AllPass-from_list_all is_lower_digit lower_digits refl i 0 small

pub hex_digits : (bs : List ℕ) → IsBytes bs → list_all is_lower_digit (encode_lower bs) ≡ true
unfolding encode_with
hex_digits [] h = refl
hex_digits (b ∷ bs) h =
    let byte : b < 256 = h 0 in
    let high = digit_of (b / 16) (omega arith) in
    let low = digit_of (b % 16) (omega arith) in
    joined _ _ high (joined _ _ low (hex_digits bs (λ i. h (suc i))))

abbrev pub bytes_from : Result (List ℕ) FromHexError → List ℕ
bytes_from (Ok bs) = bs
bytes_from (Err e) = []

abbrev pub hex_in : List ℕ → List ℕ
hex_in text = bytes_from (decode_of text)

pub hex_read : (bs : List ℕ) → IsBytes bs → hex_in (encode_lower bs) ≡ bs
hex_read bs h = ap bytes_from (decode_of-encode_lower bs h)

pub hex_free : (bs : List ℕ) → IsBytes bs → is_free 32 (encode_lower bs) ≡ true
hex_free bs h = free-by is_lower_digit 32 refl (encode_lower bs) (hex_digits bs h)

digest_item : (d : List ℕ) → IsDigest d → IsItem (encode_lower d)
digest_item d h =
    let some : 0 < length (encode_lower d) = omega (arith, length-encode_with lower_digits d, h.size) in
    record {
      free = free-by is_lower_digit 44 refl (encode_lower d) (hex_digits d h.bytes);
      first = first-by is_lower_digit 45 refl (encode_lower d) some (hex_digits d h.bytes);
    }

pub digest_items : (ds : List (List ℕ)) → All IsDigest ds → All IsItem (map encode_lower ds)
digest_items [] h = All-nil IsItem
digest_items (d ∷ ds) h =
    All-cons IsItem (encode_lower d) (map encode_lower ds) (digest_item d (All-head IsDigest d ds h)) (digest_items ds (All-tail IsDigest d ds h))

digests_decoded : (ds : List (List ℕ)) → All IsDigest ds → map hex_in (map encode_lower ds) ≡ ds
digests_decoded [] h = refl
digests_decoded (d ∷ ds) h = ap₂ ◌∷◌ (hex_read d (All-head IsDigest d ds h).bytes) (digests_decoded ds (All-tail IsDigest d ds h))

digests_unspaced : (ds : List (List ℕ)) → All IsDigest ds → All (λ y. is_free 32 y ≡ true) (map encode_lower ds)
digests_unspaced [] h = All-nil (λ y. is_free 32 y ≡ true)
digests_unspaced (d ∷ ds) h =
    All-cons (λ y. is_free 32 y ≡ true) (encode_lower d) (map encode_lower ds) (hex_free d (All-head IsDigest d ds h).bytes)
    (digests_unspaced ds (All-tail IsDigest d ds h))

abbrev pub digests_in : List ℕ → List (List ℕ)
digests_in text = map hex_in (items_in text)

pub digests_read : (ds : List (List ℕ)) → All IsDigest ds → digests_in (digests_text ds) ≡ ds
digests_read ds h = ap (map hex_in) (items_in-list_text (map encode_lower ds) (digest_items ds h)) ∙ digests_decoded ds h

pub digests_free : (ds : List (List ℕ)) → All IsDigest ds → is_free 32 (digests_text ds) ≡ true
digests_free ds h = free_list (map encode_lower ds) (digests_unspaced ds h)

-- ---- components

pub generation_small : (n : ℕ) → is_generation n ≡ true → IsCount n
generation_small n h = let below = (both (leb 1 n) _ h).1 in grind (arith, nat_tests)

pub name_bytes : (name : List ℕ) → is_name name ≡ true → list_all is_name_byte name ≡ true
name_bytes name h = (both (leb 1 (length name) && leb (length name) 128) (list_all is_name_byte name) h).1

pub component_name_free : (name : List ℕ) → is_name name ≡ true → is_free 32 name ≡ true
component_name_free name h = free-by is_name_byte 32 refl name (name_bytes name h)

abbrev pub component_in : List ℕ → Component
component_in text = record { name = after 58 text; generation = decimal_of (before 58 text) }

pub colon_free : (n : ℕ) → IsCount n → is_free 58 (decimal n) ≡ true
colon_free n small = free-by is_ascii_digit 58 refl (decimal n) (decimal_digits n small)

component_made : (a b : List ℕ) (m n : ℕ) → a ≡ b → m ≡ n → (let x : Component = record { name = a; generation = m } in let y : Component = record { name = b; generation = n } in x ≡ y)
component_made a b m n h k = cc

component_read : (c : Component) → IsComponent c → component_in (component_text c) ≡ c
component_read c h =
    let small = generation_small c.generation h.generation in
    let digits = colon_free c.generation small in
    component_made (after 58 (component_text c)) c.name (decimal_of (before 58 (component_text c))) c.generation
    (after-is 58 (decimal c.generation) c.name digits)
    (ap decimal_of (before-is 58 (decimal c.generation) c.name digits) ∙ decimal_read c.generation small)

component_item : (c : Component) → IsComponent c → IsItem (component_text c)
component_item c h =
    let small = generation_small c.generation h.generation in
    let digits = decimal_digits c.generation small in
    let some = decimal_nonempty c.generation small in
    let name = free-by is_name_byte 44 refl c.name (name_bytes c.name h.name) in
    record {
      free = free-append 44 (decimal c.generation) (58 ∷ c.name) (free-by is_ascii_digit 44 refl (decimal c.generation) digits) (joined _ _ refl name);
      first = first-append (decimal c.generation) (58 ∷ c.name) (first-by is_ascii_digit 45 refl (decimal c.generation) some digits);
    }

component_unspaced : (c : Component) → IsComponent c → is_free 32 (component_text c) ≡ true
component_unspaced c h =
    free-append 32 (decimal c.generation) (58 ∷ c.name) (decimal_free c.generation (generation_small c.generation h.generation))
    (joined _ _ refl (component_name_free c.name h.name))

pub component_items : (cs : List Component) → All IsComponent cs → All IsItem (map component_text cs)
component_items [] h = All-nil IsItem
component_items (c ∷ cs) h =
    All-cons IsItem (component_text c) (map component_text cs) (component_item c (All-head IsComponent c cs h)) (component_items cs (All-tail IsComponent c cs h))

components_decoded : (cs : List Component) → All IsComponent cs → map component_in (map component_text cs) ≡ cs
components_decoded [] h = refl
components_decoded (c ∷ cs) h = ap₂ ◌∷◌ (component_read c (All-head IsComponent c cs h)) (components_decoded cs (All-tail IsComponent c cs h))

components_unspaced : (cs : List Component) → All IsComponent cs → All (λ y. is_free 32 y ≡ true) (map component_text cs)
components_unspaced [] h = All-nil (λ y. is_free 32 y ≡ true)
components_unspaced (c ∷ cs) h =
    All-cons (λ y. is_free 32 y ≡ true) (component_text c) (map component_text cs) (component_unspaced c (All-head IsComponent c cs h))
    (components_unspaced cs (All-tail IsComponent c cs h))

abbrev pub components_in : List ℕ → List Component
components_in text = map component_in (items_in text)

pub components_read : (cs : List Component) → All IsComponent cs → components_in (components_text cs) ≡ cs
components_read cs h = ap (map component_in) (items_in-list_text (map component_text cs) (component_items cs h)) ∙ components_decoded cs h

pub components_free : (cs : List Component) → All IsComponent cs → is_free 32 (components_text cs) ≡ true
components_free cs h = free_list (map component_text cs) (components_unspaced cs h)

-- ---- stamps

pub stamp_size : (n : ℕ) → is_stamp n ≡ true → (1 ≤ n) × IsCount n
stamp_size n h =
    let parts = both (leb 1000000000 n) _ h in
    let low = parts.0 in
    let high = parts.1 in
    (grind (arith, nat_tests), grind (arith, nat_tests))

abbrev pub stamp_in : List ℕ → Option ℕ
stamp_in text = cond (eqb (get_or text 0 0) 48) None (Some (decimal_of text))

pub stamp_read : (stamp : Option ℕ) → IsStamp stamp → stamp_in (stamp_text stamp) ≡ stamp
stamp_read None h = refl
stamp_read (Some n) h =
    let size = stamp_size n h in
    let first : eqb (get_or (decimal n) 0 0) 48 ≡ false = grind (arith, nat_tests, first_decimal n (omega arith) (omega arith)) in
    rw first (ap Some (decimal_read n size.1))

pub stamp_free : (stamp : Option ℕ) → IsStamp stamp → is_free 32 (stamp_text stamp) ≡ true
stamp_free None h = refl
stamp_free (Some n) h = decimal_free n (stamp_size n h).1
