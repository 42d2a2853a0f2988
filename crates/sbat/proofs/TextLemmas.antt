-- The text of a level, read back.
use Rattle.std.proofs.Common.{◌≡◌, ℕ, ◌+◌, ◌<◌, true, false, not, List, [], ◌∷◌, ◌++◌, length, get_or, map, Some, Ok, codes, decimal, refl, ap, ◌∙◌, append_assoc, length-append, arith}
use Rattle.std.specs.Char.{is_ascii_digit, is_ascii_graphic}
use Rattle.std.specs.List.{list_all}
use Rattle.std.specs.Str.{bytes_eq}
use Rattle.std.proofs.lemmas.Bool.Decides.{nat_tests}
use Rattle.std.proofs.lemmas.Grind.{common_steps}
use Rattle.std.proofs.lemmas.List.Folds.{list_all-append}
use Rattle.std.proofs.lemmas.List.Splits.{slice_split_at, slice_split_none}
use Rattle.std.proofs.lemmas.List.Sums.{AllPass-from_list_all}
use Rattle.base.specs.Lines.{lines_of, numbered_from, named_at, named_in}
use Rattle.base.proofs.LineLemmas.{lines_of-lf}
use Rattle.sbat.specs.Fields.{fields_of, is_comma, is_generation, is_name, is_name_byte, sbat}
use Rattle.sbat.specs.Levels.{level_row}
use Rattle.sbat.specs.Rows.{Row}
use Rattle.sbat.specs.Writing.{rows_text}
use Rattle.sbat.proofs.DigitLemmas.{AreDigits, both_parts, digits-decimal, first_part, generation_of-decimal, second_part}

-- all bytes are graphic
abbrev pub IsGraphic : List ℕ → Type 0
IsGraphic bs = list_all is_ascii_graphic bs ≡ true

pub graphic_digits : (ds : List ℕ) → AreDigits ds → IsGraphic ds
graphic_digits [] h = refl
graphic_digits (d ∷ ds) h =
    let here = first_part (is_ascii_digit d) (list_all is_ascii_digit ds) h in
    both_parts (is_ascii_graphic d) (list_all is_ascii_graphic ds) (grind (arith, nat_tests, here)) (graphic_digits ds (second_part (is_ascii_digit d) _ h))

graphic_names : (bs : List ℕ) → list_all is_name_byte bs ≡ true → IsGraphic bs
graphic_names [] h = refl
graphic_names (b ∷ bs) h =
    let here = first_part (is_name_byte b) (list_all is_name_byte bs) h in
    both_parts (is_ascii_graphic b) (list_all is_ascii_graphic bs) (first_part (is_ascii_graphic b) _ here) (graphic_names bs (second_part (is_name_byte b) _ h))

pub graphic_both : (xs ys : List ℕ) → IsGraphic xs → IsGraphic ys → IsGraphic (xs ++ ys)
graphic_both xs ys h k = list_all-append is_ascii_graphic xs ys ∙ both_parts _ _ h k

graphic_at : (line : List ℕ) → IsGraphic line → (k : ℕ) → k < length line → is_ascii_graphic (get_or line k 0) ≡ true
graphic_at line h k l = AllPass-from_list_all is_ascii_graphic line h k 0 l

-- a line of graphic bytes ends at its LF
pub graphic_line : (line rest : List ℕ) → IsGraphic line → lines_of (line ++ 10 ∷ rest) ≡ line ∷ lines_of rest
graphic_line line rest h =
    lines_of-lf line rest
    (record { at = λ k l. let here = graphic_at line h k l in grind (arith, nat_tests, here) })
    (λ k e. let here = graphic_at line h k (omega arith) in grind (arith, nat_tests, here))

-- a line of some bytes keeps its number
pub numbered_line : (n : ℕ) (line : List ℕ) (lines : List (List ℕ)) → 0 < length line → numbered_from n (line ∷ lines) ≡ record { number = n; text = line } ∷ numbered_from (n + 1) lines
numbered_line n [] lines h = absurd (omega arith)
numbered_line n (b ∷ bs) lines h = refl

-- a name, a generation
pub record IsRight (e : List ℕ × ℕ) : Type 0 where
  pub name : is_name e.0 ≡ true
  pub generation : is_generation e.1 ≡ true
  pub other : bytes_eq e.0 sbat ≡ false

name_bytes : (name : List ℕ) → is_name name ≡ true → list_all is_name_byte name ≡ true
name_bytes name h = second_part _ (list_all is_name_byte name) h

no_comma_in_name : (bs : List ℕ) → list_all is_name_byte bs ≡ true → (k d : ℕ) → k < length bs → is_comma (get_or bs k d) ≡ false
no_comma_in_name bs h k d l =
    let here = AllPass-from_list_all is_name_byte bs h k d l in
    grind (arith, nat_tests, second_part (is_ascii_graphic (get_or bs k d)) (not (is_comma (get_or bs k d))) here)

no_comma_in_digits : (ds : List ℕ) → AreDigits ds → (k d : ℕ) → k < length ds → is_comma (get_or ds k d) ≡ false
no_comma_in_digits ds h k d l = let here = AllPass-from_list_all is_ascii_digit ds h k d l in grind (arith, nat_tests, here)

pub fields_of-digits : (ds : List ℕ) → AreDigits ds → fields_of ds ≡ ds ∷ []
fields_of-digits ds h = slice_split_none is_comma ds (no_comma_in_digits ds h)

-- the line of an entry, without its LF
abbrev pub line_text : List ℕ × ℕ → List ℕ
line_text e = e.0 ++ codes "," ++ decimal e.1

entry_digits : (e : List ℕ × ℕ) → IsRight e → AreDigits (decimal e.1)
entry_digits e h = let count = h.generation in digits-decimal e.1 (grind (arith, nat_tests, count))

pub fields_of-line : (e : List ℕ × ℕ) → IsRight e → fields_of (line_text e) ≡ e.0 ∷ decimal e.1 ∷ []
fields_of-line e h =
    ap fields_of (append_assoc e.0 (44 ∷ []) (decimal e.1))
    ∙ slice_split_at is_comma e.0 44 (decimal e.1) (no_comma_in_name e.0 (name_bytes e.0 h.name)) refl
    ∙ ap (λ fields. e.0 ∷ fields) (fields_of-digits (decimal e.1) (entry_digits e h))

-- the row of an entry
abbrev pub row_with : List ℕ × ℕ → Row
row_with e = record { name = e.0; generation = e.1 }

pub level_row-line : (e : List ℕ × ℕ) → IsRight e → level_row (line_text e) ≡ Some (row_with e)
level_row-line e h =
    let fields = fields_of-line e h in
    let count = generation_of-decimal e.1 h.generation in
    let name = h.name in
    let other = h.other in
    grind (arith, common_steps, fields, count, name, other)

-- all entries are right
abbrev pub AreRight : List (List ℕ × ℕ) → Type 0
AreRight [] = Unit {0}
AreRight (e ∷ es) = IsRight e × AreRight es

pub graphic_line_text : (e : List ℕ × ℕ) → IsRight e → IsGraphic (line_text e)
graphic_line_text e h =
    graphic_both (e.0 ++ codes ",") (decimal e.1)
    (graphic_both e.0 (codes ",") (graphic_names e.0 (name_bytes e.0 h.name)) refl)
    (graphic_digits (decimal e.1) (entry_digits e h))

line_length : (e : List ℕ × ℕ) → 0 < length (line_text e)
line_length e = omega (arith, length-append (e.0 ++ codes ",") (decimal e.1), length-append e.0 (codes ","))

-- the lines of entries are their rows
pub named_in-text : (n : ℕ) (es : List (List ℕ × ℕ)) → AreRight es → named_in level_row (numbered_from n (lines_of (rows_text es))) ≡ Ok (map row_with es)
named_in-text n [] h = refl
named_in-text n (e ∷ es) h =
    let cut : rows_text (e ∷ es) ≡ line_text e ++ 10 ∷ rows_text es = append_assoc (line_text e) (codes "\n") (rows_text es) in
    let lines = ap lines_of cut ∙ graphic_line (line_text e) (rows_text es) (graphic_line_text e h.0) in
    let numbered = ap (numbered_from n) lines ∙ numbered_line n (line_text e) (lines_of (rows_text es)) (line_length e) in
    let rest = named_in-text (n + 1) es h.1 in
    ap (named_in level_row) numbered
    ∙ ap (λ r. named_at n r (named_in level_row (numbered_from (n + 1) (lines_of (rows_text es))))) (level_row-line e h.0)
    ∙ ap (λ r. named_at n (Some (row_with e)) r) rest
