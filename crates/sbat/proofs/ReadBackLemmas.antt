-- A level's text, read back as that level.
use Rattle.std.proofs.Common.{◌≡◌, ℕ, ◌<◌, ◌≤◌, ◌^◌, ltb, eqb, Bool, true, false, cond, T, ◌&&◌, List, [], ◌∷◌, ◌++◌, length, map, Option, Some, None, Ok, codes, decimal, refl, sym, ap, ◌∙◌, append_assoc, length-append, arith}
use Rattle.std.specs.declared.cmp.Ordering.{Ordering}
use Rattle.std.specs.declared.cmp.Ordering.TheVariants.{Less, Equal, Greater}
use Rattle.std.specs.Char.{is_ascii_graphic}
use Rattle.std.specs.Cmp.Lexicographic.{nat_list_cmp_total, slice_cmp}
use Rattle.std.specs.FinMap.{entries, entries_sorted, find, from_entries, get, get-entries, get-from_entries, insert, len, same_map}
use Rattle.std.specs.FinMap.Entries.{below_all, is_sorted}
use Rattle.std.specs.List.{list_all, position_or_len}
use Rattle.std.specs.Ordering.{is_eq, is_lt, nat_cmp}
use Rattle.std.proofs.lemmas.Bool.Decides.{nat_tests}
use Rattle.std.proofs.lemmas.Cmp.{tied_itself}
use Rattle.std.proofs.lemmas.List.{take_all}
use Rattle.std.proofs.lemmas.List.Folds.{list_all-append}
use Rattle.std.proofs.lemmas.List.Sums.{AllPass-from_list_all, position_or_len_is}
use Rattle.std.proofs.lemmas.Map.Text.{is_eq-slice_cmp}
use Rattle.base.specs.Lines.{lines_of, numbered_from, named_in}
use Rattle.sbat.specs.Fields.{is_stamp, sbat}
use Rattle.sbat.specs.Levels.{Generations, IsLevel, Stamped, begun, generations_in, greater, level_in, level_of, level_row, raised, stamp_in, stamp_on, with_rows}
use Rattle.sbat.specs.Refusals.{IsLevelOf, most_names}
use Rattle.sbat.specs.Texts.{before_zero, rows_of, without_mark}
use Rattle.sbat.specs.Writing.{head_text, level_text, row_text, rows_text}
use Rattle.sbat.proofs.DigitLemmas.{both_parts, digits-decimal, first_part, second_part, stamp_of-decimal}
use Rattle.sbat.proofs.GenerationLemmas.{names_differ, ties, ties_are_one}
use Rattle.sbat.proofs.TextLemmas.{AreRight, IsGraphic, IsRight, fields_of-digits, graphic_both, graphic_digits, graphic_line, graphic_line_text, line_text, numbered_line, row_with, named_in-text}

-- no byte is zero
abbrev AreSet : List ℕ → Type 0
AreSet bs = list_all (λ b. ltb 0 b) bs ≡ true

set_graphic : (bs : List ℕ) → IsGraphic bs → AreSet bs
set_graphic [] h = refl
set_graphic (b ∷ bs) h =
    let here = first_part (is_ascii_graphic b) (list_all is_ascii_graphic bs) h in
    both_parts (ltb 0 b) (list_all (λ b. ltb 0 b) bs) (grind (arith, nat_tests, here)) (set_graphic bs (second_part (is_ascii_graphic b) _ h))

set_both : (xs ys : List ℕ) → AreSet xs → AreSet ys → AreSet (xs ++ ys)
set_both xs ys h k = list_all-append (λ b. ltb 0 b) xs ys ∙ both_parts _ _ h k

set_rows : (es : List (List ℕ × ℕ)) → AreRight es → AreSet (rows_text es)
set_rows [] h = refl
set_rows (e ∷ es) h =
    set_both (row_text e.0 e.1) (rows_text es)
    (set_both (line_text e) (codes "\n") (set_graphic (line_text e) (graphic_line_text e h.0)) refl)
    (set_rows es h.1)

-- a text without a zero byte is whole
whole_text : (bs : List ℕ) → AreSet bs → before_zero bs ≡ bs
whole_text bs h =
    let end : position_or_len (λ b. eqb b 0) bs ≡ length bs =
    position_or_len_is (λ b. eqb b 0) bs (length bs) 0 (omega arith)
    (λ k l. let here = AllPass-from_list_all (λ b. ltb 0 b) bs h k 0 l in grind (arith, nat_tests, here))
    (λ l. absurd (omega arith)) in
    take_all (position_or_len (λ b. eqb b 0) bs) bs (omega arith)

-- the first line, without its LF
abbrev head_line : ℕ → List ℕ
head_line stamp = codes "sbat,1," ++ decimal stamp

stamp_fits : (stamp : ℕ) → is_stamp stamp ≡ true → stamp < 2 ^ 64
stamp_fits stamp h = grind (arith, nat_tests, h)

stamp_on-head : (stamp : ℕ) → is_stamp stamp ≡ true → stamp_on (head_line stamp) ≡ Some stamp
stamp_on-head stamp h =
    ap (λ fields. stamp_in (sbat ∷ (49 ∷ []) ∷ fields)) (fields_of-digits (decimal stamp) (digits-decimal stamp (stamp_fits stamp h)))
    ∙ stamp_of-decimal stamp h

graphic_head : (stamp : ℕ) → is_stamp stamp ≡ true → IsGraphic (head_line stamp)
graphic_head stamp h =
    graphic_both (codes "sbat,1,") (decimal stamp) refl (graphic_digits (decimal stamp) (digits-decimal stamp (stamp_fits stamp h)))

-- the lines of the whole text
rows_of-text : (stamp : ℕ) (es : List (List ℕ × ℕ)) → is_stamp stamp ≡ true → AreRight es → rows_of (head_text stamp ++ rows_text es) ≡ record { number = 1; text = head_line stamp } ∷ numbered_from 2 (lines_of (rows_text es))
rows_of-text stamp es h right =
    let all : AreSet (head_text stamp ++ rows_text es) =
    set_both (head_text stamp) (rows_text es)
    (set_both (head_line stamp) (codes "\n") (set_graphic (head_line stamp) (graphic_head stamp h)) refl)
    (set_rows es right) in
    ap (λ t. numbered_from 1 (lines_of (without_mark t))) (whole_text (head_text stamp ++ rows_text es) all)
    ∙ ap (λ t. numbered_from 1 (lines_of t)) (append_assoc (head_line stamp) (codes "\n") (rows_text es))
    ∙ ap (numbered_from 1) (graphic_line (head_line stamp) (rows_text es) (graphic_head stamp h))
    ∙ numbered_line 1 (head_line stamp) (lines_of (rows_text es)) (omega (arith, length-append (codes "sbat,1,") (decimal stamp)))

level_of-text : (stamp : ℕ) (es : List (List ℕ × ℕ)) → is_stamp stamp ≡ true → AreRight es → level_of (head_text stamp ++ rows_text es) ≡ Ok (record { stamp = stamp; generations = generations_in (map row_with es) })
level_of-text stamp es h right =
    ap level_in (rows_of-text stamp es h right)
    ∙ ap (λ s. begun 1 s (named_in level_row (numbered_from 2 (lines_of (rows_text es))))) (stamp_on-head stamp h)
    ∙ ap (with_rows stamp) (named_in-text 2 es right)

-- names in order: one that is below all others is none of them
less_is : (o : Ordering) → T (is_lt o) → is_eq o ≡ false
less_is Less h = refl
less_is Equal h = absurd h
less_is Greater h = absurd h

left_of : (a b : Bool) → T (a && b) → T a
left_of true b h = tt
left_of false b h = absurd h

right_of : (a b : Bool) → T (a && b) → T b
right_of true b h = h
right_of false b h = absurd h

not_found : (x : List ℕ) (es : List (List ℕ × ℕ)) → T (below_all (slice_cmp nat_cmp) x es) → find (slice_cmp nat_cmp) x es ≡ None
not_found x [] h = refl
not_found x (e ∷ es) h =
    ap (λ b. cond b (Some e.1) (find (slice_cmp nat_cmp) x es)) (less_is (slice_cmp nat_cmp x e.0) (left_of _ (below_all (slice_cmp nat_cmp) x es) h))
    ∙ not_found x es (right_of (is_lt (slice_cmp nat_cmp x e.0)) _ h)

-- rows of names in order make the map of those entries
generations_in-entries : (es : List (List ℕ × ℕ)) → T (is_sorted (slice_cmp nat_cmp) es) → generations_in (map row_with es) ≡ from_entries es
generations_in-entries [] h = refl
generations_in-entries (e ∷ es) h =
    let new : get (from_entries {R = slice_cmp nat_cmp} es) e.0 ≡ None = get-from_entries nat_list_cmp_total es e.0 ∙ not_found e.0 es (left_of _ (is_sorted (slice_cmp nat_cmp) es) h) in
    ap (λ m. raised m (row_with e)) (generations_in-entries es (right_of (below_all (slice_cmp nat_cmp) e.0 es) _ h))
    ∙ ap (λ g. insert (from_entries es) e.0 (greater g e.1)) new

from_entries-entries : (m : Generations) → from_entries (entries m) ≡ m
from_entries-entries m = same_map nat_list_cmp_total names_differ _ _ (λ q. get-from_entries nat_list_cmp_total (entries m) q ∙ sym (get-entries m q))

-- an entry that is found among names in order is right, so all entries are
abbrev FindsRight : List (List ℕ × ℕ) → Type 0
FindsRight es = (q : List ℕ) (n : ℕ) → find (slice_cmp nat_cmp) q es ≡ Some n → IsRight (q, n)

first_found : (e : List ℕ × ℕ) (es : List (List ℕ × ℕ)) → find (slice_cmp nat_cmp) e.0 (e ∷ es) ≡ Some e.1
first_found e es = ap (λ o. cond (is_eq o) (Some e.1) (find (slice_cmp nat_cmp) e.0 es)) (tied_itself nat_list_cmp_total e.0)

some_is_not_none : (n : ℕ) (g : Option ℕ) → g ≡ None → g ≡ Some n → ⊥
some_is_not_none n g h e = absurd (cc)

later_found : (b : Bool) (q : List ℕ) (e : List ℕ × ℕ) (es : List (List ℕ × ℕ)) (n : ℕ) → ties q e.0 ≡ b → T (below_all (slice_cmp nat_cmp) e.0 es) → find (slice_cmp nat_cmp) q es ≡ Some n → cond b (Some e.1) (find (slice_cmp nat_cmp) q es) ≡ Some n
later_found true q e es n t h f =
    absurd (some_is_not_none n (find (slice_cmp nat_cmp) q es) (ap (λ x. find (slice_cmp nat_cmp) x es) (ties_are_one q e.0 t) ∙ not_found e.0 es h) f)
later_found false q e es n t h f = f

are_right : (es : List (List ℕ × ℕ)) → T (is_sorted (slice_cmp nat_cmp) es) → FindsRight es → AreRight es
are_right [] h right = tt
are_right (e ∷ es) h right =
    let below = left_of (below_all (slice_cmp nat_cmp) e.0 es) (is_sorted (slice_cmp nat_cmp) es) h in (
      right e.0 e.1 (first_found e es),
      are_right es (right_of (below_all (slice_cmp nat_cmp) e.0 es) (is_sorted (slice_cmp nat_cmp) es) h)
          (λ q n f. right q n (later_found (ties q e.0) q e es n refl below f)),
    )

-- a name that has a generation where `sbat` has none is another
is_other : (b : Bool) (m : Generations) (q : List ℕ) (n : ℕ) → ties q sbat ≡ b → get m sbat ≡ None → get m q ≡ Some n → b ≡ false
is_other true m q n t none e = absurd (some_is_not_none n (get m q) (ap (get m) (ties_are_one q sbat t) ∙ none) e)
is_other false m q n t none e = refl

-- the entries of a level
pub entries_right : (l : Stamped) → IsLevel l → AreRight (entries l.generations)
entries_right l h =
    are_right (entries l.generations) (entries_sorted l.generations) (λ q n f.
    let e = get-entries l.generations q ∙ f in
    record {
      name = h.named q n e;
      generation = h.counted q n e;
      other = sym (is_eq-slice_cmp q sbat) ∙ is_other (ties q sbat) l.generations q n refl h.others e;
    })

pub reads_back : (l : Stamped) → IsLevel l → len l.generations ≤ most_names → IsLevelOf (level_text l) l
reads_back l h few =
    let es = entries l.generations in
    let right = entries_right l h in (
      level_of-text l.stamp es h.stamped right
          ∙ ap (λ m. Ok (record { stamp = l.stamp; generations = m })) (generations_in-entries es (entries_sorted l.generations) ∙ from_entries-entries l.generations),
      few,
    )
