-- The rows of an image, read line by line.
use Rattle.std.proofs.Common.{◌≡◌, ◌+◌, ◌<◌, ◌≤◌, leb, Bool, true, false, cond, List, [], ◌∷◌, ◌++◌, length, take, Some, None, Ok, Err, refl, sym, ap, subst, ◌∙◌, length-append, length-take, arith}
use Rattle.std.proofs.lemmas.Bool.Decides.{nat_tests}
use Rattle.std.proofs.lemmas.List.{take_all, take-append-le, append-nil}
use Rattle.std.specs.Result.{IsOkAnd}
use Rattle.base.specs.Lines.{Numbered, named_at, named_in}
use Rattle.base.proofs.NamedLemmas.{put_before, put_before-more, put_before-nil}
use Rattle.sbat.specs.Rows.{Row, image_row}
use Rattle.base.specs.Limits.{most_components}

-- all rows so far, of which the first are kept, one more than the limit at most
pub record Reading (kept : List Row) (lines all : List Numbered) : Type 0 where
  pub full : List Row
  pub same : put_before full (named_in image_row lines) ≡ named_in image_row all
  pub first : kept ≡ take (most_components + 1) full

pub Reading-begins : (all : List Numbered) → Reading [] all all
Reading-begins all = record { full = []; same = put_before-nil (named_in image_row all); first = refl }

-- one more row, which was kept unless there was no room
next_row : (full : List Row) (l : Numbered) (lines ls : List Numbered) (r : Row) → lines ≡ l ∷ ls → image_row l.text ≡ Some r → put_before full (named_in image_row lines) ≡ put_before (full ++ r ∷ []) (named_in image_row ls)
next_row full l lines ls r h e =
    ap (λ x. put_before full (named_in image_row x)) h
    ∙ ap (λ x. put_before full (named_at l.number x (named_in image_row ls))) e
    ∙ put_before-more full r (named_in image_row ls)

Reading-kept : (kept : List Row) (l : Numbered) (lines ls all : List Numbered) (r : Row) → Reading kept lines all → lines ≡ l ∷ ls → image_row l.text ≡ Some r → length kept ≤ most_components → Reading (kept ++ r ∷ []) ls all
Reading-kept kept l lines ls all r h is e room =
    let few : length h.full ≤ most_components = omega (arith, ap length h.first, length-take (most_components + 1) h.full) in
    let whole : take (most_components + 1) h.full ≡ h.full = take_all (most_components + 1) h.full (omega arith) in
    let more : take (most_components + 1) (h.full ++ r ∷ []) ≡ h.full ++ r ∷ [] = take_all (most_components + 1) (h.full ++ r ∷ []) (omega (arith, length-append h.full (r ∷ []))) in
    record {
      full = h.full ++ r ∷ [];
      same = sym (next_row h.full l lines ls r is e) ∙ h.same;
      first = ap (λ k. k ++ r ∷ []) (h.first ∙ whole) ∙ sym more;
    }

Reading-passed : (kept : List Row) (l : Numbered) (lines ls all : List Numbered) (r : Row) → Reading kept lines all → lines ≡ l ∷ ls → image_row l.text ≡ Some r → most_components < length kept → Reading kept ls all
Reading-passed kept l lines ls all r h is e full =
    let many : most_components + 1 ≤ length h.full = omega (arith, ap length h.first, length-take (most_components + 1) h.full) in
    record {
      full = h.full ++ r ∷ [];
      same = sym (next_row h.full l lines ls r is e) ∙ h.same;
      first = h.first ∙ sym (take-append-le (most_components + 1) h.full (r ∷ []) many);
    }

-- one more row, kept where there is room
next_kept : (b : Bool) (kept new : List Row) (l : Numbered) (lines ls all : List Numbered) (r : Row) → leb (length kept) most_components ≡ b → new ≡ cond b (kept ++ r ∷ []) kept → Reading kept lines all → lines ≡ l ∷ ls → image_row l.text ≡ Some r → Reading new ls all
next_kept true kept new l lines ls all r room is h goes e = subst (λ k. Reading k ls all) (sym is) (Reading-kept kept l lines ls all r h goes e (grind (arith, nat_tests, room)))
next_kept false kept new l lines ls all r room is h goes e = subst (λ k. Reading k ls all) (sym is) (Reading-passed kept l lines ls all r h goes e (grind (arith, nat_tests, room)))

pub Reading-next : (kept new : List Row) (l : Numbered) (lines ls all : List Numbered) (r : Row) → new ≡ cond (leb (length kept) most_components) (kept ++ r ∷ []) kept → Reading kept lines all → lines ≡ l ∷ ls → image_row l.text ≡ Some r → Reading new ls all
Reading-next kept new l lines ls all r = next_kept (leb (length kept) most_components) kept new l lines ls all r refl

-- the first line that is no row
pub Reading-wrong : (kept : List Row) (l : Numbered) (lines ls all : List Numbered) → Reading kept lines all → lines ≡ l ∷ ls → image_row l.text ≡ None → named_in image_row all ≡ Err l.number
Reading-wrong kept l lines ls all h is e =
    sym h.same
    ∙ ap (λ x. put_before h.full (named_in image_row x)) is
    ∙ ap (λ x. put_before h.full (named_at l.number x (named_in image_row ls))) e

-- no line is left
Reading-all : (kept : List Row) (lines all : List Numbered) (h : Reading kept lines all) → lines ≡ [] → named_in image_row all ≡ Ok h.full
Reading-all kept lines all h e =
    sym h.same ∙ ap (λ x. put_before h.full (named_in image_row x)) e ∙ ap Ok (append-nil h.full)

pub Reading-ends : (kept : List Row) (lines all : List Numbered) → Reading kept lines all → lines ≡ [] → length kept ≤ most_components → named_in image_row all ≡ Ok kept
Reading-ends kept lines all h e room =
    let whole : take (most_components + 1) h.full ≡ h.full = take_all (most_components + 1) h.full (omega (arith, ap length h.first, length-take (most_components + 1) h.full)) in
    Reading-all kept lines all h e ∙ ap Ok (sym (h.first ∙ whole))

-- no line is left, and more rows are kept than the limit
pub Reading-long : (kept : List Row) (lines all : List Numbered) → Reading kept lines all → lines ≡ [] → most_components < length kept → IsOkAnd (named_in image_row all) (λ rows. most_components < length rows)
Reading-long kept lines all h e long =
    let many : most_components < length h.full = omega (arith, ap length h.first, length-take (most_components + 1) h.full) in
    subst (λ r. IsOkAnd r (λ rows. most_components < length rows)) (sym (Reading-all kept lines all h e)) many
