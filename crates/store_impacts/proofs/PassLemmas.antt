-- Rows that a pass takes one after another, as the calls of a history.
use Rattle.std.proofs.Common.{◌≡◌, List, [], ◌∷◌, ◌++◌, map, reverse, refl, sym, ap, subst, ◌∙◌, All}
use Rattle.std.proofs.lemmas.List.{map-append}
use Rattle.std.proofs.lemmas.List.Elements.{All-head, All-tail}
use mathlib.Core.List.{reverse-cons}
use Rattle.sqlite.specs.Order.{Row}
use Rattle.desk_history.specs.Calls.{History}
use Rattle.desk_history.specs.Formed.{IsItem}
use Rattle.desk_history.specs.Replies.{minute_of}
use Rattle.desk_history.specs.Verdicts.{Standing}
use Rattle.store_sql.specs.Effects.{TakesAll}
use Rattle.store_exports.specs.Lines.{columns_of, columns_row}
use Rattle.store_exports.proofs.GatherLemmas.{parted}
use Rattle.store_exports.proofs.ListLemmas.{called}
use Rattle.store_impacts.specs.Passing.{passed_by}
use Rattle.store_impacts.specs.Steps.{Seen, SeesCall, seen_of, with_image}
use Rattle.store_impacts.proofs.BroughtLemmas.{sees_next}

module _ {T E : Type 0} (entries : T → E) (standing : E → Standing) (seen : T → Seen) where
  abbrev pub Takes : T → Row → T → Type 0
  Takes old row new = (entries new ≡ entries old) × SeesCall (standing (entries old)) row (seen old) (seen new)

  -- the calls of the history, the first first
  abbrev rows_of : History → List Row
  rows_of cs = map columns_row (reverse (called cs))

  -- a pass over all calls of a history sees all of it
  pub passed : (cs : History) → All IsItem cs → (a b : T) → seen a ≡ seen_of (standing (entries a)) [] → TakesAll Takes a (rows_of cs) b
      → (entries b ≡ entries a) × (seen b ≡ seen_of (standing (entries a)) cs)
  passed [] all a b start h = (ap entries (sym h), ap seen (sym h) ∙ start)
  passed (i ∷ cs) all a b start h =
      let m = columns_of (minute_of cs i) in
      let s = standing (entries a) in
      let own = All-head IsItem i cs all in
      let split : TakesAll Takes a (rows_of cs ++ columns_row m ∷ []) b =
      subst (λ l. TakesAll Takes a l b) (ap (map columns_row) (reverse-cons m (called cs)) ∙ map-append columns_row (reverse (called cs)) (m ∷ [])) h in
      let it = parted Takes (rows_of cs) (columns_row m ∷ []) a b split in
      let mid = it.0 in
      let before = passed cs (All-tail IsItem i cs all) a mid start it.1 in
      let end = it.2.0 in
      let one = it.2.1 in
      let last : end ≡ b = it.2.2 in
      let sees : seen end ≡ with_image (standing (entries mid)) m.number (seen mid) (passed_by i.call.command) = one.1 m i.call.command own.forms own.limits refl refl in
      let known : seen end ≡ with_image s m.number (seen_of s cs) (passed_by i.call.command) =
      subst (λ (x : Seen). seen end ≡ with_image s m.number x (passed_by i.call.command)) before.1
      (subst (λ e. seen end ≡ with_image (standing e) m.number (seen mid) (passed_by i.call.command)) before.0 sees) in (
        ap entries (sym last) ∙ one.0 ∙ before.0,
        ap seen (sym last) ∙ known ∙ sees_next s cs i,
      )

  -- the same, for rows that are those of the history
  pub passed_rows : (cs : History) → All IsItem cs → (rows : List Row) → rows ≡ rows_of cs → (a b : T) → TakesAll Takes a rows b → seen a ≡ seen_of (standing (entries a)) []
      → seen b ≡ seen_of (standing (entries a)) cs
  passed_rows cs all rows are a b h start = (passed cs all a b start (subst (λ l. TakesAll Takes a l b) are h)).1
