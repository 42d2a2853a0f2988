use Rattle.std.proofs.Common.{◌≡◌, ◌<◌, ◌≤◌, ◌-◌, ◌∷◌, List, ℕ, false, eqb, length, drop, sym, ap, ap₂, ◌∙◌, subst, arith, rules}
use Rattle.std.proofs.lemmas.Bool.Decides.{nat_tests}
use Rattle.std.proofs.lemmas.List.{length-drop}
use Rattle.siglist.specs.SignatureLists.{IsRow, Placed, placed_from}
use Rattle.siglist.specs.Heads.{size_at}
use Rattle.siglist.specs.Steps.Reading.{front_of, placed, row_of}
use Rattle.siglist.proofs.RowLemmas.{IsRow-front, IsRow-rest, placed_from-front, row_of-none}
use Rattle.siglist.proofs.row.ListsIterator.next.Goals as goal

some : (b : List ℕ) → false ≡ eqb (length b) 0 → 0 < length b
some b e = grind (arith, nat_tests, e)

pub returns-then-is_empty-clause-steps : goal.returns-then-is_empty-clause-steps
returns-then-is_empty-clause-steps c =
    let l = c.self.inside in
    let empty = row_of-none l.rest.now (sym c.if-is_empty.true ∙ c.is_empty.ensures) in
    let none = sym c.self.view_is ∙ ap (placed_from (l.size - length l.rest.now)) empty in
    (none, none)

pub front-list-requires : goal.front-list-requires
front-list-requires c = IsRow-front c.self.inside.rest.now (some _ (sym c.if-is_empty.false ∙ c.is_empty.ensures)) c.self.invariant.1

pub invariant_of-self : goal.invariant_of-self
invariant_of-self c =
    let b = c.self.inside.rest.now in
    let left = ap length c.front-list.ensures.rest ∙ length-drop (size_at b) b in
    let row = IsRow-rest b (some _ (sym c.if-is_empty.false ∙ c.is_empty.ensures)) c.self.invariant.1 in
    (omega (arith, left, c.self.invariant.0), subst IsRow (sym c.front-list.ensures.rest) row)

-- the first of the lists that are left, and the others
step : (size : ℕ) (b rest : List ℕ) (shown : List Placed) (first : Placed) → length b ≤ size → 0 < length b → IsRow b
    → placed_from (size - length b) (row_of (length b) b) ≡ shown → first ≡ placed (size - length b) (front_of b) → rest ≡ drop (size_at b) b
    → shown ≡ first ∷ placed_from (size - length rest) (row_of (length rest) rest)
step size b rest shown first le many row view front after =
    sym view ∙ placed_from-front size b le many row
    ∙ ap₂ (λ (p : Placed) (r : List ℕ). p ∷ placed_from (size - length r) (row_of (length r) r)) (sym front) (sym after)

pub returns-clause-steps : goal.returns-clause-steps
returns-clause-steps c =
    let l = c.self.inside in
    step l.size l.rest.now _ _ _ c.self.invariant.0 (some _ (sym c.if-is_empty.false ∙ c.is_empty.ensures)) c.self.invariant.1
    c.self.view_is c.front-list.ensures.list c.front-list.ensures.rest

pub returns-clause-goes : goal.returns-clause-goes
returns-clause-goes c =
    let l = c.self.inside in
    let whole = step l.size l.rest.now _ _ _ c.self.invariant.0 (some _ (sym c.if-is_empty.false ∙ c.is_empty.ensures)) c.self.invariant.1
    c.self.view_is c.front-list.ensures.list c.front-list.ensures.rest in
    let shorter = ap length whole in search rules
