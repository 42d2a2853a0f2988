use Rattle.std.proofs.Common.{◌≡◌, ◌≤◌, ◌+◌, ◌∙◌, inl, inr, ap, rules, refl, sym, subst, arith}
use mir.Val.{bool_byte}
use Rattle.sqlite.specs.Held.{state}
use Rattle.sqlite.specs.State.{HasCleanDisk}
use Rattle.sqlite.proofs.StateLemmas.{survives_then}
use Rattle.store_reads.specs.Reads.{ReadsTables}
use Rattle.store_reads.proofs.TellsLemmas.{tells_none, tells_so, tells_then}
use Rattle.store_shown.specs.Searching.{FindsAfter, FindsUpTo, TakesMarked, is_marked}
use Rattle.store_proposals.proofs.PlaceLemmas.{at_most_one}
use Rattle.store_shown.proofs.SearchLemmas.{finds_more, finds_none}
use Rattle.store_shown.proofs.searching.list_marked.Goals as goal

pub loop-number-init : goal.loop-number-init
loop-number-init g c =
    let first = state g.S.Store c.args.tx.now.conn.now in
    let choice = c.args.choice.now in
    let reader = c.args.reader.now in
    let marks = c.args.marks.now in
    let holds = g.L.RequestList.holds c.new-list.result in
    (search rules, omega arith, refl, search rules, λ clean inside. tells_none first (λ t. FindsAfter choice reader t marks 0 0 holds) inside (λ t. finds_none choice reader t marks holds c.new-list.ensures))

pub loop-number-preserved : goal.loop-number-preserved
loop-number-preserved g c =
    let at = c.loop-number in
    let first = state g.S.Store c.args.tx.now.conn.now in
    let mid = state g.S.Store at.tx.conn.now in
    let new = state g.S.Store c.take_marked.new.tx.conn.now in
    let choice = c.args.choice.now in
    let reader = c.args.reader.now in
    let marks = c.args.marks.now in
    let n = at.number in
    let many = at.many in
    let before = g.L.RequestList.holds at.list in
    let after = g.L.RequestList.holds c.take_marked.new.list in
    let is_taken = c.in_ok-is_taken.is_taken in
    let did = c.in_ok-is_taken.ensures in
    let one = c.from-many.ensures in
    let low = at.invariant.1 in
    let other = c.if-many-most.false in
    let few : bool_byte is_taken ≤ 1 = at_most_one is_taken in (
      omega (arith, c.loop-number-test.true),
      omega (arith, low, other, one, few),
      did.same_reference ∙ at.invariant.2,
      survives_then first mid new (λ _. ⊥) (λ _. ⊥) (λ _. ⊥) (λ _ _ none. none) (λ _ _ none. none) at.invariant.3 did.survives,
      λ clean inside.
          let late : HasCleanDisk mid = omega (arith, did.survives.clean, clean) in
          let stood = at.invariant.4 late inside in
          subst (λ m. ReadsTables (λ t. FindsAfter choice reader t marks (n + 1) m after) first new) (ap (λ x. many + x) (sym one))
          (tells_so first new (λ t. FindsAfter choice reader t marks n many before × TakesMarked choice reader t (is_marked marks (n + 1)) (n + 1) before after is_taken) (λ t. FindsAfter choice reader t marks (n + 1) (many + bool_byte is_taken) after)
          (λ t both. finds_more choice reader t marks n many before after is_taken both.0 both.1)
          (tells_then first mid new (λ t. FindsAfter choice reader t marks n many before) (λ t. TakesMarked choice reader t (is_marked marks (n + 1)) (n + 1) before after is_taken) stood (did.value clean stood.kept.inside))),
    )

pub returns-then-many-most-clause-value : goal.returns-then-many-most-clause-value
returns-then-many-most-clause-value g c clean inside =
    let at = c.loop-number in
    let first = state g.S.Store c.args.tx.now.conn.now in
    let n = at.number in
    let many = at.many in
    let within = at.invariant.0 in
    let few = at.invariant.1 in
    let full : many ≡ c.args.most = omega (arith, c.if-many-most.true) in
    tells_so first (state g.S.Store at.tx.conn.now) (λ t. FindsAfter c.args.choice.now c.args.reader.now t c.args.marks.now n many (g.L.RequestList.holds at.list)) (λ t. FindsUpTo c.args.choice.now c.args.reader.now t c.args.marks.now c.args.last c.args.most (g.L.RequestList.holds at.list))
    (λ t it. record { reached = n; many = many; finds = it; within = within; few = few; ends = inl full }) (at.invariant.4 clean inside)

pub returns-clause-value : goal.returns-clause-value
returns-clause-value g c clean inside =
    let at = c.loop-number in
    let first = state g.S.Store c.args.tx.now.conn.now in
    let n = at.number in
    let many = at.many in
    let within = at.invariant.0 in
    let few = at.invariant.1 in
    let done : n ≡ c.args.last = omega (arith, within, c.loop-number-test.false) in
    tells_so first (state g.S.Store at.tx.conn.now) (λ t. FindsAfter c.args.choice.now c.args.reader.now t c.args.marks.now n many (g.L.RequestList.holds at.list)) (λ t. FindsUpTo c.args.choice.now c.args.reader.now t c.args.marks.now c.args.last c.args.most (g.L.RequestList.holds at.list))
    (λ t it. record { reached = n; many = many; finds = it; within = within; few = few; ends = inr done }) (at.invariant.4 clean inside)
