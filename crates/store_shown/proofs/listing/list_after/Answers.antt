use Rattle.std.proofs.Common.{◌≡◌, ◌≤◌, ◌+◌, ◌∙◌, inl, inr, ap, rules, refl, sym, subst, arith}
use mir.Val.{bool_byte}
use Rattle.sqlite.specs.Held.{state}
use Rattle.sqlite.specs.State.{HasCleanDisk}
use Rattle.sqlite.proofs.StateLemmas.{survives_then}
use Rattle.store_reads.specs.Reads.{ReadsTables}
use Rattle.store_reads.proofs.TellsLemmas.{tells_none, tells_so, tells_then}
use Rattle.store_shown.specs.Choosing.{ListsAfter, ListsUpTo, TakesNumbered}
use Rattle.store_proposals.proofs.PlaceLemmas.{at_most_one}
use Rattle.store_shown.proofs.NumberLemmas.{lists_more, lists_none}
use Rattle.store_shown.proofs.listing.list_after.Goals as goal

pub loop-number-init : goal.loop-number-init
loop-number-init g c =
    let first = state g.S.Store c.args.tx.now.conn.now in
    let choice = c.args.choice.now in
    let reader = c.args.reader.now in
    let k = c.args.passed in
    let holds = g.L.RequestList.holds c.new-list.result in
    (search rules, omega arith, refl, search rules, λ clean inside. tells_none first (λ t. ListsAfter choice reader t k k 0 holds) inside (λ t. lists_none choice reader t k holds c.new-list.ensures))

pub loop-number-preserved : goal.loop-number-preserved
loop-number-preserved g c =
    let at = c.loop-number in
    let first = state g.S.Store c.args.tx.now.conn.now in
    let mid = state g.S.Store at.tx.conn.now in
    let new = state g.S.Store c.take_numbered.new.tx.conn.now in
    let choice = c.args.choice.now in
    let reader = c.args.reader.now in
    let k = c.args.passed in
    let n = at.number in
    let many = at.many in
    let before = g.L.RequestList.holds at.list in
    let after = g.L.RequestList.holds c.take_numbered.new.list in
    let is_taken = c.in_ok-is_taken.is_taken in
    let did = c.in_ok-is_taken.ensures in
    let one = c.from-many.ensures in
    let low = at.invariant.1 in
    let other = c.if-many-most.false in
    let few : bool_byte is_taken ≤ 1 = at_most_one is_taken in (
      omega (arith, c.loop-number-test.true),
      omega (arith, low, other, one, few),
      did.same_reference ∙ at.invariant.2,
      survives_then first mid new (λ _. ⊥) (λ _. ⊥) (λ _. ⊥) (λ _ _ none. none) (λ _ _ none. none) at.invariant.3 did.survives,
      λ clean inside.
          let late : HasCleanDisk mid = omega (arith, did.survives.clean, clean) in
          let stood = at.invariant.4 late inside in
          subst (λ m. ReadsTables (λ t. ListsAfter choice reader t k (n + 1) m after) first new) (ap (λ x. many + x) (sym one))
          (tells_so first new (λ t. ListsAfter choice reader t k n many before × TakesNumbered choice reader t (n + 1) before after is_taken) (λ t. ListsAfter choice reader t k (n + 1) (many + bool_byte is_taken) after)
          (λ t both. lists_more choice reader t k n many before after is_taken both.0 both.1)
          (tells_then first mid new (λ t. ListsAfter choice reader t k n many before) (λ t. TakesNumbered choice reader t (n + 1) before after is_taken) stood (did.value clean stood.kept.inside))),
    )

pub returns-then-many-most-clause-value : goal.returns-then-many-most-clause-value
returns-then-many-most-clause-value g c clean inside =
    let at = c.loop-number in
    let first = state g.S.Store c.args.tx.now.conn.now in
    let n = at.number in
    let many = at.many in
    let within = at.invariant.0 in
    let few = at.invariant.1 in
    let full : many ≡ c.args.most = omega (arith, c.if-many-most.true) in
    tells_so first (state g.S.Store at.tx.conn.now) (λ t. ListsAfter c.args.choice.now c.args.reader.now t c.args.passed n many (g.L.RequestList.holds at.list)) (λ t. ListsUpTo c.args.choice.now c.args.reader.now t c.args.passed c.args.last c.args.most (g.L.RequestList.holds at.list))
    (λ t it. record { reached = n; many = many; lists = it; within = within; few = few; ends = inl full }) (at.invariant.4 clean inside)

pub returns-clause-value : goal.returns-clause-value
returns-clause-value g c clean inside =
    let at = c.loop-number in
    let first = state g.S.Store c.args.tx.now.conn.now in
    let n = at.number in
    let many = at.many in
    let within = at.invariant.0 in
    let few = at.invariant.1 in
    let done : n ≡ c.args.last = omega (arith, within, c.loop-number-test.false) in
    tells_so first (state g.S.Store at.tx.conn.now) (λ t. ListsAfter c.args.choice.now c.args.reader.now t c.args.passed n many (g.L.RequestList.holds at.list)) (λ t. ListsUpTo c.args.choice.now c.args.reader.now t c.args.passed c.args.last c.args.most (g.L.RequestList.holds at.list))
    (λ t it. record { reached = n; many = many; lists = it; within = within; few = few; ends = inr done }) (at.invariant.4 clean inside)
