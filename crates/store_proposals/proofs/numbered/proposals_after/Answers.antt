use Rattle.std.proofs.Common.{◌≡◌, ◌≤◌, ◌+◌, ◌∙◌, inl, inr, [], rules, refl, sym, ap, subst, arith}
use Rattle.std.specs.Prelude.{option_copied}
use mir.Val.{bool_byte}
use Rattle.sqlite.specs.Held.{state}
use Rattle.sqlite.specs.State.{HasCleanDisk}
use Rattle.sqlite.proofs.StateLemmas.{survives_then}
use Rattle.store_reads.specs.Reads.{ReadsTables}
use Rattle.store_reads.proofs.TellsLemmas.{tells_none, tells_so, tells_then}
use Rattle.store_proposals.specs.Numbered.{ListsAfter, ListsUpTo, TakesNumbered}
use Rattle.store_proposals.proofs.NumberedLemmas.{lists_more, lists_none}
use Rattle.store_proposals.proofs.PlaceLemmas.{at_most_one}
use Rattle.store_proposals.proofs.numbered.proposals_after.Goals as goal

pub loop-number-init : goal.loop-number-init
loop-number-init g c =
    let first = state g.S.Store c.args.tx.now.conn.now in
    let officer = option_copied c.args.officer in
    let k = c.args.passed in
    let empty : c.new-list.result.items ≡ [] = search rules in
    (search rules, omega arith, refl, search rules, λ clean inside. subst (λ l. ReadsTables (λ t. ListsAfter officer t k k 0 l) first first) (sym empty) (tells_none first (λ t. ListsAfter officer t k k 0 []) inside (λ t. lists_none officer t k)))

pub loop-number-preserved : goal.loop-number-preserved
loop-number-preserved g c =
    let at = c.loop-number in
    let first = state g.S.Store c.args.tx.now.conn.now in
    let mid = state g.S.Store at.tx.conn.now in
    let new = state g.S.Store c.take_numbered.new.tx.conn.now in
    let officer = option_copied c.args.officer in
    let k = c.args.passed in
    let n = at.number in
    let many = at.many in
    let before = at.list.items in
    let after = c.take_numbered.new.list.items in
    let is_taken = c.in_ok-is_taken.is_taken in
    let did = c.in_ok-is_taken.ensures in
    let one = c.from-many.ensures in
    let low = at.invariant.1 in
    let other = c.if-many-most.false in
    let few : bool_byte is_taken ≤ 1 = at_most_one is_taken in (
      omega (arith, c.loop-number-test.true),
      omega (arith, low, other, one, few),
      did.same_reference ∙ at.invariant.2,
      survives_then first mid new (λ _. ⊥) (λ _. ⊥) (λ _. ⊥) (λ _ _ none. none) (λ _ _ none. none) at.invariant.3 did.survives,
      λ clean inside.
          let late : HasCleanDisk mid = omega (arith, did.survives.clean, clean) in
          let stood = at.invariant.4 late inside in
          subst (λ m. ReadsTables (λ t. ListsAfter officer t k (n + 1) m after) first new) (ap (λ x. many + x) (sym one))
          (tells_so first new (λ t. ListsAfter officer t k n many before × TakesNumbered officer t (n + 1) before after is_taken) (λ t. ListsAfter officer t k (n + 1) (many + bool_byte is_taken) after)
          (λ t both. lists_more officer t k n many before after is_taken both.0 both.1)
          (tells_then first mid new (λ t. ListsAfter officer t k n many before) (λ t. TakesNumbered officer t (n + 1) before after is_taken) stood (did.value clean stood.kept.inside))),
    )

pub returns-then-many-most-clause-value : goal.returns-then-many-most-clause-value
returns-then-many-most-clause-value g c clean inside =
    let at = c.loop-number in
    let first = state g.S.Store c.args.tx.now.conn.now in
    let n = at.number in
    let many = at.many in
    let within = at.invariant.0 in
    let few = at.invariant.1 in
    let full : many ≡ c.args.most = omega (arith, c.if-many-most.true) in
    tells_so first (state g.S.Store at.tx.conn.now) (λ t. ListsAfter (option_copied c.args.officer) t c.args.passed n many at.list.items) (λ t. ListsUpTo (option_copied c.args.officer) t c.args.passed c.args.last c.args.most at.list.items)
    (λ t it. record { reached = n; many = many; lists = it; within = within; few = few; ends = inl full }) (at.invariant.4 clean inside)

pub returns-clause-value : goal.returns-clause-value
returns-clause-value g c clean inside =
    let at = c.loop-number in
    let first = state g.S.Store c.args.tx.now.conn.now in
    let n = at.number in
    let many = at.many in
    let within = at.invariant.0 in
    let few = at.invariant.1 in
    let done : n ≡ c.args.last = omega (arith, within, c.loop-number-test.false) in
    tells_so first (state g.S.Store at.tx.conn.now) (λ t. ListsAfter (option_copied c.args.officer) t c.args.passed n many at.list.items) (λ t. ListsUpTo (option_copied c.args.officer) t c.args.passed c.args.last c.args.most at.list.items)
    (λ t it. record { reached = n; many = many; lists = it; within = within; few = few; ends = inr done }) (at.invariant.4 clean inside)
