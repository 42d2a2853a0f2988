use Rattle.std.proofs.Common.{◌≡◌, ◌+◌, ◌∙◌, rules, refl, sym, subst, arith}
use Rattle.sqlite.specs.Held.{state}
use Rattle.sqlite.specs.State.{HasCleanDisk}
use Rattle.sqlite.proofs.StateLemmas.{survives_then}
use Rattle.store_reads.specs.Reads.{ReadsTables}
use Rattle.store_reads.proofs.TellsLemmas.{tells_none, tells_so, tells_then}
use Rattle.store_shown.specs.Happening.{HappenedTo, HappenedToFirst}
use Rattle.store_shown.proofs.WaitingLemmas.{happened_more, happened_none}
use Rattle.store_shown.proofs.changes.events_of_first.Goals as goal

pub loop-number-init : goal.loop-number-init
loop-number-init g c =
    let first = state g.S.Store c.args.tx.now.conn.now in
    let reader = c.args.reader.now in
    (omega arith, refl, search rules, λ clean inside. tells_none first (λ t. HappenedToFirst reader t 0 0) inside (λ t. happened_none reader t))

pub loop-number-preserved : goal.loop-number-preserved
loop-number-preserved g c =
    let at = c.loop-number in
    let first = state g.S.Store c.args.tx.now.conn.now in
    let mid = state g.S.Store at.tx.conn.now in
    let new = state g.S.Store c.events_of.new.tx.conn.now in
    let reader = c.args.reader.now in
    let n = at.number in
    let more = c.in_ok-more.more in
    let did = c.in_ok-more.ensures in (
      omega (arith, c.loop-number-test.true),
      did.same_reference ∙ at.invariant.1,
      survives_then first mid new (λ _. ⊥) (λ _. ⊥) (λ _. ⊥) (λ _ _ none. none) (λ _ _ none. none) at.invariant.2 did.survives,
      λ clean inside.
          let late : HasCleanDisk mid = omega (arith, did.survives.clean, clean) in
          let stood = at.invariant.3 late inside in
          let total : c.in_ok-events.events ≡ at.events + more = c.in_ok-events.ensures in
          subst (λ m. ReadsTables (λ t. HappenedToFirst reader t (n + 1) m) first new) (sym total)
          (tells_so first new (λ t. HappenedToFirst reader t n at.events × HappenedTo reader t (n + 1) more) (λ t. HappenedToFirst reader t (n + 1) (at.events + more))
          (λ t both. happened_more reader t n at.events more both.0 both.1)
          (tells_then first mid new (λ t. HappenedToFirst reader t n at.events) (λ t. HappenedTo reader t (n + 1) more) stood (did.value clean stood.kept.inside))),
    )

pub returns-clause-value : goal.returns-clause-value
returns-clause-value g c clean inside =
    let at = c.loop-number in
    let low = at.invariant.0 in
    let all : at.number ≡ c.args.count = omega arith in
    subst (λ n. ReadsTables (λ t. HappenedToFirst c.args.reader.now t n at.events) (state g.S.Store c.args.tx.now.conn.now) (state g.S.Store at.tx.conn.now)) all (at.invariant.3 clean inside)
