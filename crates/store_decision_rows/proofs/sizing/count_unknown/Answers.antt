use Rattle.std.proofs.Common.{arith}
use Rattle.sqlite.specs.Held.{state}
use Rattle.sqlite.specs.State.{HasCleanDisk}
use Rattle.store_decision_rows.specs.sizes.Sizes.{AreRight}
use Rattle.store_decision_rows.proofs.LearningLemmas.{learns_all}
use Rattle.store_reads.proofs.TellsLemmas.{tells_so, tells_then}
use Rattle.store_decision_rows.proofs.sizing.count_unknown.Goals as goal

pub returns-clause-value : goal.returns-clause-value
returns-clause-value g c clean inside =
    let first = state g.S.Store c.args.tx.now.conn.now in
    let mid = state g.S.Store c.learn_calls.new.tx.conn.now in
    let new = state g.S.Store c.learn_each.new.tx.conn.now in
    let late : HasCleanDisk mid = omega (arith, c.in_ok-all.ensures.survives.clean, clean) in
    let calls = c.in_ok-known.ensures.value late inside in
    let all = c.in_ok-all.ensures.value clean calls.kept.inside in
    let start = c.args.sizes in
    let was = c.in_ok-known.known in
    let is = c.in_ok-all.all in
    tells_so first new (λ t. (AreRight start t → AreRight was t) × (AreRight was t → AreRight is t)) (λ t. AreRight start t → AreRight is t)
    (λ t both right. both.1 (both.0 right))
    (tells_then first mid new (λ t. AreRight start t → AreRight was t) (λ t. AreRight was t → AreRight is t) calls all)

pub returns-clause-learnt : goal.returns-clause-learnt
returns-clause-learnt g c = learns_all c.args.command.now c.args.sizes c.in_ok-known.known c.in_ok-all.all c.in_ok-known.ensures.learnt c.in_ok-all.ensures.learnt
