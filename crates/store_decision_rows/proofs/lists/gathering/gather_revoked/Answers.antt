use Rattle.std.proofs.Common.{◌∙◌, IsTrue}
use Rattle.sqlite.specs.Held.{state}
use Rattle.desk_history.specs.Calls.{is_among}
use Rattle.store_decision_rows.specs.lists.Gathering.{revocations_of}
use Rattle.store_decision_rows.proofs.GatherLemmas.{gathered_next, is_key, is_key_found}
use Rattle.store_decision_rows.proofs.lists.gathering.gather_revoked.Goals as goal

pub loop-digest-preserved : goal.loop-digest-preserved
loop-digest-preserved g c =
    let keys = c.args.digests.now in
    let i = c.loop-digest.digest-index in
    let key = c.digest-item.result in
    let mid = state g.S.Store c.loop-digest.tx.conn.now in
    let did = c.in_ok-row.ensures in (
      did.same_reference ∙ c.loop-digest.invariant.0,
      gathered_next (revocations_of c.args.kind) keys (λ x. IsTrue (is_among keys x)) c.args.rows.now.items i key c.loop-digest.rows.items c.push_some.new.rows.items c.in_ok-row.row
          (state g.S.Store c.args.tx.now.conn.now) mid (state g.S.Store c.find_revoked.new.tx.conn.now) c.loop-digest-test.true c.digest-item.is c.in_ok-push_some.ensures
          (is_key_found keys key (is_key keys i key c.loop-digest-test.true c.digest-item.is) c.in_ok-row.row did.only)
          did.survives did.value c.loop-digest.invariant.1,
    )
