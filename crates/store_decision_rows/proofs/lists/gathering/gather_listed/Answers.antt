use Rattle.std.proofs.Common.{◌≡◌, ◌∙◌, arith, IsTrue}
use Rattle.sqlite.specs.Held.{state}
use Rattle.sqlite.specs.State.{HasCleanDisk}
use Rattle.desk_history.specs.Calls.{is_among}
use Rattle.store_decision_rows.specs.lists.Gathering.{listings_of}
use Rattle.store_decision_rows.proofs.GatherLemmas.{gathered_next, is_key, is_listing_found}
use Rattle.store_decision_rows.proofs.lists.gathering.gather_listed.Goals as goal

pub loop-digest-preserved : goal.loop-digest-preserved
loop-digest-preserved g c =
    let keys = c.args.digests.now in
    let i = c.loop-digest.digest-index in
    let key = c.digest-item.result in
    let mid = state g.S.Store c.loop-digest.tx.conn.now in
    let did = c.in_ok-row.ensures in (
      did.same_reference ∙ c.loop-digest.invariant.0,
      gathered_next (listings_of c.args.kind) keys (λ x. (x.kind ≡ c.args.kind) × IsTrue (is_among keys x.digest)) c.args.rows.now.items i key c.loop-digest.rows.items c.push_some.new.rows.items c.in_ok-row.row
          (state g.S.Store c.args.tx.now.conn.now) mid (state g.S.Store c.find_listed.new.tx.conn.now) c.loop-digest-test.true c.digest-item.is c.in_ok-push_some.ensures
          (is_listing_found c.args.kind keys key (is_key keys i key c.loop-digest-test.true c.digest-item.is) c.in_ok-row.row did.only)
          did.survives did.value c.loop-digest.invariant.1,
      λ clean inside _.
          let late : HasCleanDisk mid = omega (arith, did.survives.clean, clean) in
          (did.inside clean (c.loop-digest.invariant.1.1 late inside).kept.inside).0,
    )

pub returns-clause-inside : goal.returns-clause-inside
returns-clause-inside g c some clean inside =
    let stood = c.loop-digest.invariant in
    (stood.2 clean inside (omega (arith, some, c.loop-digest-test.false)), (stood.1.1 clean inside).kept.inside)
