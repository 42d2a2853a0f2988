use Rattle.std.proofs.Common.{◌∙◌, IsTrue, map}
use Rattle.sqlite.specs.Held.{state}
use Rattle.desk_history.specs.Calls.{is_among}
use Rattle.store_decision_rows.specs.lists.Gathering.{levels_of}
use Rattle.store_decision_rows.proofs.GatherLemmas.{gathered_next, is_name, is_name_found}
use Rattle.store_decision_rows.proofs.lists.gathering.gather_components.Goals as goal

pub loop-component-preserved : goal.loop-component-preserved
loop-component-preserved g c =
    let keys = c.args.named.now in
    let i = c.loop-component.component-index in
    let key = c.component-item.result in
    let mid = state g.S.Store c.loop-component.tx.conn.now in
    let did = c.in_ok-row.ensures in (
      did.same_reference ∙ c.loop-component.invariant.0,
      gathered_next levels_of keys (λ x. IsTrue (is_among (map (λ y. y.name) keys) x.name)) c.args.rows.now.items i key c.loop-component.rows.items c.push_some.new.rows.items c.in_ok-row.row
          (state g.S.Store c.args.tx.now.conn.now) mid (state g.S.Store c.find_component.new.tx.conn.now) c.loop-component-test.true c.component-item.is c.in_ok-push_some.ensures
          (is_name_found (map (λ y. y.name) keys) key.name (is_name keys i key c.loop-component-test.true c.component-item.is) c.in_ok-row.row did.only)
          did.survives did.value c.loop-component.invariant.1,
    )
