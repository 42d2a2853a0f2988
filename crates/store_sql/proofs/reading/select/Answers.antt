use Rattle.sqlite.specs.Held.{state}
use Rattle.sqlite.specs.Values.{bound}
use Rattle.store_sql.proofs.ReadLemmas.{failed_inside, selects, shown_inside, shown_keeps}
use Rattle.store_sql.proofs.reading.select.Goals as goal

pub returns-clause-value : goal.returns-clause-value
returns-clause-value g c clean inside =
    selects c.args.sql.now (bound c.args.params.now) (state g.S.Store c.args.tx.now.conn.now) (state g.S.Store c.query_all.new.self.conn.now) c.in_ok-selected.selected.items inside (c.in_ok-selected.ensures.ok clean)

pub returns-clause-inside : goal.returns-clause-inside
returns-clause-inside g c clean inside =
    let it = shown_inside _ _ (state g.S.Store c.args.tx.now.conn.now) (state g.S.Store c.query_all.new.self.conn.now) _ inside (c.in_ok-selected.ensures.ok clean) in
    (it.is_open, it.mode)

pub returns-clause-kept : goal.returns-clause-kept
returns-clause-kept g c clean inside =
    shown_keeps _ _ (state g.S.Store c.args.tx.now.conn.now) (state g.S.Store c.query_all.new.self.conn.now) _ inside (c.in_ok-selected.ensures.ok clean)

pub returns-in_err-selected-clause-kept : goal.returns-in_err-selected-clause-kept
returns-in_err-selected-clause-kept g c clean inside =
    failed_inside _ _ (state g.S.Store c.args.tx.now.conn.now) (state g.S.Store c.query_all.new.self.conn.now) _ (c.in_err-selected.ensures.err clean)
