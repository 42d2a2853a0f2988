use Rattle.std.proofs.Common.{◌∙◌}
use Rattle.sqlite.specs.Held.{state}
use Rattle.sqlite.specs.Values.{bound}
use Rattle.store_sql.proofs.CountLemmas.{counts}
use Rattle.store_sql.proofs.ReadLemmas.{failed_inside, shown_inside, shown_keeps}
use Rattle.store_sql.proofs.reading.count.Goals as goal

pub returns-clause-value : goal.returns-clause-value
returns-clause-value g c clean inside =
    counts c.args.sql.now (bound c.args.params.now) (state g.S.Store c.args.tx.now.conn.now) (state g.S.Store c.query_all.new.self.conn.now) c.in_ok-rows.rows.items _ inside (c.in_ok-rows.ensures.ok clean)
    (λ m is. c.in_ok-counted.ensures m (c.deref.ensures.value ∙ is))

pub returns-clause-inside : goal.returns-clause-inside
returns-clause-inside g c clean inside =
    let it = shown_inside _ _ (state g.S.Store c.args.tx.now.conn.now) (state g.S.Store c.query_all.new.self.conn.now) _ inside (c.in_ok-rows.ensures.ok clean) in
    (it.is_open, it.mode)

pub returns-clause-kept : goal.returns-clause-kept
returns-clause-kept g c clean inside =
    shown_keeps _ _ (state g.S.Store c.args.tx.now.conn.now) (state g.S.Store c.query_all.new.self.conn.now) _ inside (c.in_ok-rows.ensures.ok clean)

pub returns-in_err-counted-clause-kept : goal.returns-in_err-counted-clause-kept
returns-in_err-counted-clause-kept g c clean inside =
    shown_keeps _ _ (state g.S.Store c.args.tx.now.conn.now) (state g.S.Store c.query_all.new.self.conn.now) _ inside (c.in_ok-rows.ensures.ok clean)

pub returns-in_err-rows-clause-kept : goal.returns-in_err-rows-clause-kept
returns-in_err-rows-clause-kept g c clean inside =
    failed_inside _ _ (state g.S.Store c.args.tx.now.conn.now) (state g.S.Store c.query_all.new.self.conn.now) _ (c.in_err-rows.ensures.err clean)
