use Rattle.std.proofs.Common.{arith}
use Rattle.sqlite.specs.Held.{state}
use Rattle.sqlite.specs.State.{HasCleanDisk}
use Rattle.store_schema.specs.Tables.{desk_layout}
use Rattle.store_schema.specs.rows.Contents.{contents}
use Rattle.store_sql.proofs.StopLemmas.{changes_then}
use Rattle.desk_history.specs.Writes.{all_written}
use Rattle.store_first_rules.specs.Steps.{with_first_calls}
use Rattle.store_first_rules.proofs.writing.write_first.Goals as goal

pub returns-clause-value : goal.returns-clause-value
returns-clause-value g c clean inside =
    let mid = state g.S.Store c.write_all.new.tx.conn.now in
    let sets = c.in_ok-set_first_calls.ensures in
    let late : HasCleanDisk mid = omega (arith, sets.survives.clean, clean) in
    let wrote = c.in_ok-write_all.ensures.value late inside in
    changes_then desk_layout contents (state g.S.Store c.args.tx.now.conn.now) mid (state g.S.Store c.set_first_calls.new.tx.conn.now)
    (all_written c.args.writes.now) (with_first_calls c.args.calls) wrote (sets.value clean wrote.inside)
