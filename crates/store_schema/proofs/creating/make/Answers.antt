use Rattle.std.proofs.Common.{arith, map}
use Rattle.sqlite.specs.Held.{state}
use Rattle.sqlite.specs.State.{HasCleanDisk}
use Rattle.store_sql.proofs.TableLemmas.{makes_then}
use Rattle.store_schema.specs.Tables.{added_tables, defined, desk_schema, first_schema, first_tables, no_schema}
use Rattle.store_schema.proofs.creating.make.Goals as goal

pub returns-clause-value : goal.returns-clause-value
returns-clause-value g c clean inside =
    let old = state g.S.Store c.args.tx.now.conn.now in
    let mid = state g.S.Store c.make_first.new.tx.conn.now in
    let new = state g.S.Store c.make_added.new.tx.conn.now in
    let late : HasCleanDisk mid = omega (arith, c.in_ok-make_added.ensures.survives.clean, clean) in
    let first = c.in_ok-make_first.ensures.value late inside in
    makes_then old mid new no_schema first_schema desk_schema (map defined first_tables) (map defined added_tables) first (c.in_ok-make_added.ensures.value clean first.inside)
