use Rattle.std.proofs.Common.{arith}
use Rattle.sqlite.specs.Held.{state}
use Rattle.sqlite.specs.State.{HasCleanDisk}
use Rattle.store_schema.specs.Columns.{values_of}
use Rattle.store_schema.specs.Tables.{desk_layout, proposals}
use Rattle.store_schema.proofs.InsertFacts.{insert_proposal}
use Rattle.store_schema.specs.rows.Values.{proposal_values}
use Rattle.store_writes.proofs.ItemLemmas.{row_put}
use Rattle.store_writes.proofs.RowLemmas.{proposal_in}
use Rattle.store_writes.proofs.proposing.put_proposal.Goals as goal

pub returns-clause-value : goal.returns-clause-value
returns-clause-value g c clean inside =
    let p = c.args.proposal.now in
    let first = state g.S.Store c.args.tx.now.conn.now in
    let mid = state g.S.Store c.put_items.new.tx.conn.now in
    let new = state g.S.Store c.insert.new.tx.conn.now in
    let late : HasCleanDisk mid = omega (arith, c.in_ok-insert.ensures.survives.clean, clean) in
    let named = c.in_ok-put_items.ensures.value late inside in
    row_put p first mid new named
    (rw (c.params-to_sql.ensures, c.params-to_sql-2.ensures, c.params-to_sql-3.ensures, c.params-to_sql-4.ensures, c.params-to_sql-5.ensures, c.params-to_sql-6.ensures, c.in_ok-number.ensures.value, c.in_ok-stamp.ensures.value, c.in_ok-passed.ensures.value, c.value.ensures.value, c.stamp_number.ensures, c.stamp.ensures, c.passed.ensures.value, c.as_str.ensures.value, c.text.ensures, c.text-2.ensures) at (c.in_ok-insert.ensures.value clean named.inside)
    desk_layout 12 proposals (values_of proposals) (proposal_values p) insert_proposal (proposal_in p))
