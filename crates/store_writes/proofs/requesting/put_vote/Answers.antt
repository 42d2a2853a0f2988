use Rattle.std.proofs.Common.{refl}
use Rattle.sqlite.specs.Held.{state}
use Rattle.store_schema.specs.Columns.{values_of}
use Rattle.store_schema.specs.Tables.{votes}
use Rattle.store_schema.specs.declared.inserting.TheConstants.{INSERT_VOTE}
use Rattle.store_schema.proofs.InsertFacts.{insert_vote}
use Rattle.desk_history.specs.Writes.{written}
use Rattle.desk_history.specs.declared.write.Write.TheVariants as writes
use Rattle.store_schema.specs.rows.Values.{vote_values}
use Rattle.store_writes.proofs.RowLemmas.{vote_in}
use Rattle.store_writes.proofs.StepLemmas.{puts_in}
use Rattle.store_writes.proofs.requesting.put_vote.Goals as goal

pub returns-clause-value : goal.returns-clause-value
returns-clause-value g c clean inside =
    let v = c.args.vote.now in
    puts_in 6 votes INSERT_VOTE.now (values_of votes) (vote_values v) (vote_values v) (written (writes.Vote v))
    (state g.S.Store c.args.tx.now.conn.now) (state g.S.Store c.insert.new.tx.conn.now) insert_vote (vote_in v) (λ t. refl)
    (rw (c.params-to_sql.ensures, c.params-to_sql-2.ensures, c.params-to_sql-3.ensures, c.params-to_sql-4.ensures, c.in_ok-request.ensures.value, c.value.ensures.value, c.as_str.ensures.value, c.text.ensures, c.as_str-2.ensures.value) at (c.in_ok-insert.ensures.value clean inside))
