use Rattle.sqlite.specs.Held.{state}
use Rattle.store_reads.proofs.NumberLemmas.{tells_numbers}
use Rattle.store_reads.proofs.digest_numbers.numbers_with.Goals as goal

pub returns-clause-value : goal.returns-clause-value
returns-clause-value g c clean inside =
    tells_numbers c.args.column c.args.digest.now (state g.S.Store c.args.tx.now.conn.now) (state g.S.Store c.rows_of.new.tx.conn.now) c.in_ok-numbers.numbers.items
    (rw (c.text_of-sql.ensures, c.params-to_sql.ensures, c.as_bytes.ensures.value) at (c.in_ok-numbers.ensures.value clean inside))
