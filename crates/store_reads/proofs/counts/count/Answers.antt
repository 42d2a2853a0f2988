use Rattle.std.proofs.Common.{[], ◌∷◌, sym}
use Rattle.sqlite.specs.Held.{state}
use Rattle.sqlite.specs.declared.types.Value.TheVariants.{Text}
use Rattle.store_reads.proofs.CountLemmas.{tells_counted}
use Rattle.store_reads.proofs.counts.count.Goals as goal

pub returns-in-Some-clause-value : goal.returns-in-Some-clause-value
returns-in-Some-clause-value g c clean inside =
    tells_counted c.args.what c.text_of-sql.result.now (Text c.in-Some.word.now ∷ []) (state g.S.Store c.args.tx.now.conn.now) (state g.S.Store c.count_of.new.tx.conn.now) c.count_of.result
    c.text_of-sql.ensures (sym c.in-Some.ensures) (rw c.params-to_sql.ensures at (c.count_of.ensures.value clean inside))

pub returns-in-None-clause-value : goal.returns-in-None-clause-value
returns-in-None-clause-value g c clean inside =
    tells_counted c.args.what c.text_of-sql.result.now [] (state g.S.Store c.args.tx.now.conn.now) (state g.S.Store c.count_of-in-None.new.tx.conn.now) c.count_of-in-None.result
    c.text_of-sql.ensures (sym c.in-None.ensures) (c.count_of-in-None.ensures.value clean inside)
