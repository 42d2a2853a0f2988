use Rattle.sqlite.specs.Held.{state}
use Rattle.store_counts.specs.Counts.{CountTables}
use Rattle.store_desk.proofs.QuestionLemmas.{of_tables}
use Rattle.store_desk.proofs.questions.HowManyQuestion.read.Goals as goal

pub returns-in-Ok-clause-value : goal.returns-in-Ok-clause-value
returns-in-Ok-clause-value g c clean inside =
    of_tables (state g.S.Store c.args.tx.now.conn.now) (state g.S.Store c.counts.new.tx.conn.now) (CountTables c.in-Ok.counted)
    (c.in-Ok.ensures.value clean inside)
