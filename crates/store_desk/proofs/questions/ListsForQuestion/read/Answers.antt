use Rattle.sqlite.specs.Held.{state}
use Rattle.desk_rules.specs.Views.{ShowsLists, keys_of}
use Rattle.store_desk.proofs.QuestionLemmas.{of_tables}
use Rattle.store_desk.proofs.questions.ListsForQuestion.read.Goals as goal

pub returns-in-Ok-clause-value : goal.returns-in-Ok-clause-value
returns-in-Ok-clause-value g c clean inside =
    of_tables (state g.S.Store c.args.tx.now.conn.now) (state g.S.Store c.list_view.new.tx.conn.now)
    (λ t. ShowsLists c.in-Ok.view t (keys_of c.args.self.now.facts.now)) (c.in-Ok.ensures.value clean inside)
