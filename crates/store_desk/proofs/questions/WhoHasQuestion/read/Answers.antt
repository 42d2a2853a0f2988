use Rattle.std.proofs.Common.{◌≡◌, filter}
use Rattle.sqlite.specs.Held.{state}
use Rattle.desk_history.specs.People.{has_token}
use Rattle.store_reads.specs.Reads.{listed}
use Rattle.store_desk.proofs.QuestionLemmas.{of_tables}
use Rattle.store_desk.proofs.questions.WhoHasQuestion.read.Goals as goal

pub returns-in-Ok-clause-value : goal.returns-in-Ok-clause-value
returns-in-Ok-clause-value g c clean inside =
    of_tables (state g.S.Store c.args.tx.now.conn.now) (state g.S.Store c.person_of_token.new.tx.conn.now)
    (λ t. filter (has_token c.args.self.now.token.now) t.people ≡ listed c.in-Ok.person) (c.in-Ok.ensures.value clean inside)
