use Rattle.sqlite.specs.Held.{state}
use Rattle.store_shown.specs.Lines.{IsLineOf}
use Rattle.store_desk.proofs.QuestionLemmas.{of_history}
use Rattle.store_desk.proofs.own_lines.LineNumberedQuestion.read.Goals as goal

pub returns-in-Ok-clause-value : goal.returns-in-Ok-clause-value
returns-in-Ok-clause-value g c clean inside =
    of_history (state g.S.Store c.args.tx.now.conn.now) (state g.S.Store c.line_numbered.new.tx.conn.now) (λ cs. IsLineOf cs c.args.self.now.number c.in-Ok.given.items)
    (c.in-Ok.ensures.value clean inside)
