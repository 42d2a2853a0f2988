use Rattle.store_desk.proofs.AnsweringLemmas.{still_one}
use Rattle.store_desk.proofs.answering.DeskAnswersCalls.verdict.Goals as goal

pub returns-clause-stopped : goal.returns-clause-stopped
returns-clause-stopped g c = still_one g.S.Store c.args.self.now c.verdict.new.self (λ owner cs was. c.verdict.ensures.reads.spares)
