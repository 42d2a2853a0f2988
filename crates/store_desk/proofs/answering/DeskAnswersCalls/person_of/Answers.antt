use Rattle.store_desk.specs.Desks.{ShowsDesk}
use Rattle.store_desk.proofs.AnsweringLemmas.{one_person, still_one}
use Rattle.store_desk.proofs.answering.DeskAnswersCalls.person_of.Goals as goal

pub returns-clause-given : goal.returns-clause-given
returns-clause-given g c clean =
    one_person c.person_of.result c.args.token.now (ShowsDesk g.S.Store c.args.self.now) (c.person_of.ensures.shown clean)

pub returns-clause-stopped : goal.returns-clause-stopped
returns-clause-stopped g c = still_one g.S.Store c.args.self.now c.person_of.new.self (λ owner cs was. c.person_of.ensures.reads.spares)
