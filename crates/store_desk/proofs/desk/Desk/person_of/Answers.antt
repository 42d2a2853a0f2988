use Rattle.std.proofs.Common.{rules}
use Rattle.store_desk.proofs.PersonLemmas.{found_is_one, with_person}
use Rattle.store_desk.proofs.desk.Desk.person_of.Goals as goal

pub returns-clause-shown : goal.returns-clause-shown
returns-clause-shown g c = search rules

-- the person who was found is one of the people, so the desk may keep them
pub returns-clause-reads : goal.returns-clause-reads
returns-clause-reads g c =
    let it = c.in-Ok.ensures in
    record {
      same = λ clean other owner cs was. with_person g.S.Store c.answer_question.new.self c.copy_of.result owner cs
          (found_is_one owner cs c.args.token.now c.in-Ok.found c.copy_of.result was.history (it.shown clean owner cs was) (search rules))
          (it.reads.same clean (λ is. absurd (cc)) owner cs was);
      spares = it.reads.spares;
      poisons = search rules;
      steady = search rules;
      closed = search rules;
      named = λ usable. tt;
    }
