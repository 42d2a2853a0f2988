use Rattle.std.proofs.Common.{Err, sym, subst, ◌∙◌}
use Rattle.desk_history.specs.People.{people}
use Rattle.desk_history.specs.Tables.{tables}
use Rattle.store_decision_rows.specs.remembered.Current.{IsCurrent}
use Rattle.store_desk.proofs.RememberedLemmas.{forgets}
use Rattle.store_reads.specs.Failures.{IsFailure}
use Rattle.store_reads.specs.People.{IsOneOf}
use Rattle.store_desk.specs.Desks.{ForEachShown}
use Rattle.store_desk.specs.Impacts.{GivesOutlook}
use Rattle.store_desk.proofs.StreamLemmas.{answers, not_store, on_answer, on_failure, reads_wider}
use Rattle.store_desk.proofs.PersonLemmas.{reads_taken, without_person}
use Rattle.store_desk.proofs.desk.Desk.outlook.Goals as goal

pub returns-in-Ok-clause-due : goal.returns-in-Ok-clause-due
returns-in-Ok-clause-due g c clean =
    let old = c.args.self.now in
    let taken = c.take-person in
    let told = c.in-Ok.told in
    on_answer told.given (ForEachShown g.S.Store old (λ owner cs. GivesOutlook cs c.args.caller.now c.args.number told.given))
    (λ owner cs was.
    let before = without_person g.S.Store old taken.new.self taken.ensures.after owner cs was in
    let known : IsCurrent c.without_person.result (tables owner cs) = subst (λ r. IsCurrent r (tables owner cs)) (sym c.without_person.ensures) (forgets _ (tables owner cs) before.remembered) in
    (c.in-Ok.ensures.shown clean owner cs before (subst (λ o. IsOneOf o (people cs)) (sym taken.ensures.value) was.remembered.person) known).0)

-- the sizes that were counted are right of the same history
pub returns-in-Ok-clause-reads : goal.returns-in-Ok-clause-reads
returns-in-Ok-clause-reads g c =
    let old = c.args.self.now in
    let taken = c.take-person in
    let told = c.in-Ok.told in
    let it = c.in-Ok.ensures.reads in
    record {
      same = λ clean other owner cs was.
          let before = without_person g.S.Store old taken.new.self taken.ensures.after owner cs was in
          let kept = it.same clean (λ is. absurd cc) owner cs before in
          let known : IsCurrent c.without_person.result (tables owner cs) = subst (λ r. IsCurrent r (tables owner cs)) (sym c.without_person.ensures) (forgets _ (tables owner cs) before.remembered) in
          record {
            usable = kept.usable;
            history = kept.history;
            shows = kept.shows;
            own = kept.own;
            remembered = record {
              stamp = kept.remembered.stamp;
              sizes = (c.in-Ok.ensures.shown clean owner cs before (subst (λ o. IsOneOf o (people cs)) (sym taken.ensures.value) was.remembered.person) known).1;
              person = kept.remembered.person;
            };
            left = kept.left;
          };
      spares = it.spares;
      poisons = λ is. absurd (not_store told.given c.in-Ok.ensures.bound is);
      steady = λ other. it.steady (λ is. absurd cc);
      closed = λ is. absurd (let h = sym is ∙ c.if-self.false in cc);
      named = λ usable. answers told.given c.in-Ok.ensures.bound;
    }

pub returns-clause-due : goal.returns-clause-due
returns-clause-due g c clean no_memory no_store =
    on_failure c.in-Err.failure (ForEachShown g.S.Store c.args.self.now (λ owner cs. GivesOutlook cs c.args.caller.now c.args.number (Err c.in-Err.failure)))
    (c.in-Err.ensures.reads.named c.if-self.false) no_memory no_store

pub returns-clause-reads : goal.returns-clause-reads
returns-clause-reads g c =
    let old = c.args.self.now in
    reads_wider g.S.Store old c.answer_question.new.self c.in-Err.failure c.if-self.false
    (reads_taken g.S.Store IsFailure old c.answer_question.new.self c.take-person.new.self c.take-person.ensures.after (Err c.in-Err.failure) c.if-self.false c.in-Err.ensures.reads)
