use Rattle.std.proofs.Common.{◌≡◌, Err, ap, rules, subst, sym}
use Rattle.base.specs.declared.refusal.Refusal.TheVariants as refusals
use Rattle.desk_history.specs.Tables.{tables}
use Rattle.store_decision_rows.specs.remembered.Current.{IsCurrent}
use Rattle.store_desk.proofs.RememberedLemmas.{forgets}
use Rattle.store_desk.proofs.desk.Desk.view.Goals as goal

pub returns-in-Ok-clause-shown : goal.returns-in-Ok-clause-shown
returns-in-Ok-clause-shown g c clean owner cs was =
    let known : IsCurrent c.without_person.result (tables owner cs) = subst (λ r. IsCurrent r (tables owner cs)) (sym c.without_person.ensures) (forgets c.args.self.now.remembered (tables owner cs) was.remembered) in
    (c.in-Ok.ensures.shown clean owner cs was known).0

-- the sizes that were counted are right of the same history
pub returns-in-Ok-clause-reads : goal.returns-in-Ok-clause-reads
returns-in-Ok-clause-reads g c = record {
  same = λ clean other owner cs was.
      let it = c.in-Ok.ensures.reads.same clean (λ is. absurd (cc)) owner cs was in
      let known : IsCurrent c.without_person.result (tables owner cs) = subst (λ r. IsCurrent r (tables owner cs)) (sym c.without_person.ensures) (forgets c.args.self.now.remembered (tables owner cs) was.remembered) in
      record {
        usable = it.usable;
        history = it.history;
        shows = it.shows;
        own = it.own;
        remembered = record { stamp = it.remembered.stamp; sizes = (c.in-Ok.ensures.shown clean owner cs was known).1; person = it.remembered.person };
        left = it.left;
      };
  spares = c.in-Ok.ensures.reads.spares;
  poisons = search rules;
  steady = search rules;
  closed = search rules;
  named = λ usable. tt;
}

pub returns-clause-reads : goal.returns-clause-reads
returns-clause-reads g c =
    let it = c.in-Err.ensures.reads in
    record {
      same = λ clean other owner cs was. it.same clean (λ is. other (let e : c.in-Err.failure ≡ refusals.Store = cc in ap Err e)) owner cs was;
      spares = it.spares;
      poisons = λ is. it.poisons (let e : c.in-Err.failure ≡ refusals.Store = cc in ap Err e);
      steady = λ other. it.steady (λ is. other (let e : c.in-Err.failure ≡ refusals.Store = cc in ap Err e));
      closed = λ was. (let first = (it.closed was).0 in let e : c.in-Err.failure ≡ refusals.Reopen = cc in (ap Err e, (it.closed was).1));
      named = it.named;
    }
