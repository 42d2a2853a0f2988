use Rattle.std.proofs.Common.{subst, sym}
use Rattle.desk_history.specs.Tables.{tables}
use Rattle.store_decision_rows.specs.remembered.Current.{IsCurrent}
use Rattle.store_desk.proofs.RememberedLemmas.{forgets}
use Rattle.store_desk.proofs.questions.RowsForQuestion.read.Goals as goal

pub returns-in-Ok-clause-value : goal.returns-in-Ok-clause-value
returns-in-Ok-clause-value g c clean inside = record {
  same = c.in-Ok.ensures.value clean inside;
  tells = λ owner cs history sees current.
      let known : IsCurrent c.without_person-remembered.result (tables owner cs) = subst (λ r. IsCurrent r (tables owner cs)) (sym c.without_person-remembered.ensures) (forgets c.args.self.now.remembered (tables owner cs) current) in
      let it = c.in-Ok.ensures.shown clean inside owner cs history sees known in
      (it.0, it.1.sizes);
}
