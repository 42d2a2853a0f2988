use Rattle.std.proofs.Common.{◌≡◌, None, Some, sym, subst, ◌∙◌, arith, rules}
use Rattle.sqlite.specs.Held.{state}
use Rattle.sqlite.specs.State.{HasCleanDisk}
use Rattle.desk_history.specs.People.{people}
use Rattle.desk_history.specs.Tables.{tables}
use Rattle.store_reads.specs.People.{IsOneOf}
use Rattle.store_schema.specs.Tables.{desk_layout}
use Rattle.store_schema.specs.rows.Contents.{contents}
use Rattle.store_sql.proofs.StopLemmas.{changes_then}
use Rattle.store_desk.proofs.ImpactLemmas.{gives_refusal}
use Rattle.store_desk.proofs.impacts.ForetellingQuestion.read.Goals as goal

pub returns-in-Ok-clause-value : goal.returns-in-Ok-clause-value
returns-in-Ok-clause-value g c clean inside =
    let s0 = state g.S.Store c.args.tx.now.conn.now in
    let s1 = state g.S.Store c.refusal_to.new.tx.conn.now in
    let s2 = state g.S.Store c.look.new.tx.conn.now in
    let c1 : HasCleanDisk s1 = omega (arith, c.in-Ok.ensures.survives.clean, clean) in
    let a = c.in-Ok-None.ensures.value c1 inside in
    let b = c.in-Ok.ensures.value clean a.kept.inside in
    let none : c.in-Ok-None.field-0 ≡ None = search (rules, c.in-Ok-None.is) in
    record {
      same = changes_then desk_layout contents s0 s1 s2 (λ t. t) (λ t. t) a.kept b.same;
      tells = λ owner cs history sees one current.
          b.tells owner cs history (a.kept.value (tables owner cs) sees) current
          (sym (a.tells owner cs history sees (subst (λ o. IsOneOf o (people cs)) (sym c.as_ref.ensures.value) one)) ∙ none);
    }

pub returns-in-Ok-Some-clause-value : goal.returns-in-Ok-Some-clause-value
returns-in-Ok-Some-clause-value g c clean inside =
    let a = c.in-Ok-Some.ensures.value clean inside in
    let some : c.in-Ok-Some.field-0 ≡ Some c.in-Ok-Some.refusal = search (rules, c.in-Ok-Some.is) in
    record {
      same = a.kept;
      tells = λ owner cs history sees one current. (
        gives_refusal cs c.args.self.now.caller.now c.args.self.now.number c.in-Ok-Some.refusal
            (sym some ∙ a.tells owner cs history sees (subst (λ o. IsOneOf o (people cs)) (sym c.as_ref.ensures.value) one)),
        current.sizes,
      );
    }
