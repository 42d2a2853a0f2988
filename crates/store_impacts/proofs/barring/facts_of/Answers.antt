use Rattle.std.proofs.Common.{◌≡◌, ◌==◌, ◌∙◌, Some, filter, map, rules, subst, sym}
use Rattle.sqlite.specs.Held.{state}
use Rattle.desk_history.specs.Replies.{minutes}
use Rattle.desk_history.specs.declared.rows.Minute.{Minute}
use Rattle.store_reads.specs.CallColumns.{texts_of}
use Rattle.store_reads.specs.Reads.{listed}
use Rattle.store_impacts.specs.Barring.{AreFactsOf}
use Rattle.store_impacts.proofs.FoundLemmas.{facts_are}
use Rattle.store_impacts.proofs.TellsLemmas.{of_tables}
use Rattle.store_impacts.proofs.barring.facts_of.Goals as goal

pub returns-clause-value : goal.returns-clause-value
returns-clause-value g c clean inside =
    let call = c.args.call in
    let texts = c.in-Some.texts in
    let passed = c.in-Some-2.passed in
    let found = c.in_ok-texts.field-0 in
    let some : found ≡ Some texts = search (rules, c.in-Some.is) in
    let told : c.in_ok-passed.field-0 ≡ Some passed = search (rules, c.in-Some-2.is) in
    of_tables (state g.S.Store c.args.tx.now.conn.now) (state g.S.Store c.call_numbered.new.tx.conn.now)
    (λ t. map texts_of (filter (λ m. call == m.number) t.calls) ≡ listed found) (AreFactsOf call passed.facts)
    (λ owner cs history read. facts_are cs history call texts passed (subst (λ o. map texts_of (filter (λ (m : Minute). call == m.number) (minutes cs)) ≡ listed o) some read)
    (λ i own text. sym (c.in_ok-passed.ensures i.call.command own.forms own.limits (c.as_bytes.ensures.value ∙ c.as_str.ensures ∙ text)) ∙ told))
    (c.in_ok-texts.ensures.value clean inside)
