use Rattle.std.proofs.Common.{◌≡◌, ◌∙◌, Some, None, Ok, Err, ap, subst, sym, rules}
use Rattle.std.specs.Prelude.{option_copied}
use Rattle.sqlite.specs.Held.{state}
use Rattle.desk_history.specs.People.{people}
use Rattle.store_reads.specs.People.{IsOneOf}
use Rattle.store_shown.specs.Telling.{IsOfficer}
use Rattle.store_impacts.specs.Reading.{refusal_to}
use Rattle.store_impacts.proofs.TellsLemmas.{of_so}
use Rattle.store_impacts.proofs.ReaderLemmas.{refuses_none, refuses_some}
use Rattle.store_impacts.proofs.reader.refusal_to.Goals as goal

pub returns-in-Ok-clause-value : goal.returns-in-Ok-clause-value
returns-in-Ok-clause-value g c clean inside =
    let name = c.in-Person.name in
    let kept = option_copied c.args.kept_person in
    let given = c.in_ok-officer_of.field-0 in
    let ok : given ≡ Ok tt = search (rules, c.in-Ok.is) in
    of_so (state g.S.Store c.args.tx.now.conn.now) (state g.S.Store c.officer_of.new.tx.conn.now)
    (λ cs. IsOneOf kept (people cs) → IsOfficer cs name given) (λ cs. IsOneOf kept (people cs) → None ≡ refusal_to cs c.args.caller.now)
    (λ cs it known. refuses_none cs name (subst (IsOfficer cs name) ok (it known)) ∙ ap (refusal_to cs) (sym c.in-Person.is))
    (c.in_ok-officer_of.ensures.value clean inside)

pub returns-in-Err-clause-value : goal.returns-in-Err-clause-value
returns-in-Err-clause-value g c clean inside =
    let name = c.in-Person.name in
    let kept = option_copied c.args.kept_person in
    let given = c.in_ok-officer_of.field-0 in
    let err : given ≡ Err c.in-Err.refusal = search (rules, c.in-Err.is) in
    of_so (state g.S.Store c.args.tx.now.conn.now) (state g.S.Store c.officer_of.new.tx.conn.now)
    (λ cs. IsOneOf kept (people cs) → IsOfficer cs name given) (λ cs. IsOneOf kept (people cs) → Some c.in-Err.refusal ≡ refusal_to cs c.args.caller.now)
    (λ cs it known. refuses_some cs name c.in-Err.refusal (subst (IsOfficer cs name) err (it known)) ∙ ap (refusal_to cs) (sym c.in-Person.is))
    (c.in_ok-officer_of.ensures.value clean inside)
