use Rattle.std.proofs.Common.{◌∙◌, true, Err, Ok, arith, refl, subst, sym}
use Rattle.std.specs.Prelude.{option_copied}
use Rattle.sqlite.specs.Held.{state}
use Rattle.sqlite.specs.State.{HasCleanDisk}
use Rattle.desk_exports.specs.declared.reading.Reading.TheVariants as read
use Rattle.desk_exports.specs.declared.shown.Shown.TheVariants as answers
use Rattle.desk_exports.specs.Readings.{GivesPeople, may_refuse}
use Rattle.store_shown.specs.Telling.{IsDue}
use Rattle.desk_history.specs.People.{people}
use Rattle.desk_history.specs.PeopleShown.{ShowsPeople}
use Rattle.store_schema.specs.Tables as schema
use Rattle.store_schema.specs.rows.Values.{person_values}
use Rattle.store_reads.specs.Reads.{AreFound}
use Rattle.store_shown.proofs.OfficerLemmas.{gives_all, gives_refusal, tells_officer, tells_refusal, turned_away}
use Rattle.store_shown.proofs.PeopleLemmas.{are_shown}
use Rattle.store_shown.proofs.all_people.people_for_officer.Goals as goal

pub returns-in-Err-clause-value : goal.returns-in-Err-clause-value
returns-in-Err-clause-value g c clean inside =
    let holds = g.L.RequestList.holds in
    let person = c.args.person.now in
    let name = person.name in
    let refusal = c.in-Err.refusal in
    tells_refusal (option_copied c.args.kept_person) name c.in_ok-officer.officer (state g.S.Store c.args.tx.now.conn.now) (state g.S.Store c.officer_of.new.tx.conn.now)
    (IsDue holds person read.People (Err refusal)) refusal c.in-Err.is
    (λ cs is any. gives_refusal cs name (people cs) (GivesPeople holds) refusal is) (c.in_ok-officer.ensures.value clean inside)

pub returns-clause-value : goal.returns-clause-value
returns-clause-value g c clean inside =
    let holds = g.L.RequestList.holds in
    let person = c.args.person.now in
    let name = person.name in
    let found = c.in_ok-people.people.items in
    let shown = c.new-shown.result in
    let s1 = state g.S.Store c.officer_of.new.tx.conn.now in
    let c1 : HasCleanDisk s1 = omega (arith, c.in_ok-people.ensures.survives.clean, clean) in
    tells_officer (option_copied c.args.kept_person) name c.in_ok-officer.officer (state g.S.Store c.args.tx.now.conn.now) s1
    (IsDue holds person read.People (Ok (answers.People shown))) (state g.S.Store c.people_all.new.tx.conn.now)
    (λ t. AreFound person_values schema.people 1 (λ p. true) t.people found) c.in_default.is
    (λ owner cs h is all any.
    gives_all cs name (people cs) (GivesPeople holds) is (answers.People shown)
    (shown, subst (ShowsPeople (people cs)) (sym (c.new-shown.ensures ∙ c.in_ok-found.ensures)) (are_shown (people cs) found all), refl))
    (c.in_ok-officer.ensures.value c1 inside) (c.in_ok-people.ensures.value clean)

pub returns-in-Err-clause-named : goal.returns-in-Err-clause-named
returns-in-Err-clause-named g c = turned_away (may_refuse read.People) refl refl c.in-Err.refusal (rw c.in-Err.is at c.in_ok-officer.ensures.named)
