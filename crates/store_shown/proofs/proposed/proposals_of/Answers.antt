use Rattle.std.proofs.Common.{◌≡◌, ◌∙◌, Err, Ok, ap, arith, refl}
use Rattle.std.specs.Prelude.{option_copied, reverse}
use Rattle.sqlite.specs.Held.{state}
use Rattle.sqlite.specs.State.{HasCleanDisk}
use Rattle.desk_exports.specs.declared.reading.Reading.TheVariants as read
use Rattle.desk_exports.specs.declared.shown.Shown.TheVariants as answers
use Rattle.desk_exports.specs.Readings.{GivesProposals, may_refuse}
use Rattle.store_shown.specs.Telling.{IsDue}
use Rattle.desk_history.specs.Proposals.{proposals}
use Rattle.store_proposals.specs.Listing.{AreListed}
use Rattle.store_shown.proofs.OfficerLemmas.{gives_all, gives_refusal, tells_officer, tells_refusal, turned_away}
use Rattle.store_shown.proofs.ProposedLemmas.{are_shown}
use Rattle.store_shown.proofs.proposed.proposals_of.Goals as goal

pub returns-in-Err-clause-value : goal.returns-in-Err-clause-value
returns-in-Err-clause-value g c clean inside =
    let holds = g.L.RequestList.holds in
    let person = c.args.person.now in
    let name = person.name in
    let refusal = c.in-Err.refusal in
    tells_refusal (option_copied c.args.kept_person) name c.in_ok-officer.officer (state g.S.Store c.args.tx.now.conn.now) (state g.S.Store c.officer_of.new.tx.conn.now)
    (IsDue holds person read.Proposals (Err refusal)) refusal c.in-Err.is
    (λ cs is any. gives_refusal cs name (reverse (proposals cs)) (GivesProposals holds cs) refusal is) (c.in_ok-officer.ensures.value clean inside)

pub returns-clause-value : goal.returns-clause-value
returns-clause-value g c clean inside =
    let holds = g.L.RequestList.holds in
    let person = c.args.person.now in
    let name = person.name in
    let found = c.in_ok-found.found in
    let shown = c.new-shown.result in
    let s1 = state g.S.Store c.officer_of.new.tx.conn.now in
    let c1 : HasCleanDisk s1 = omega (arith, c.in_ok-found.ensures.survives.clean, clean) in
    tells_officer (option_copied c.args.kept_person) name c.in_ok-officer.officer (state g.S.Store c.args.tx.now.conn.now) s1
    (IsDue holds person read.Proposals (Ok (answers.Proposals shown))) (state g.S.Store c.proposals.new.tx.conn.now)
    (AreListed found.items) c.in_default.is
    (λ owner cs h is all any.
    gives_all cs name (reverse (proposals cs)) (GivesProposals holds cs) is (answers.Proposals shown)
    (ap answers.Proposals (c.new-shown.ensures ∙ are_shown owner cs (c.proposals_are_listable.ensures owner cs h) found.items all)))
    (c.in_ok-officer.ensures.value c1 inside) (c.in_ok-found.ensures.value clean)

pub returns-in-Err-clause-named : goal.returns-in-Err-clause-named
returns-in-Err-clause-named g c = turned_away (may_refuse read.Proposals) refl refl c.in-Err.refusal (rw c.in-Err.is at c.in_ok-officer.ensures.named)
