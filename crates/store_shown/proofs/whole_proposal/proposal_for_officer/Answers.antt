use Rattle.std.proofs.Common.{◌≡◌, [], Err, None, Ok, Some, arith, subst, refl}
use Rattle.std.specs.Prelude.{option_copied}
use Rattle.sqlite.specs.Held.{state}
use Rattle.sqlite.specs.State.{HasCleanDisk}
use Rattle.base.specs.declared.refusal.Refusal.TheVariants as refusals
use Rattle.desk_exports.specs.declared.reading.Reading.TheVariants as read
use Rattle.desk_exports.specs.Readings.{may_refuse}
use Rattle.desk_exports.specs.declared.shown.Shown.TheVariants as answers
use Rattle.store_shown.specs.Telling.{IsDue}
use Rattle.store_proposals.specs.Reading.{IsRead}
use Rattle.store_shown.proofs.OfficerLemmas.{tells_officer, tells_refusal, turned_away}
use Rattle.store_shown.proofs.WholeLemmas.{IsFound, gives_none, gives_refusal, gives_row}
use Rattle.store_shown.proofs.whole_proposal.proposal_for_officer.Goals as goal

pub returns-in-Err-clause-value : goal.returns-in-Err-clause-value
returns-in-Err-clause-value g c clean inside =
    let holds = g.L.RequestList.holds in
    let person = c.args.person.now in
    let name = person.name in
    let k = c.args.number in
    let refusal = c.in-Err.refusal in
    tells_refusal (option_copied c.args.kept_person) name c.in_ok-officer.officer (state g.S.Store c.args.tx.now.conn.now) (state g.S.Store c.officer_of.new.tx.conn.now)
    (IsDue holds person (read.Proposal k) (Err refusal)) refusal c.in-Err.is
    (λ cs is any. gives_refusal [] cs k name holds refusal is) (c.in_ok-officer.ensures.value clean inside)

pub returns-in_default-found-clause-value : goal.returns-in_default-found-clause-value
returns-in_default-found-clause-value g c clean inside =
    let holds = g.L.RequestList.holds in
    let person = c.args.person.now in
    let name = person.name in
    let k = c.args.number in
    let found = c.in_ok-found.found in
    let s1 = state g.S.Store c.officer_of.new.tx.conn.now in
    let c1 : HasCleanDisk s1 = omega (arith, c.in_ok-found.ensures.survives.clean, clean) in
    let none : found ≡ None = c.in_default-found.is in
    tells_officer (option_copied c.args.kept_person) name c.in_ok-officer.officer (state g.S.Store c.args.tx.now.conn.now) s1
    (IsDue holds person (read.Proposal k) (Err refusals.NoSuchProposal)) (state g.S.Store c.proposal_of.new.tx.conn.now) (IsRead k found) c.in_default.is
    (λ owner cs h is there any. gives_none owner cs k name holds is (subst (IsFound owner cs k) none (there (c.stamps_are_above_none.ensures owner cs h))))
    (c.in_ok-officer.ensures.value c1 inside) (c.in_ok-found.ensures.value clean)

pub returns-clause-value : goal.returns-clause-value
returns-clause-value g c clean inside =
    let holds = g.L.RequestList.holds in
    let person = c.args.person.now in
    let name = person.name in
    let k = c.args.number in
    let found = c.in_ok-found.found in
    let row = c.in-Some.row in
    let s1 = state g.S.Store c.officer_of.new.tx.conn.now in
    let c1 : HasCleanDisk s1 = omega (arith, c.in_ok-found.ensures.survives.clean, clean) in
    let some : found ≡ Some row = c.in-Some.is in
    tells_officer (option_copied c.args.kept_person) name c.in_ok-officer.officer (state g.S.Store c.args.tx.now.conn.now) s1
    (IsDue holds person (read.Proposal k) (Ok (answers.Proposal row))) (state g.S.Store c.proposal_of.new.tx.conn.now) (IsRead k found) c.in_default.is
    (λ owner cs h is there any. gives_row owner cs k name holds is row (subst (IsFound owner cs k) some (there (c.stamps_are_above_none.ensures owner cs h))))
    (c.in_ok-officer.ensures.value c1 inside) (c.in_ok-found.ensures.value clean)

pub returns-in-Err-clause-named : goal.returns-in-Err-clause-named
returns-in-Err-clause-named g c = turned_away (may_refuse (read.Proposal c.args.number)) refl refl c.in-Err.refusal (rw c.in-Err.is at c.in_ok-officer.ensures.named)
