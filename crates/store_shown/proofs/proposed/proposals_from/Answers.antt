use Rattle.std.proofs.Common.{◌≡◌, ◌-◌, ◌∙◌, Err, None, Ok, ap, length, min, subst, arith, refl}
use Rattle.std.specs.Prelude.{option_copied, reverse}
use Rattle.sqlite.specs.Held.{state}
use Rattle.sqlite.specs.State.{HasCleanDisk}
use Rattle.desk_types.specs.declared.caller.Caller.TheVariants as callers
use Rattle.desk_exports.specs.declared.reading.Reading.TheVariants as read
use Rattle.desk_exports.specs.declared.shown.Shown.TheVariants as answers
use Rattle.desk_exports.specs.Readings.{GivesProposals, may_refuse}
use Rattle.store_shown.specs.Telling.{IsDue}
use Rattle.desk_exports.specs.ListParts as part
use Rattle.desk_history.specs.Proposals.{proposals}
use Rattle.store_proposals.specs.Numbered.{ListsUpTo}
use Rattle.store_reads.specs.Reads.{ReadsTables}
use Rattle.store_reads.proofs.TellsLemmas.{tells_then}
use Rattle.store_shown.proofs.OfficerLemmas.{gives_all, gives_refusal, tells_officer, tells_refusal, turned_away}
use Rattle.store_shown.proofs.ProposedLemmas.{from_shown, part_given, part_refused}
use Rattle.store_shown.proofs.proposed.proposals_from.Goals as goal

pub returns-in-Err-clause-value : goal.returns-in-Err-clause-value
returns-in-Err-clause-value g c clean inside =
    let holds = g.L.RequestList.holds in
    let person = c.args.person.now in
    let name = person.name in
    let n = c.args.number in
    let refusal = c.in-Err.refusal in
    tells_refusal (option_copied c.args.kept_person) name c.in_ok-officer.officer (state g.S.Store c.args.tx.now.conn.now) (state g.S.Store c.officer_of.new.tx.conn.now)
    (IsDue holds person (read.ProposalsFrom n) (Err refusal)) refusal c.in-Err.is
    (λ cs is any. part_refused cs n (callers.Person name) refusal (GivesProposals holds cs) (gives_refusal cs name (reverse (proposals cs)) (GivesProposals holds cs) refusal is)) (c.in_ok-officer.ensures.value clean inside)

pub returns-clause-value : goal.returns-clause-value
returns-clause-value g c clean inside =
    let holds = g.L.RequestList.holds in
    let person = c.args.person.now in
    let name = person.name in
    let n = c.args.number in
    let found = c.in_ok-found.found in
    let shown = c.new-shown.result in
    let last = c.in_ok-count.count in
    let s1 = state g.S.Store c.officer_of.new.tx.conn.now in
    let s2 = state g.S.Store c.count.new.tx.conn.now in
    let s3 = state g.S.Store c.proposals_after.new.tx.conn.now in
    let c2 : HasCleanDisk s2 = omega (arith, c.in_ok-found.ensures.survives.clean, clean) in
    let c1 : HasCleanDisk s1 = omega (arith, c.in_ok-count.ensures.survives.clean, c2) in
    tells_officer (option_copied c.args.kept_person) name c.in_ok-officer.officer (state g.S.Store c.args.tx.now.conn.now) s1
    (IsDue holds person (read.ProposalsFrom n) (Ok (answers.Proposals shown))) s3
    (λ t. (last ≡ length t.proposals) × ListsUpTo None t (min (n - 1) last) last 1000 found.items) c.in_default.is
    (λ owner cs h is both any. part_given cs n (callers.Person name) (GivesProposals holds cs) (answers.Proposals shown) (gives_all cs name (reverse (proposals cs)) (λ ps v. GivesProposals holds cs (part.part_from part.proposal_number n ps) v) is (answers.Proposals shown)
    (ap answers.Proposals (c.new-shown.ensures ∙ from_shown owner cs (c.proposals_are_listable.ensures owner cs h) n last both.0 found.items both.1))))
    (c.in_ok-officer.ensures.value c1 inside)
    (λ in_first.
    let second : ReadsTables (λ t. last ≡ length t.proposals) s1 s2 = c.in_ok-count.ensures.value c2 in_first in
    tells_then s1 s2 s3 (λ t. last ≡ length t.proposals) (λ t. ListsUpTo None t (min (n - 1) last) last 1000 found.items) second
    (subst (λ k. ReadsTables (λ t. ListsUpTo None t k last 1000 found.items) s2 s3) c.passed_before-passed.ensures (c.in_ok-found.ensures.value clean second.kept.inside)))

pub returns-in-Err-clause-named : goal.returns-in-Err-clause-named
returns-in-Err-clause-named g c = turned_away (may_refuse (read.ProposalsFrom c.args.number)) refl refl c.in-Err.refusal (rw c.in-Err.is at c.in_ok-officer.ensures.named)
