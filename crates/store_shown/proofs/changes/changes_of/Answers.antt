use Rattle.std.proofs.Common.{◌≡◌, true, false, Some, None, Ok, Err, length, rules, arith}
use Rattle.std.specs.Prelude.{option_copied}
use Rattle.sqlite.specs.Held.{state}
use Rattle.sqlite.specs.State.{HasCleanDisk}
use Rattle.base.specs.declared.refusal.Refusal.TheVariants as refusals
use Rattle.desk_exports.specs.declared.reading.Reading.TheVariants as read
use Rattle.desk_exports.specs.declared.shown.Shown.TheVariants as answers
use Rattle.store_shown.specs.Telling.{IsDue}
use Rattle.store_reads.specs.Reads.{ReadsTables}
use Rattle.store_shown.specs.Happening.{HappenedToFirst, is_submitter}
use Rattle.store_shown.proofs.TellsLemmas.{Knows, tells_nobody, tells_person}
use Rattle.store_shown.proofs.WaitingLemmas.{changes_by_calls, changes_by_events, changes_nobody}
use Rattle.store_shown.proofs.changes.changes_of.Goals as goal

pub returns-in_default-clause-value : goal.returns-in_default-clause-value
returns-in_default-clause-value g c clean inside =
    let holds = g.L.RequestList.holds in
    let person = c.args.person.now in
    let name = person.name in
    let found = c.in_ok-found.found in
    let kept = option_copied c.args.kept_person in
    let none : found ≡ None = search (rules, c.in_default.is) in
    tells_nobody kept name found (IsDue holds person read.Changes (Err refusals.UnknownCaller))
    (state g.S.Store c.args.tx.now.conn.now) (state g.S.Store c.reader_of.new.tx.conn.now) none (λ owner cs e any. changes_nobody owner cs name holds e) (c.in_ok-found.ensures.value clean inside)

pub returns-then-not-is_submitter-clause-value : goal.returns-then-not-is_submitter-clause-value
returns-then-not-is_submitter-clause-value g c clean inside =
    let holds = g.L.RequestList.holds in
    let person = c.args.person.now in
    let name = person.name in
    let found = c.in_ok-found.found in
    let kept = option_copied c.args.kept_person in
    let reader = c.in-Some.reader in
    let n = c.in_ok-calls.calls in
    let s0 = state g.S.Store c.args.tx.now.conn.now in
    let s1 = state g.S.Store c.reader_of.new.tx.conn.now in
    let s2 = state g.S.Store c.count.new.tx.conn.now in
    let c1 : HasCleanDisk s1 = omega (arith, c.in_ok-calls.ensures.survives.clean, clean) in
    let first : ReadsTables (Knows kept name found) s0 s1 = c.in_ok-found.ensures.value c1 inside in
    let second : ReadsTables (λ t. n ≡ length t.calls) s1 s2 = c.in_ok-calls.ensures.value clean first.kept.inside in
    let some : found ≡ Some reader = search (rules, c.in-Some.is) in
    let is : is_submitter reader.role ≡ false = search (rules, c.is_submitter.ensures, c.if-not-is_submitter.true) in
    tells_person kept name found (IsDue holds person read.Changes (Ok (answers.Changes n))) s0 s1 s2 (λ t. n ≡ length t.calls) reader some
    (λ owner cs h e counted any. changes_by_calls owner cs name holds reader e is n counted) first second

pub returns-clause-value : goal.returns-clause-value
returns-clause-value g c clean inside =
    let holds = g.L.RequestList.holds in
    let person = c.args.person.now in
    let name = person.name in
    let found = c.in_ok-found.found in
    let kept = option_copied c.args.kept_person in
    let reader = c.in-Some.reader in
    let n = c.in_ok-events.events in
    let s0 = state g.S.Store c.args.tx.now.conn.now in
    let s1 = state g.S.Store c.reader_of.new.tx.conn.now in
    let s2 = state g.S.Store c.events_of_all.new.tx.conn.now in
    let c1 : HasCleanDisk s1 = omega (arith, c.in_ok-events.ensures.survives.clean, clean) in
    let first : ReadsTables (Knows kept name found) s0 s1 = c.in_ok-found.ensures.value c1 inside in
    let second : ReadsTables (λ t. HappenedToFirst reader t (length t.requests) n) s1 s2 = c.in_ok-events.ensures.value clean first.kept.inside in
    let some : found ≡ Some reader = search (rules, c.in-Some.is) in
    let is : is_submitter reader.role ≡ true = search (rules, c.is_submitter.ensures, c.if-not-is_submitter.false) in
    tells_person kept name found (IsDue holds person read.Changes (Ok (answers.Changes n))) s0 s1 s2 (λ t. HappenedToFirst reader t (length t.requests) n) reader some
    (λ owner cs h e happened any. changes_by_events owner cs name holds reader e is n happened) first second
