use Rattle.std.proofs.Common.{◌≡◌, ◌∙◌, [], true, false, Some, None, Ok, Err, length, rules, arith, subst, sym}
use Rattle.std.specs.Prelude.{option_copied}
use Rattle.sqlite.specs.Held.{state}
use Rattle.sqlite.specs.State.{HasCleanDisk}
use Rattle.base.specs.declared.refusal.Refusal.TheVariants as refusals
use Rattle.desk_exports.specs.declared.reading.Reading.TheVariants as read
use Rattle.desk_exports.specs.declared.shown.Shown.TheVariants as answers
use Rattle.desk_exports.specs.Readings.{GivesWaiting}
use Rattle.store_shown.specs.Telling.{IsDue}
use Rattle.desk_history.specs.Roles.{is_officer}
use Rattle.store_proposals.specs.Numbered as numbered
use Rattle.store_reads.specs.Reads.{ReadsTables}
use Rattle.store_shown.specs.Choosing.{ListsUpTo}
use Rattle.store_shown.specs.declared.choice.Choice.TheVariants as choices
use Rattle.store_shown.proofs.TellsLemmas.{Knows, tells_nobody, tells_person}
use Rattle.store_shown.proofs.WaitingLemmas.{waits_nobody, waits_officer, waits_other}
use Rattle.store_shown.proofs.waiting.waiting_of.Goals as goal

pub returns-in_default-clause-value : goal.returns-in_default-clause-value
returns-in_default-clause-value g c clean inside =
    let person = c.args.person.now in
    let name = person.name in
    let found = c.in_ok-found.found in
    let kept = option_copied c.args.kept_person in
    let holds = g.L.RequestList.holds in
    let none : found ≡ None = search (rules, c.in_default.is) in
    tells_nobody kept name found (IsDue holds person read.Waiting (Err refusals.UnknownCaller))
    (state g.S.Store c.args.tx.now.conn.now) (state g.S.Store c.reader_of.new.tx.conn.now) none (λ owner cs e any. waits_nobody owner cs name (GivesWaiting holds cs) e) (c.in_ok-found.ensures.value clean inside)

pub returns-then-is_officer-clause-value : goal.returns-then-is_officer-clause-value
returns-then-is_officer-clause-value g c clean inside =
    let person = c.args.person.now in
    let name = person.name in
    let found = c.in_ok-found.found in
    let kept = option_copied c.args.kept_person in
    let reader = c.in-Some.reader in
    let requests = c.new-requests.result in
    let found_ones = c.in_ok-waiting.waiting in
    let proposals = c.new-proposals.result in
    let holds = g.L.RequestList.holds in
    let s0 = state g.S.Store c.args.tx.now.conn.now in
    let s1 = state g.S.Store c.reader_of.new.tx.conn.now in
    let s2 = state g.S.Store c.proposals_for.new.tx.conn.now in
    let c1 : HasCleanDisk s1 = omega (arith, c.in_ok-waiting.ensures.survives.clean, clean) in
    let first : ReadsTables (Knows kept name found) s0 s1 = c.in_ok-found.ensures.value c1 inside in
    let second : ReadsTables (λ t. numbered.ListsUpTo (Some reader.name) t 0 (length t.proposals) (length t.proposals) found_ones.items) s1 s2 = c.in_ok-waiting.ensures.value clean first.kept.inside in
    let some : found ≡ Some reader = search (rules, c.in-Some.is) in
    let is : is_officer reader.role ≡ true = search (rules, c.is_officer.ensures, c.if-is_officer.true) in
    tells_person kept name found (IsDue holds person read.Waiting (Ok (answers.Waiting requests proposals))) s0 s1 s2 (λ t. numbered.ListsUpTo (Some reader.name) t 0 (length t.proposals) (length t.proposals) found_ones.items) reader some
    (λ owner cs h e lists any.
    subst (λ ps. IsDue holds person read.Waiting (Ok (answers.Waiting requests ps)) cs) (sym c.new-proposals.ensures)
    (λ any. waits_officer owner cs name reader e holds requests found_ones.items (c.proposals_are_listable.ensures owner cs h) is lists c.new-requests.ensures) any) first second

pub returns-clause-value : goal.returns-clause-value
returns-clause-value g c clean inside =
    let person = c.args.person.now in
    let name = person.name in
    let found = c.in_ok-found.found in
    let kept = option_copied c.args.kept_person in
    let reader = c.in-Some.reader in
    let list = c.in_ok-requests.requests in
    let holds = g.L.RequestList.holds in
    let proposals = c.new-proposals-2.result in
    let s0 = state g.S.Store c.args.tx.now.conn.now in
    let s1 = state g.S.Store c.reader_of.new.tx.conn.now in
    let s2 = state g.S.Store c.requests_for.new.tx.conn.now in
    let c1 : HasCleanDisk s1 = omega (arith, c.in_ok-requests.ensures.survives.clean, clean) in
    let first : ReadsTables (Knows kept name found) s0 s1 = c.in_ok-found.ensures.value c1 inside in
    let second : ReadsTables (λ t. ListsUpTo choices.Waiting reader t 0 (length t.requests) (length t.requests) (holds list)) s1 s2 = c.in_ok-requests.ensures.value clean first.kept.inside in
    let some : found ≡ Some reader = search (rules, c.in-Some.is) in
    let is : is_officer reader.role ≡ false = search (rules, c.is_officer.ensures, c.if-is_officer.false) in
    let empty : proposals ≡ [] = c.new-proposals-2.ensures ∙ c.new-none.ensures.items in
    tells_person kept name found (IsDue holds person read.Waiting (Ok (answers.Waiting list proposals))) s0 s1 s2 (λ t. ListsUpTo choices.Waiting reader t 0 (length t.requests) (length t.requests) (holds list)) reader some
    (λ owner cs h e lists any. waits_other owner cs name reader e holds list proposals h is lists empty) first second
