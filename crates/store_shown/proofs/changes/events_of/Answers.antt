use Rattle.std.proofs.Common.{◌≡◌, ◌+◌, ◌==◌, true, false, Some, length, ap, ◌∙◌, rules, arith}
use Rattle.sqlite.specs.Held.{state}
use Rattle.sqlite.specs.State.{HasCleanDisk}
use Rattle.store_reads.specs.Reads.{AreFound, ReadsTables, listed}
use Rattle.store_reads.proofs.TellsLemmas.{tells_so, tells_then}
use Rattle.store_schema.specs.Tables as tables
use Rattle.store_schema.specs.rows.Values.{vote_values}
use Rattle.desk_exports.specs.Changes.{end_of}
use Rattle.store_shown.specs.Happening.{HappenedTo}
use Rattle.store_shown.specs.Steps.{rows_at, sees_row}
use Rattle.store_shown.proofs.WaitingLemmas.{events_are, happened_hidden, happened_shown}
use Rattle.store_shown.proofs.changes.events_of.Goals as goal

pub returns-then-not-is_shown_to-clause-value : goal.returns-then-not-is_shown_to-clause-value
returns-then-not-is_shown_to-clause-value g c clean inside =
    let reader = c.args.reader.now in
    let n = c.in-Some.number in
    let found = c.in_ok-row.field-0 in
    let row = c.in-Some-2.row in
    let some : found ≡ Some row = search (rules, c.in-Some-2.is) in
    let hidden : sees_row reader row ≡ false = search (rules, c.is_shown_to.ensures, c.if-not-is_shown_to.true) in
    tells_so (state g.S.Store c.args.tx.now.conn.now) (state g.S.Store c.request_numbered.new.tx.conn.now)
    (λ t. rows_at t n ≡ listed found) (λ t. HappenedTo reader t c.args.number 0)
    (λ t e. happened_hidden reader t c.args.number n c.in-Some.ensures.0 found row some hidden e) (c.in_ok-row.ensures.value clean inside)

pub returns-clause-value : goal.returns-clause-value
returns-clause-value g c clean inside =
    let reader = c.args.reader.now in
    let n = c.in-Some.number in
    let found = c.in_ok-row.field-0 in
    let row = c.in-Some-2.row in
    let votes = c.in_ok-votes.votes.items in
    let events = c.in_ok-events.events in
    let s0 = state g.S.Store c.args.tx.now.conn.now in
    let s1 = state g.S.Store c.request_numbered.new.tx.conn.now in
    let s2 = state g.S.Store c.votes_of.new.tx.conn.now in
    let c1 : HasCleanDisk s1 = omega (arith, c.in_ok-votes.ensures.survives.clean, clean) in
    let first : ReadsTables (λ t. rows_at t n ≡ listed found) s0 s1 = c.in_ok-row.ensures.value c1 inside in
    let some : found ≡ Some row = search (rules, c.in-Some-2.is) in
    let seen : sees_row reader row ≡ true = search (rules, c.is_shown_to.ensures, c.if-not-is_shown_to.false) in
    let read : c.deref.result.now ≡ votes = c.deref.ensures.value in
    let sum : events ≡ 1 + length votes + end_of row.state = c.in_ok-events.ensures ∙ ap (λ l. 1 + length l + end_of row.state) read in
    tells_so s0 s2 (λ t. (rows_at t n ≡ listed found) × AreFound vote_values tables.votes 2 (λ v. row.number == v.request) t.votes votes) (λ t. HappenedTo reader t c.args.number events)
    (λ t both. happened_shown reader t c.args.number n c.in-Some.ensures.0 found row some seen both.0 events (events_are t row votes events both.1.all sum))
    (tells_then s0 s1 s2 (λ t. rows_at t n ≡ listed found) (λ t. AreFound vote_values tables.votes 2 (λ v. row.number == v.request) t.votes votes) first (c.in_ok-votes.ensures.value clean first.kept.inside))
