use Rattle.std.proofs.Common.{◌≡◌, Some, None, Ok, Err, length, rules, arith, subst, ◌-◌, min}
use Rattle.std.specs.Prelude.{option_copied}
use Rattle.sqlite.specs.Held.{state}
use Rattle.sqlite.specs.State.{HasCleanDisk}
use Rattle.base.specs.declared.refusal.Refusal.TheVariants as refusals
use Rattle.desk_exports.specs.declared.reading.Reading.TheVariants as read
use Rattle.desk_exports.specs.declared.shown.Shown.TheVariants as answers
use Rattle.store_reads.specs.Reads.{ReadsTables}
use Rattle.store_reads.proofs.TellsLemmas.{tells_then}
use Rattle.desk_exports.specs.Readings.{GivesRequests}
use Rattle.store_shown.specs.Telling.{IsDue}
use Rattle.store_shown.specs.Choosing.{ListsUpTo}
use Rattle.store_shown.specs.declared.choice.Choice.TheVariants as choices
use Rattle.store_shown.proofs.ListingLemmas.{from_nobody, gives_from}
use Rattle.store_shown.proofs.TellsLemmas.{Knows, tells_nobody, tells_person}
use Rattle.store_shown.proofs.listing.requests_from.Goals as goal

pub returns-in_default-clause-value : goal.returns-in_default-clause-value
returns-in_default-clause-value g c clean inside =
    let person = c.args.person.now in
    let name = person.name in
    let found = c.in_ok-found.found in
    let kept = option_copied c.args.kept_person in
    let holds = g.L.RequestList.holds in
    let none : found ≡ None = search (rules, c.in_default.is) in
    tells_nobody kept name found (IsDue holds person (read.RequestsFrom c.args.number) (Err refusals.UnknownCaller))
    (state g.S.Store c.args.tx.now.conn.now) (state g.S.Store c.reader_of.new.tx.conn.now) none (λ owner cs e any. from_nobody owner cs name c.args.number (GivesRequests holds) e) (c.in_ok-found.ensures.value clean inside)

pub returns-clause-value : goal.returns-clause-value
returns-clause-value g c clean inside =
    let person = c.args.person.now in
    let name = person.name in
    let found = c.in_ok-found.found in
    let kept = option_copied c.args.kept_person in
    let reader = c.in-Some.reader in
    let n = c.in_ok-count.count in
    let list = c.in_ok-list.list in
    let holds = g.L.RequestList.holds in
    let s0 = state g.S.Store c.args.tx.now.conn.now in
    let s1 = state g.S.Store c.reader_of.new.tx.conn.now in
    let s2 = state g.S.Store c.count.new.tx.conn.now in
    let s3 = state g.S.Store c.list_after.new.tx.conn.now in
    let c2 : HasCleanDisk s2 = omega (arith, c.in_ok-list.ensures.survives.clean, clean) in
    let c1 : HasCleanDisk s1 = omega (arith, c.in_ok-count.ensures.survives.clean, c2) in
    let first : ReadsTables (Knows kept name found) s0 s1 = c.in_ok-found.ensures.value c1 inside in
    let second : ReadsTables (λ t. n ≡ length t.requests) s1 s2 = c.in_ok-count.ensures.value c2 first.kept.inside in
    let third : ReadsTables (λ t. ListsUpTo choices.Shown reader t (min (c.args.number - 1) n) n 1000 (holds list)) s2 s3 = subst (λ k. ReadsTables (λ t. ListsUpTo choices.Shown reader t k n 1000 (holds list)) s2 s3) c.passed_before-passed.ensures (c.in_ok-list.ensures.value clean second.kept.inside) in
    let some : found ≡ Some reader = search (rules, c.in-Some.is) in
    tells_person kept name found (IsDue holds person (read.RequestsFrom c.args.number) (Ok (answers.Requests list))) s0 s1 s3 (λ t. (n ≡ length t.requests) × ListsUpTo choices.Shown reader t (min (c.args.number - 1) n) n 1000 (holds list)) reader some
    (λ owner cs h e both any. gives_from owner cs name c.args.number h reader e n both.0 holds list both.1) first (tells_then s1 s2 s3 (λ t. n ≡ length t.requests) (λ t. ListsUpTo choices.Shown reader t (min (c.args.number - 1) n) n 1000 (holds list)) second third)
