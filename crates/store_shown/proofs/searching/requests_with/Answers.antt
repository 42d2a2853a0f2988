use Rattle.std.proofs.Common.{◌≡◌, Some, None, Ok, Err, length, rules, subst, arith}
use Rattle.std.specs.Prelude.{option_copied}
use Rattle.sqlite.specs.Held.{state}
use Rattle.sqlite.specs.State.{HasCleanDisk}
use Rattle.base.specs.declared.refusal.Refusal.TheVariants as refusals
use Rattle.desk_exports.specs.declared.reading.Reading.TheVariants as read
use Rattle.desk_exports.specs.declared.shown.Shown.TheVariants as answers
use Rattle.desk_exports.specs.Readings.{GivesRequests}
use Rattle.store_shown.specs.Telling.{IsDue}
use Rattle.store_reads.specs.Reads.{ReadsTables}
use Rattle.store_reads.proofs.TellsLemmas.{tells_then}
use Rattle.store_shown.specs.Searching.{FindsUpTo, MarksAll}
use Rattle.store_shown.specs.declared.choice.Choice.TheVariants as choices
use Rattle.store_shown.proofs.SearchLemmas.{gives_with, with_nobody}
use Rattle.store_shown.proofs.TellsLemmas.{Knows, tells_nobody, tells_person}
use Rattle.store_shown.proofs.searching.requests_with.Goals as goal

pub returns-in_default-clause-value : goal.returns-in_default-clause-value
returns-in_default-clause-value g c clean inside =
    let person = c.args.person.now in
    let name = person.name in
    let d = c.args.digest.now in
    let found = c.in_ok-found.found in
    let kept = option_copied c.args.kept_person in
    let holds = g.L.RequestList.holds in
    let none : found ≡ None = search (rules, c.in_default.is) in
    tells_nobody kept name found (IsDue holds person (read.RequestsWith d) (Err refusals.UnknownCaller))
    (state g.S.Store c.args.tx.now.conn.now) (state g.S.Store c.reader_of.new.tx.conn.now) none (λ owner cs e any. with_nobody owner cs name d (GivesRequests holds) e) (c.in_ok-found.ensures.value clean inside)

pub returns-clause-value : goal.returns-clause-value
returns-clause-value g c clean inside =
    let person = c.args.person.now in
    let name = person.name in
    let d = c.args.digest.now in
    let found = c.in_ok-found.found in
    let kept = option_copied c.args.kept_person in
    let reader = c.in-Some.reader in
    let n = c.in_ok-count.count in
    let marks = c.in_ok-marks.marks.items in
    let list = c.in_ok-list.list in
    let holds = g.L.RequestList.holds in
    let s0 = state g.S.Store c.args.tx.now.conn.now in
    let s1 = state g.S.Store c.reader_of.new.tx.conn.now in
    let s2 = state g.S.Store c.count.new.tx.conn.now in
    let s3 = state g.S.Store c.marks_for.new.tx.conn.now in
    let s4 = state g.S.Store c.list_marked.new.tx.conn.now in
    let c3 : HasCleanDisk s3 = omega (arith, c.in_ok-list.ensures.survives.clean, clean) in
    let c2 : HasCleanDisk s2 = omega (arith, c.in_ok-marks.ensures.survives.clean, c3) in
    let c1 : HasCleanDisk s1 = omega (arith, c.in_ok-count.ensures.survives.clean, c2) in
    let one : ReadsTables (Knows kept name found) s0 s1 = c.in_ok-found.ensures.value c1 inside in
    let two : ReadsTables (λ t. n ≡ length t.requests) s1 s2 = c.in_ok-count.ensures.value c2 one.kept.inside in
    let three : ReadsTables (λ t. MarksAll d marks t) s2 s3 = c.in_ok-marks.ensures.value c3 two.kept.inside in
    let four : ReadsTables (λ t. FindsUpTo (choices.With d) reader t marks n 1000 (holds list)) s3 s4 =
    subst (λ flags. ReadsTables (λ t. FindsUpTo (choices.With d) reader t flags n 1000 (holds list)) s3 s4) c.as_slice-flags.ensures.value (c.in_ok-list.ensures.value clean three.kept.inside) in
    let some : found ≡ Some reader = search (rules, c.in-Some.is) in
    tells_person kept name found (IsDue holds person (read.RequestsWith d) (Ok (answers.Requests list))) s0 s1 s4
    (λ t. (n ≡ length t.requests) × (MarksAll d marks t × FindsUpTo (choices.With d) reader t marks n 1000 (holds list))) reader some
    (λ owner cs h e all any. gives_with owner cs name d h reader e n all.0 marks all.1.0 holds list all.1.1) one
    (tells_then s1 s2 s4 (λ t. n ≡ length t.requests) (λ t. MarksAll d marks t × FindsUpTo (choices.With d) reader t marks n 1000 (holds list)) two
    (tells_then s2 s3 s4 (λ t. MarksAll d marks t) (λ t. FindsUpTo (choices.With d) reader t marks n 1000 (holds list)) three four))
