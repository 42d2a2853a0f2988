use Rattle.std.proofs.Common.{◌≡◌, ◌==◌, Some, None, Ok, Err, filter, rules, arith}
use Rattle.std.specs.Prelude.{option_copied}
use Rattle.sqlite.specs.Held.{state}
use Rattle.sqlite.specs.State.{HasCleanDisk}
use Rattle.base.specs.declared.refusal.Refusal.TheVariants as refusals
use Rattle.desk_exports.specs.declared.reading.Reading.TheVariants as read
use Rattle.desk_exports.specs.declared.shown.Shown.TheVariants as answers
use Rattle.store_shown.specs.Telling.{IsDue}
use Rattle.store_reads.specs.Reads.{ReadsTables, listed}
use Rattle.store_shown.specs.Steps.{IsShownIn, visible_row}
use Rattle.store_shown.proofs.GivingLemmas.{gives_nobody, gives_none, gives_shown}
use Rattle.store_reads.proofs.TellsLemmas.{tells_then}
use Rattle.store_shown.proofs.TellsLemmas.{Knows, tells_nobody, tells_person}
use Rattle.store_shown.proofs.showing.request.Goals as goal

pub returns-in_default-clause-value : goal.returns-in_default-clause-value
returns-in_default-clause-value g c clean inside =
    let person = c.args.person.now in
    let name = person.name in
    let k = c.args.number in
    let found = c.in_ok-found.found in
    let kept = option_copied c.args.kept_person in
    let holds = g.L.RequestList.holds in
    let none : found ≡ None = search (rules, c.in_default.is) in
    tells_nobody kept name found (IsDue holds person (read.Request k) (Err refusals.UnknownCaller))
    (state g.S.Store c.args.tx.now.conn.now) (state g.S.Store c.reader_of.new.tx.conn.now) none (λ owner cs e any. gives_nobody owner cs name k holds e) (c.in_ok-found.ensures.value clean inside)

pub returns-in_default-row_for-clause-value : goal.returns-in_default-row_for-clause-value
returns-in_default-row_for-clause-value g c clean inside =
    let person = c.args.person.now in
    let name = person.name in
    let k = c.args.number in
    let found = c.in_ok-found.found in
    let kept = option_copied c.args.kept_person in
    let holds = g.L.RequestList.holds in
    let reader = c.in-Some.reader in
    let asked = c.in_ok-asked.asked in
    let s0 = state g.S.Store c.args.tx.now.conn.now in
    let s1 = state g.S.Store c.reader_of.new.tx.conn.now in
    let s2 = state g.S.Store c.request_numbered.new.tx.conn.now in
    let c1 : HasCleanDisk s1 = omega (arith, c.in_ok-asked.ensures.survives.clean, clean) in
    let first : ReadsTables (Knows kept name found) s0 s1 = c.in_ok-found.ensures.value c1 inside in
    let second : ReadsTables (λ t. filter (λ r. k == r.number) t.requests ≡ listed asked) s1 s2 = c.in_ok-asked.ensures.value clean first.kept.inside in
    let some : found ≡ Some reader = search (rules, c.in-Some.is) in
    let none : visible_row reader asked ≡ None = search (rules, c.row_for.ensures, c.in_default-row_for.is) in
    tells_person kept name found (IsDue holds person (read.Request k) (Err refusals.NoSuchRequest)) s0 s1 s2 (λ t. filter (λ r. k == r.number) t.requests ≡ listed asked) reader some
    (λ owner cs h e found any. gives_none owner cs name k holds reader e asked found none) first second

pub returns-clause-value : goal.returns-clause-value
returns-clause-value g c clean inside =
    let person = c.args.person.now in
    let name = person.name in
    let k = c.args.number in
    let found = c.in_ok-found.found in
    let kept = option_copied c.args.kept_person in
    let holds = g.L.RequestList.holds in
    let reader = c.in-Some.reader in
    let asked = c.in_ok-asked.asked in
    let row = c.in-Some-row_for.row in
    let s = c.in_ok-shown.shown in
    let s0 = state g.S.Store c.args.tx.now.conn.now in
    let s1 = state g.S.Store c.reader_of.new.tx.conn.now in
    let s2 = state g.S.Store c.request_numbered.new.tx.conn.now in
    let s3 = state g.S.Store c.shown_of.new.tx.conn.now in
    let c2 : HasCleanDisk s2 = omega (arith, c.in_ok-shown.ensures.survives.clean, clean) in
    let c1 : HasCleanDisk s1 = omega (arith, c.in_ok-asked.ensures.survives.clean, c2) in
    let first : ReadsTables (Knows kept name found) s0 s1 = c.in_ok-found.ensures.value c1 inside in
    let second : ReadsTables (λ t. filter (λ r. k == r.number) t.requests ≡ listed asked) s1 s2 = c.in_ok-asked.ensures.value c2 first.kept.inside in
    let third : ReadsTables (λ t. IsShownIn t row s) s2 s3 = c.in_ok-shown.ensures.value clean second.kept.inside in
    let some : found ≡ Some reader = search (rules, c.in-Some.is) in
    let seen : visible_row reader asked ≡ Some row = search (rules, c.row_for.ensures, c.in-Some-row_for.is) in
    tells_person kept name found (IsDue holds person (read.Request k) (Ok (answers.Request s))) s0 s1 s3 (λ t. (filter (λ r. k == r.number) t.requests ≡ listed asked) × IsShownIn t row s) reader some
    (λ owner cs h e both any. gives_shown owner cs name k holds h reader e asked both.0 row seen s both.1) first
    (tells_then s1 s2 s3 (λ t. filter (λ r. k == r.number) t.requests ≡ listed asked) (λ t. IsShownIn t row s) second third)
