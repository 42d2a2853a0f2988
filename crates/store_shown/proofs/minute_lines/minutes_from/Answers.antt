use Rattle.std.proofs.Common.{◌≡◌, ◌-◌, ◌∙◌, Err, Ok, ap, arith, min, subst, refl}
use Rattle.std.specs.Prelude.{option_copied}
use Rattle.sqlite.specs.Held.{state}
use Rattle.sqlite.specs.State.{HasCleanDisk}
use Rattle.desk_exports.specs.MinutesShown as exports
use Rattle.desk_exports.specs.declared.reading.Reading.TheVariants as read
use Rattle.desk_exports.specs.declared.shown.Shown.TheVariants as answers
use Rattle.desk_exports.specs.Readings.{GivesMinutes, may_refuse}
use Rattle.store_shown.specs.Telling.{IsDue}
use Rattle.desk_history.specs.Limits.{most_calls}
use Rattle.store_reads.specs.Reads.{ReadsTables}
use Rattle.store_shown.specs.Lines.{HasLines}
use Rattle.store_shown.proofs.MinuteLemmas.{are_minutes}
use Rattle.store_shown.proofs.OfficerLemmas.{gives_all, gives_refusal, tells_officer, tells_refusal, turned_away}
use Rattle.store_shown.proofs.minute_lines.minutes_from.Goals as goal

pub returns-in-Err-clause-value : goal.returns-in-Err-clause-value
returns-in-Err-clause-value g c clean inside =
    let holds = g.L.RequestList.holds in
    let person = c.args.person.now in
    let name = person.name in
    let number = c.args.number in
    let refusal = c.in-Err.refusal in
    tells_refusal (option_copied c.args.kept_person) name c.in_ok-officer.officer (state g.S.Store c.args.tx.now.conn.now) (state g.S.Store c.officer_of.new.tx.conn.now)
    (IsDue holds person (read.Minutes number) (Err refusal)) refusal c.in-Err.is
    (λ cs is any. gives_refusal cs name (exports.minutes_from cs number) (GivesMinutes holds) refusal is) (c.in_ok-officer.ensures.value clean inside)

pub returns-clause-value : goal.returns-clause-value
returns-clause-value g c clean inside =
    let holds = g.L.RequestList.holds in
    let person = c.args.person.now in
    let name = person.name in
    let number = c.args.number in
    let text = c.in_ok-text.text in
    let lines = c.new-lines.result in
    let s1 = state g.S.Store c.officer_of.new.tx.conn.now in
    let s2 = state g.S.Store c.lines_after.new.tx.conn.now in
    let c1 : HasCleanDisk s1 = omega (arith, c.in_ok-text.ensures.survives.clean, clean) in
    tells_officer (option_copied c.args.kept_person) name c.in_ok-officer.officer (state g.S.Store c.args.tx.now.conn.now) s1
    (IsDue holds person (read.Minutes number) (Ok (answers.Minutes lines))) s2
    (λ t. HasLines t (min (number - 1) most_calls) text.items) c.in_default.is
    (λ owner cs h is has any. gives_all cs name (exports.minutes_from cs number) (GivesMinutes holds) is (answers.Minutes lines)
    (ap answers.Minutes (c.new-lines.ensures ∙ are_minutes owner cs h number text.items has)))
    (c.in_ok-officer.ensures.value c1 inside)
    (λ inside. subst (λ n. ReadsTables (λ t. HasLines t n text.items) s1 s2) c.calls_before.ensures (c.in_ok-text.ensures.value clean inside))

pub returns-in-Err-clause-named : goal.returns-in-Err-clause-named
returns-in-Err-clause-named g c = turned_away (may_refuse (read.Minutes c.args.number)) refl refl c.in-Err.refusal (rw c.in-Err.is at c.in_ok-officer.ensures.named)
