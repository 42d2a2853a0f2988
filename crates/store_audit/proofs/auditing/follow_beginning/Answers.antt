use Rattle.std.proofs.Common.{◌+◌, Err, ap, refl, sym, subst, ◌∙◌}
use Rattle.sqlite.specs.Held.{state}
use Rattle.sqlite.specs.State.{HasCleanDisk}
use Rattle.desk_history.specs.Calls.{First}
use Rattle.desk_minutes.specs.Follows.{HasNoNext}
use Rattle.store_first_rules.specs.Desks.{ShowsFirstDesk}
use Rattle.store_minutes.specs.Following.{GoesOn}
use Rattle.store_audit.specs.Following.{TellsSecond}
use Rattle.store_audit.specs.Rules.{HasFollowedFirst}
use Rattle.store_minutes.specs.Starts.{IsWrongAfter, LeavesFollowed}
use Rattle.store_audit.proofs.AuditLemmas.{first_goes_on, first_left, first_wrong}
use Rattle.store_minutes.proofs.StartLemmas.{leaves_next}
use Rattle.store_minutes.proofs.LineLemmas.{no_refusal}
use Rattle.store_audit.proofs.auditing.follow_beginning.Goals as goal

-- the reader is at its end, or failed

pub returns-in-Ok-false-clause-ok : goal.returns-in-Ok-false-clause-ok
returns-in-Ok-false-clause-ok g c = λ clean s was.
    let at = c.loop-calls in
    (g.R.Read.remaining at.reader, at.invariant.1 clean s was, c.in-Ok-false.ensures.end c.in-Ok-false.field-0-test)

pub returns-in-Ok-false-clause-stopped : goal.returns-in-Ok-false-clause-stopped
returns-in-Ok-false-clause-stopped g c = λ s was clean.
    let at = c.loop-calls in
    first_left g.S.Store at.desk s at.calls (g.R.Read.remaining at.reader) (at.invariant.1 clean s was) clean

pub returns-in-Err-clause-stopped : goal.returns-in-Err-clause-stopped
returns-in-Err-clause-stopped g c = λ s was clean.
    let at = c.loop-calls in
    first_left g.S.Store at.desk s at.calls (g.R.Read.remaining at.reader) (at.invariant.1 clean s was) clean

-- a line that only the second rules give

pub returns-in-Ok-Second-clause-ok : goal.returns-in-Ok-Second-clause-ok
returns-in-Ok-Second-clause-ok g c = λ clean s was.
    let at = c.loop-calls in
    let mid : HasCleanDisk (state g.S.Store at.desk.conn) = c.in-Ok-Second.ensures.clean clean in
    let did = c.in-Ok-Second.ensures.second c.in-Ok-Second.field-0-is in (
      at.calls,
      g.R.Read.remaining at.reader,
      subst (λ d. HasFollowedFirst g.S.Store d s at.calls (g.R.Read.remaining at.reader)) (sym did.0) (at.invariant.1 mid s was),
      record {
        is_next = refl;
        takes = c.in-Ok-true.ensures.some c.in-Ok-true.field-0-test;
        tells = subst (TellsSecond (at.calls + 1)) c.as_slice.ensures.value did.1;
      },
    )

pub returns-in-Ok-Second-clause-stopped : goal.returns-in-Ok-Second-clause-stopped
returns-in-Ok-Second-clause-stopped g c = λ s was.
    let at = c.loop-calls in
    let did = c.in-Ok-Second.ensures.second c.in-Ok-Second.field-0-is in
    subst (λ d. LeavesFollowed (state g.S.Store d.conn) s) (sym did.0)
    (λ clean. first_left g.S.Store at.desk s at.calls (g.R.Read.remaining at.reader) (at.invariant.1 clean s was) clean)

-- a line that isn't followed

pub returns-in-Err-follow_first-clause-wrong : goal.returns-in-Err-follow_first-clause-wrong
returns-in-Err-follow_first-clause-wrong g c = λ clean n is s was.
    let at = c.loop-calls in
    let mid : HasCleanDisk (state g.S.Store at.desk.conn) = c.in-Err-follow_first.ensures.clean clean in
    let f = at.invariant.1 mid s was in
    let takes = c.in-Ok-true.ensures.some c.in-Ok-true.field-0-test in
    let place = c.at_line.ensures.line n is in
    let new = c.follow_first.new.desk in
    let wrong = c.in-Err-follow_first.ensures.wrong clean (ap Err place.0) in
    let none = wrong.0 s.owner f.history f.shows (ap (λ k. k + 1) (sym f.count)) in
    subst (λ m. IsWrongAfter (ShowsFirstDesk g.S.Store new s.owner) s m) (sym place.1)
    (first_wrong g.S.Store at.desk new s at.calls (g.R.Read.remaining at.reader) (g.R.Read.remaining c.next_line.new.reader)
    c.next_line.new.line.items f takes (subst (HasNoNext f.history) c.as_slice.ensures.value none) (wrong.1 s.owner f.history f.shows))

pub returns-in-Err-follow_first-clause-stopped : goal.returns-in-Err-follow_first-clause-stopped
returns-in-Err-follow_first-clause-stopped g c = λ s was clean.
    let at = c.loop-calls in
    let mid : HasCleanDisk (state g.S.Store at.desk.conn) = c.in-Err-follow_first.ensures.clean clean in
    let f = at.invariant.1 mid s was in
    leaves_next First s (state g.S.Store c.follow_first.new.desk.conn) f.history (g.R.Read.remaining at.reader) (g.R.Read.remaining c.next_line.new.reader)
    c.next_line.new.line.items c.as_slice.result.now f.shows.history f.goes_on f.given (c.in-Ok-true.ensures.some c.in-Ok-true.field-0-test) c.as_slice.ensures.value
    (c.in-Err-follow_first.ensures.stopped s.owner f.history f.shows (ap (λ k. k + 1) (sym f.count))) clean

pub returns-in-Err-follow_first-clause-named : goal.returns-in-Err-follow_first-clause-named
returns-in-Err-follow_first-clause-named g c = c.at_line.ensures.named c.in-Err-follow_first.ensures.named c.next_line.new.self

-- too many lines
pub returns-clause-stopped : goal.returns-clause-stopped
returns-clause-stopped g c = λ s was clean.
    let at = c.loop-calls in
    first_left g.S.Store at.desk s at.calls (g.R.Read.remaining at.reader) (at.invariant.1 clean s was) clean

pub loop-calls-preserved : goal.loop-calls-preserved
loop-calls-preserved g c =
    let at = c.loop-calls in (
      λ clean. at.invariant.0 (c.in-Ok-Joined.ensures.clean clean),
      λ clean s was.
          let mid : HasCleanDisk (state g.S.Store at.desk.conn) = c.in-Ok-Joined.ensures.clean clean in
          let f = at.invariant.1 mid s was in
          let takes = c.in-Ok-true.ensures.some c.in-Ok-true.field-0-test in
          let next = c.in-Ok-Joined.ensures.joined clean c.in-Ok-Joined.field-0-is s.owner f.history f.shows (ap (λ k. k + 1) (sym f.count)) in
          first_goes_on g.S.Store at.desk c.follow_first.new.desk s at.calls (g.R.Read.remaining at.reader) (g.R.Read.remaining c.next_line.new.reader)
          c.next_line.new.line.items f takes (subst (GoesOn First (ShowsFirstDesk g.S.Store c.follow_first.new.desk s.owner) f.history) c.as_slice.ensures.value next),
      c.in-Ok-true.ensures.steady (no_refusal c.in-Ok-true.field-0) ∙ at.invariant.2,
    )
