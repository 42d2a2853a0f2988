use Rattle.std.proofs.Common.{◌+◌, Err, ap, sym, subst, ◌∙◌}
use Rattle.sqlite.specs.Held.{state}
use Rattle.sqlite.specs.State.{HasCleanDisk}
use Rattle.desk_history.specs.Calls.{Second}
use Rattle.store_desk.specs.Desks.{ShowsDesk}
use Rattle.store_minutes.specs.Following.{GoesOn, HasNoneBy}
use Rattle.store_minutes.specs.Starts.{IsWrongAfter}
use Rattle.store_minutes.proofs.StartLemmas.{ended, goes_on, leaves_next, second_left, second_wrong}
use Rattle.store_minutes.proofs.FollowingLemmas.{none_past}
use Rattle.store_minutes.proofs.LineLemmas.{no_refusal}
use Rattle.store_minutes.proofs.auditing.follow_rest.Goals as goal

-- the reader is at its end, or failed

pub returns-in-Ok-false-clause-ok : goal.returns-in-Ok-false-clause-ok
returns-in-Ok-false-clause-ok g c = λ clean s was.
    let at = c.loop-calls in
    ended g.S.Store at.desk s at.calls (g.R.Read.remaining at.reader) (at.invariant.1 clean s was).followed (c.in-Ok-false.ensures.end c.in-Ok-false.field-0-test)

pub returns-in-Ok-false-clause-stopped : goal.returns-in-Ok-false-clause-stopped
returns-in-Ok-false-clause-stopped g c = λ s was clean.
    let at = c.loop-calls in
    second_left g.S.Store at.desk s at.calls (g.R.Read.remaining at.reader) (at.invariant.1 clean s was).followed clean

pub returns-in-Err-clause-stopped : goal.returns-in-Err-clause-stopped
returns-in-Err-clause-stopped g c = λ s was clean.
    let at = c.loop-calls in
    second_left g.S.Store at.desk s at.calls (g.R.Read.remaining at.reader) (at.invariant.1 clean s was).followed clean

-- a line that isn't followed

pub returns-in-Err-follow-clause-wrong : goal.returns-in-Err-follow-clause-wrong
returns-in-Err-follow-clause-wrong g c = λ clean n is s was.
    let at = c.loop-calls in
    let mid : HasCleanDisk (state g.S.Store at.desk.conn) = c.in-Err-follow.ensures.clean clean in
    let kept = at.invariant.1 mid s was in
    let f = kept.followed in
    let takes = c.in-Ok-true.ensures.some c.in-Ok-true.field-0-test in
    let place = c.at_line.ensures.line n is in
    let line = c.next_line.new.line.items in
    let new = c.follow.new.desk in
    let wrong = c.in-Err-follow.ensures.wrong clean (ap Err place.0) in
    let none = wrong.0 s.owner f.history f.shows (ap (λ k. k + 1) (sym f.count)) in
    subst (λ m. IsWrongAfter (ShowsDesk g.S.Store new s.owner) s m) (sym place.1)
    (second_wrong g.S.Store at.desk new s at.calls (g.R.Read.remaining at.reader) (g.R.Read.remaining c.next_line.new.reader)
    line f takes (none_past f.history line kept.past (subst (HasNoneBy Second f.history) c.as_slice.ensures.value none)) (wrong.1 s.owner f.history f.shows))

pub returns-in-Err-follow-clause-stopped : goal.returns-in-Err-follow-clause-stopped
returns-in-Err-follow-clause-stopped g c = λ s was clean.
    let at = c.loop-calls in
    let mid : HasCleanDisk (state g.S.Store at.desk.conn) = c.in-Err-follow.ensures.clean clean in
    let f = (at.invariant.1 mid s was).followed in
    leaves_next Second s (state g.S.Store c.follow.new.desk.conn) f.history (g.R.Read.remaining at.reader) (g.R.Read.remaining c.next_line.new.reader)
    c.next_line.new.line.items c.as_slice.result.now f.shows.history f.goes_on f.given (c.in-Ok-true.ensures.some c.in-Ok-true.field-0-test) c.as_slice.ensures.value
    (c.in-Err-follow.ensures.stopped s.owner f.history f.shows (ap (λ k. k + 1) (sym f.count))) clean

pub returns-in-Err-follow-clause-named : goal.returns-in-Err-follow-clause-named
returns-in-Err-follow-clause-named g c = c.at_line.ensures.named c.in-Err-follow.ensures.named c.next_line.new.self

-- too many lines
pub returns-clause-stopped : goal.returns-clause-stopped
returns-clause-stopped g c = λ s was clean.
    let at = c.loop-calls in
    second_left g.S.Store at.desk s at.calls (g.R.Read.remaining at.reader) (at.invariant.1 clean s was).followed clean

pub loop-calls-preserved : goal.loop-calls-preserved
loop-calls-preserved g c =
    let at = c.loop-calls in (
      λ clean. at.invariant.0 (c.in-Ok.ensures.clean clean),
      λ clean s was.
          let mid : HasCleanDisk (state g.S.Store at.desk.conn) = c.in-Ok.ensures.clean clean in
          let kept = at.invariant.1 mid s was in
          let f = kept.followed in
          let takes = c.in-Ok-true.ensures.some c.in-Ok-true.field-0-test in
          let said = c.in-Ok.ensures.ok clean s.owner f.history f.shows (ap (λ k. k + 1) (sym f.count)) in
          let next = subst (GoesOn Second (ShowsDesk g.S.Store c.follow.new.desk s.owner) f.history) c.as_slice.ensures.value said in
          goes_on g.S.Store at.desk c.follow.new.desk s at.calls (g.R.Read.remaining at.reader) (g.R.Read.remaining c.next_line.new.reader)
          c.next_line.new.line.items kept takes next,
      c.in-Ok-true.ensures.steady (no_refusal c.in-Ok-true.field-0) ∙ at.invariant.2,
    )
