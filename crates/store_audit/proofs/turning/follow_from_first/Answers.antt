use Rattle.std.proofs.Common.{◌≡◌, refl, sym, subst}
use Rattle.sqlite.specs.Held.{state}
use Rattle.sqlite.specs.State.{HasCleanDisk}
use Rattle.store_desk.specs.Desks.{ShowsDesk}
use Rattle.store_first_rules.specs.Desks.{ShowsFirstDesk}
use Rattle.store_audit.proofs.AuditLemmas.{same_number, shown_so, wrong_left}
use Rattle.store_minutes.proofs.FollowingLemmas.{still_leaves}
use Rattle.store_minutes.specs.Starts.{HoldsFollowed, IsWrongAfter, LeavesFollowed}
use Rattle.store_audit.proofs.turning.follow_from_first.Goals as goal

-- the lines by the first rules were followed

pub returns-in-Ok-go_on_by_second-clause-ok : goal.returns-in-Ok-go_on_by_second-clause-ok
returns-in-Ok-go_on_by_second-clause-ok g c = λ clean s was.
    c.in-Ok-go_on_by_second.ensures.ok clean s (c.in-Ok.ensures.ok (c.in-Ok-go_on_by_second.ensures.clean clean) s was)

pub returns-in-Ok-go_on_by_second-clause-wrong : goal.returns-in-Ok-go_on_by_second-clause-wrong
returns-in-Ok-go_on_by_second-clause-wrong g c = λ clean s was.
    c.in-Ok-go_on_by_second.ensures.wrong clean s (c.in-Ok.ensures.ok (c.in-Ok-go_on_by_second.ensures.clean clean) s was)

pub returns-in-Ok-go_on_by_second-clause-stopped : goal.returns-in-Ok-go_on_by_second-clause-stopped
returns-in-Ok-go_on_by_second-clause-stopped g c = λ s was clean.
    c.in-Ok-go_on_by_second.ensures.stopped s (c.in-Ok.ensures.ok (c.in-Ok-go_on_by_second.ensures.clean clean) s was) clean

pub returns-in-Err-clause-failed : goal.returns-in-Err-clause-failed
returns-in-Err-clause-failed g c = λ s was clean.
    c.in-Err.ensures.failed s (c.in-Ok.ensures.ok (c.in-Err.ensures.cleared clean) s was) clean

-- a line by the first rules is wrong

pub returns-in-Ok-turned_at-clause-ok : goal.returns-in-Ok-turned_at-clause-ok
returns-in-Ok-turned_at-clause-ok g c = λ clean s was. rw c.in-Ok-turned_at.ensures.result tt

pub returns-in-Ok-turned_at-clause-wrong : goal.returns-in-Ok-turned_at-clause-wrong
returns-in-Ok-turned_at-clause-wrong g c = λ clean s was.
    let first = c.follow_beginning.new.desk in
    let desk = c.in-Ok-turned_at.run'.desk in
    let late : HasCleanDisk (state g.S.Store first.conn) = c.in-Ok-turned_at.ensures.clean clean in
    let number = c.in-Err-Line.number in
    let w = (rw c.in-Err-Line.field-0-is at c.in-Err-Line.ensures.wrong) late number refl s was in
    rw (c.in-Ok-turned_at.ensures.result, c.in-Err-Line.field-0-is) (λ n is.
    subst (λ m. IsWrongAfter (ShowsDesk g.S.Store desk s.owner) s m) (same_number number n is)
    (shown_so (ShowsFirstDesk g.S.Store first s.owner) (ShowsDesk g.S.Store desk s.owner) s number (λ cs. c.in-Ok-turned_at.ensures.shown clean s.owner cs) w))

pub returns-in-Ok-turned_at-clause-stopped : goal.returns-in-Ok-turned_at-clause-stopped
returns-in-Ok-turned_at-clause-stopped g c = λ s was clean.
    let first = c.follow_beginning.new.desk in
    let late : HasCleanDisk (state g.S.Store first.conn) = c.in-Ok-turned_at.ensures.clean clean in
    let w = (rw c.in-Err-Line.field-0-is at c.in-Err-Line.ensures.wrong) late c.in-Err-Line.number refl s was in
    wrong_left s (state g.S.Store c.in-Ok-turned_at.run'.desk.conn) (ShowsDesk g.S.Store c.in-Ok-turned_at.run'.desk s.owner) c.in-Err-Line.number (λ cs shown. shown.left)
    (shown_so (ShowsFirstDesk g.S.Store first s.owner) (ShowsDesk g.S.Store c.in-Ok-turned_at.run'.desk s.owner) s c.in-Err-Line.number (λ cs. c.in-Ok-turned_at.ensures.shown clean s.owner cs) w) clean

pub returns-in-Err-turned_at-clause-failed : goal.returns-in-Err-turned_at-clause-failed
returns-in-Err-turned_at-clause-failed g c = λ s was clean.
    let first = c.follow_beginning.new.desk in
    let end = c.in-Err-turned_at.refused.1 in
    let late : HasCleanDisk (state g.S.Store first.conn) = c.in-Err-turned_at.ensures.cleared clean in
    let w = (rw c.in-Err-Line.field-0-is at c.in-Err-Line.ensures.wrong) late c.in-Err-Line.number refl s was in
    still_leaves (λ db. HoldsFollowed db s) (state g.S.Store first.conn) (state g.S.Store end) (c.in-Err-turned_at.ensures.spared s.owner w.history w.shows)
    (wrong_left s (state g.S.Store first.conn) (ShowsFirstDesk g.S.Store first s.owner) c.in-Err-Line.number (λ cs shown. shown.left) w) clean

-- a device failed

pub returns-in-Err-Device-clause-failed : goal.returns-in-Err-Device-clause-failed
returns-in-Err-Device-clause-failed g c = λ s was.
    subst (λ x. LeavesFollowed (state g.S.Store x) s) (sym c.release.ensures) (c.in-Err-Device.ensures.stopped s was)

-- a clean disk was clean before

pub returns-in-Ok-go_on_by_second-clause-clean : goal.returns-in-Ok-go_on_by_second-clause-clean
returns-in-Ok-go_on_by_second-clause-clean g c = λ clean. c.in-Ok.ensures.clean (c.in-Ok-go_on_by_second.ensures.clean clean)

pub returns-in-Err-clause-cleared : goal.returns-in-Err-clause-cleared
returns-in-Err-clause-cleared g c = λ clean. c.in-Ok.ensures.clean (c.in-Err.ensures.cleared clean)

pub returns-in-Ok-turned_at-clause-clean : goal.returns-in-Ok-turned_at-clause-clean
returns-in-Ok-turned_at-clause-clean g c = λ clean. c.in-Err-Line.ensures.clean (c.in-Ok-turned_at.ensures.clean clean)

pub returns-in-Err-turned_at-clause-cleared : goal.returns-in-Err-turned_at-clause-cleared
returns-in-Err-turned_at-clause-cleared g c = λ clean. c.in-Err-Line.ensures.clean (c.in-Err-turned_at.ensures.cleared clean)

pub returns-in-Err-Device-clause-cleared : goal.returns-in-Err-Device-clause-cleared
returns-in-Err-Device-clause-cleared g c =
    subst (λ x. HasCleanDisk (state g.S.Store x) → HasCleanDisk (state g.S.Store c.args.desk.conn)) (sym c.release.ensures) c.in-Err-Device.ensures.clean
