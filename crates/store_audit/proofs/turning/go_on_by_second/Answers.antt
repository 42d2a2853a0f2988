use Rattle.std.proofs.Common.{◌≡◌}
use Rattle.sqlite.specs.Held.{state}
use Rattle.sqlite.specs.State.{HasCleanDisk}
use Rattle.store_audit.proofs.AuditLemmas.{begun_left, begun_shown, handed_over}
use Rattle.store_minutes.proofs.FollowingLemmas.{still_leaves}
use Rattle.store_minutes.specs.Starts.{HoldsFollowed}
use Rattle.store_audit.proofs.turning.go_on_by_second.Goals as goal

pub returns-in-Err-clause-failed : goal.returns-in-Err-clause-failed
returns-in-Err-clause-failed g c = λ s was.
    let now = g.R.Read.remaining c.args.reader.now in
    let line = c.args.line.now.items in
    let shown = begun_shown g.S.Store c.args.first s c.args.end now line was in
    still_leaves (λ db. HoldsFollowed db s) (state g.S.Store c.args.first.conn) (state g.S.Store c.in-Err.refused.1)
    (c.in-Err.ensures.spared s.owner shown.0 shown.1) (begun_left g.S.Store c.args.first s c.args.end now line was)

pub returns-in-Ok-follow_on-clause-ok : goal.returns-in-Ok-follow_on-clause-ok
returns-in-Ok-follow_on-clause-ok g c = λ clean s was.
    let mid : HasCleanDisk (state g.S.Store c.in-Ok.desk.conn) = c.in-Ok-follow_on.ensures.clean clean in
    c.in-Ok-follow_on.ensures.ok clean s
    (handed_over g.S.Store c.args.first c.in-Ok.desk s c.args.end (g.R.Read.remaining c.args.reader.now) c.args.line.now.items (c.in-Ok.ensures.shown mid s.owner) was)

pub returns-in-Ok-follow_on-clause-stopped : goal.returns-in-Ok-follow_on-clause-stopped
returns-in-Ok-follow_on-clause-stopped g c = λ s was clean.
    let mid : HasCleanDisk (state g.S.Store c.in-Ok.desk.conn) = c.in-Ok-follow_on.ensures.clean clean in
    c.in-Ok-follow_on.ensures.stopped s
    (handed_over g.S.Store c.args.first c.in-Ok.desk s c.args.end (g.R.Read.remaining c.args.reader.now) c.args.line.now.items (c.in-Ok.ensures.shown mid s.owner) was) clean

pub returns-in-Ok-follow_on-clause-clean : goal.returns-in-Ok-follow_on-clause-clean
returns-in-Ok-follow_on-clause-clean g c = λ clean. c.in-Ok.ensures.clean (c.in-Ok-follow_on.ensures.clean clean)

pub returns-in-Err-follow_on-clause-wrong : goal.returns-in-Err-follow_on-clause-wrong
returns-in-Err-follow_on-clause-wrong g c = λ clean s was n is.
    let mid : HasCleanDisk (state g.S.Store c.in-Ok.desk.conn) = c.in-Err-follow_on.ensures.clean clean in
    c.in-Err-follow_on.ensures.wrong clean n is s
    (handed_over g.S.Store c.args.first c.in-Ok.desk s c.args.end (g.R.Read.remaining c.args.reader.now) c.args.line.now.items (c.in-Ok.ensures.shown mid s.owner) was)

pub returns-in-Err-follow_on-clause-stopped : goal.returns-in-Err-follow_on-clause-stopped
returns-in-Err-follow_on-clause-stopped g c = λ s was clean.
    let mid : HasCleanDisk (state g.S.Store c.in-Ok.desk.conn) = c.in-Err-follow_on.ensures.clean clean in
    c.in-Err-follow_on.ensures.stopped s
    (handed_over g.S.Store c.args.first c.in-Ok.desk s c.args.end (g.R.Read.remaining c.args.reader.now) c.args.line.now.items (c.in-Ok.ensures.shown mid s.owner) was) clean

pub returns-in-Err-follow_on-clause-clean : goal.returns-in-Err-follow_on-clause-clean
returns-in-Err-follow_on-clause-clean g c = λ clean. c.in-Ok.ensures.clean (c.in-Err-follow_on.ensures.clean clean)
