use Rattle.std.proofs.Common.{Err, ap, sym, subst}
use Rattle.sqlite.specs.Held.{state}
use Rattle.sqlite.specs.State.{HasCleanDisk}
use Rattle.store_desk.specs.Desks.{ShowsDesk}
use Rattle.store_minutes.specs.Following.{EndsBefore, GoesOnWith}
use Rattle.store_audit.specs.Rules.{HasTurned}
use Rattle.store_minutes.specs.Starts.{IsWrongAfter}
use Rattle.store_minutes.proofs.StartLemmas.{ended, second_left}
use Rattle.store_audit.proofs.AuditLemmas.{turn_left, turn_wrong, turns}
use Rattle.store_audit.proofs.auditing.follow_on.Goals as goal

-- all lines were by the first rules

pub returns-in-All-clause-ok : goal.returns-in-All-clause-ok
returns-in-All-clause-ok g c = λ clean s was.
    let all = subst (λ x. HasTurned g.S.Store c.args.desk.now s x (g.R.Read.remaining c.args.reader.now) c.args.line.now.items) c.in-All.is was in
    ended g.S.Store c.args.desk.now s c.in-All.calls all.0 all.1 all.2

pub returns-in-All-clause-stopped : goal.returns-in-All-clause-stopped
returns-in-All-clause-stopped g c = λ s was.
    let all = subst (λ x. HasTurned g.S.Store c.args.desk.now s x (g.R.Read.remaining c.args.reader.now) c.args.line.now.items) c.in-All.is was in
    second_left g.S.Store c.args.desk.now s c.in-All.calls all.0 all.1

-- the line that only the second rules give isn't followed

pub returns-in-Err-clause-wrong : goal.returns-in-Err-clause-wrong
returns-in-Err-clause-wrong g c = λ clean n is s was.
    let desk = c.args.desk.now in
    let new = c.follow.new.desk in
    let now = g.R.Read.remaining c.args.reader.now in
    let line = c.args.line.now.items in
    let number = c.in-Before.number in
    let place = c.at_line.ensures.line n is in
    let before = subst (λ x. HasTurned g.S.Store desk s x now line) c.in-Before.is was in
    let wrong = c.in-Err.ensures.wrong clean (ap Err place.0) in
    let ends = subst (EndsBefore g.S.Store desk number) c.as_slice.ensures.value wrong.0 in
    subst (λ m. IsWrongAfter (ShowsDesk g.S.Store new s.owner) s m) (sym place.1) (turn_wrong g.S.Store desk new s number now line before ends wrong.1)

pub returns-in-Err-clause-stopped : goal.returns-in-Err-clause-stopped
returns-in-Err-clause-stopped g c = λ s was.
    let desk = c.args.desk.now in
    let now = g.R.Read.remaining c.args.reader.now in
    let line = c.args.line.now.items in
    let before = subst (λ x. HasTurned g.S.Store desk s x now line) c.in-Before.is was in
    turn_left g.S.Store desk (state g.S.Store c.follow.new.desk.conn) s c.in-Before.number now line c.as_slice.result.now before c.as_slice.ensures.value c.in-Err.ensures.stopped

pub returns-in-Err-clause-named : goal.returns-in-Err-clause-named
returns-in-Err-clause-named g c = c.at_line.ensures.named c.in-Err.ensures.named c.args.watch.now

-- it is, and then the others

pub returns-in-Ok-follow_rest-clause-ok : goal.returns-in-Ok-follow_rest-clause-ok
returns-in-Ok-follow_rest-clause-ok g c = λ clean s was.
    let desk = c.args.desk.now in
    let now = g.R.Read.remaining c.args.reader.now in
    let line = c.args.line.now.items in
    let number = c.in-Before.number in
    let mid : HasCleanDisk (state g.S.Store c.follow.new.desk.conn) = c.in-Ok-follow_rest.ensures.clean clean in
    let before = subst (λ x. HasTurned g.S.Store desk s x now line) c.in-Before.is was in
    let goes = subst (GoesOnWith g.S.Store desk c.follow.new.desk number) c.as_slice.ensures.value (c.in-Ok.ensures.ok mid) in
    c.in-Ok-follow_rest.ensures.ok clean s (turns g.S.Store desk c.follow.new.desk s number now line before goes)

pub returns-in-Ok-follow_rest-clause-stopped : goal.returns-in-Ok-follow_rest-clause-stopped
returns-in-Ok-follow_rest-clause-stopped g c = λ s was clean.
    let desk = c.args.desk.now in
    let now = g.R.Read.remaining c.args.reader.now in
    let line = c.args.line.now.items in
    let number = c.in-Before.number in
    let mid : HasCleanDisk (state g.S.Store c.follow.new.desk.conn) = c.in-Ok-follow_rest.ensures.clean clean in
    let before = subst (λ x. HasTurned g.S.Store desk s x now line) c.in-Before.is was in
    let goes = subst (GoesOnWith g.S.Store desk c.follow.new.desk number) c.as_slice.ensures.value (c.in-Ok.ensures.ok mid) in
    c.in-Ok-follow_rest.ensures.stopped s (turns g.S.Store desk c.follow.new.desk s number now line before goes) clean

pub returns-in-Ok-follow_rest-clause-clean : goal.returns-in-Ok-follow_rest-clause-clean
returns-in-Ok-follow_rest-clause-clean g c = λ clean. c.in-Ok.ensures.clean (c.in-Ok-follow_rest.ensures.clean clean)

pub returns-in-Err-follow_rest-clause-wrong : goal.returns-in-Err-follow_rest-clause-wrong
returns-in-Err-follow_rest-clause-wrong g c = λ clean n is s was.
    let desk = c.args.desk.now in
    let now = g.R.Read.remaining c.args.reader.now in
    let line = c.args.line.now.items in
    let number = c.in-Before.number in
    let mid : HasCleanDisk (state g.S.Store c.follow.new.desk.conn) = c.in-Err-follow_rest.ensures.clean clean in
    let before = subst (λ x. HasTurned g.S.Store desk s x now line) c.in-Before.is was in
    let goes = subst (GoesOnWith g.S.Store desk c.follow.new.desk number) c.as_slice.ensures.value (c.in-Ok.ensures.ok mid) in
    c.in-Err-follow_rest.ensures.wrong clean n is s (turns g.S.Store desk c.follow.new.desk s number now line before goes)

pub returns-in-Err-follow_rest-clause-stopped : goal.returns-in-Err-follow_rest-clause-stopped
returns-in-Err-follow_rest-clause-stopped g c = λ s was clean.
    let desk = c.args.desk.now in
    let now = g.R.Read.remaining c.args.reader.now in
    let line = c.args.line.now.items in
    let number = c.in-Before.number in
    let mid : HasCleanDisk (state g.S.Store c.follow.new.desk.conn) = c.in-Err-follow_rest.ensures.clean clean in
    let before = subst (λ x. HasTurned g.S.Store desk s x now line) c.in-Before.is was in
    let goes = subst (GoesOnWith g.S.Store desk c.follow.new.desk number) c.as_slice.ensures.value (c.in-Ok.ensures.ok mid) in
    c.in-Err-follow_rest.ensures.stopped s (turns g.S.Store desk c.follow.new.desk s number now line before goes) clean

pub returns-in-Err-follow_rest-clause-clean : goal.returns-in-Err-follow_rest-clause-clean
returns-in-Err-follow_rest-clause-clean g c = λ clean. c.in-Ok.ensures.clean (c.in-Err-follow_rest.ensures.clean clean)
