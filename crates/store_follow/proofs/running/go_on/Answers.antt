use Rattle.std.proofs.Common.{inl, inr}
use Rattle.sqlite.specs.Held.{state}
use Rattle.store_follow.proofs.RunLemmas.{goes_first, goes_second, leaves_run}
use Rattle.store_follow.proofs.running.go_on.Goals as goal

-- by the first rules

pub returns-in-Ok-clause-ok : goal.returns-in-Ok-clause-ok
returns-in-Ok-clause-ok g c = λ clean s shows all.
    let first = c.in-Ok-First.first in
    let resumed = rw c.in-Ok-First.field-0-is at c.in-Ok-First.ensures.shown in
    c.in-Ok.ensures.ok clean s
    (goes_first g.S.Store first s c.args.calls (g.R.Read.remaining c.args.reader.now) (resumed (c.in-Ok.ensures.clean clean) s.owner s.earlier shows) all)

pub returns-in-Ok-clause-wrong : goal.returns-in-Ok-clause-wrong
returns-in-Ok-clause-wrong g c = λ clean s shows all.
    let first = c.in-Ok-First.first in
    let resumed = rw c.in-Ok-First.field-0-is at c.in-Ok-First.ensures.shown in
    c.in-Ok.ensures.wrong clean s
    (goes_first g.S.Store first s c.args.calls (g.R.Read.remaining c.args.reader.now) (resumed (c.in-Ok.ensures.clean clean) s.owner s.earlier shows) all)

pub returns-in-Ok-clause-stopped : goal.returns-in-Ok-clause-stopped
returns-in-Ok-clause-stopped g c = λ s shows all.
    let first = c.in-Ok-First.first in
    let resumed = rw c.in-Ok-First.field-0-is at c.in-Ok-First.ensures.shown in
    leaves_run (state g.S.Store c.in-Ok.run'.desk.conn) s (λ clean. c.in-Ok.ensures.stopped s
    (goes_first g.S.Store first s c.args.calls (g.R.Read.remaining c.args.reader.now) (resumed (c.in-Ok.ensures.clean clean) s.owner s.earlier shows) all) clean)

pub returns-in-Err-follow_from_first-clause-failed : goal.returns-in-Err-follow_from_first-clause-failed
returns-in-Err-follow_from_first-clause-failed g c = λ s shows all.
    let first = c.in-Ok-First.first in
    let resumed = rw c.in-Ok-First.field-0-is at c.in-Ok-First.ensures.shown in
    leaves_run (state g.S.Store c.in-Err-follow_from_first.refused.1) s (λ clean. c.in-Err-follow_from_first.ensures.failed s
    (goes_first g.S.Store first s c.args.calls (g.R.Read.remaining c.args.reader.now) (resumed (c.in-Err-follow_from_first.ensures.cleared clean) s.owner s.earlier shows) all) clean)

pub returns-in-Ok-clause-clean : goal.returns-in-Ok-clause-clean
returns-in-Ok-clause-clean g c = λ clean. (rw c.in-Ok-First.field-0-is at c.in-Ok-First.ensures.clean) (c.in-Ok.ensures.clean clean)

pub returns-in-Err-follow_from_first-clause-cleared : goal.returns-in-Err-follow_from_first-clause-cleared
returns-in-Err-follow_from_first-clause-cleared g c = λ clean. (rw c.in-Ok-First.field-0-is at c.in-Ok-First.ensures.clean) (c.in-Err-follow_from_first.ensures.cleared clean)

-- by the second

pub returns-in-Ok-follow_rest-clause-ok : goal.returns-in-Ok-follow_rest-clause-ok
returns-in-Ok-follow_rest-clause-ok g c = λ clean s shows all.
    let it = (rw c.in-Ok-Second.field-0-is at c.in-Ok-Second.ensures.shown) (c.in-Ok-follow_rest.ensures.clean clean) s.owner s.earlier shows in
    c.in-Ok-follow_rest.ensures.ok clean s (goes_second g.S.Store c.in-Ok-Second.desk s c.args.calls (g.R.Read.remaining c.args.reader.now) it.0 it.1 all)

pub returns-in-Ok-follow_rest-clause-stopped : goal.returns-in-Ok-follow_rest-clause-stopped
returns-in-Ok-follow_rest-clause-stopped g c = λ s shows all.
    leaves_run (state g.S.Store c.follow_rest.new.desk.conn) s (λ clean.
    let it = (rw c.in-Ok-Second.field-0-is at c.in-Ok-Second.ensures.shown) (c.in-Ok-follow_rest.ensures.clean clean) s.owner s.earlier shows in
    c.in-Ok-follow_rest.ensures.stopped s (goes_second g.S.Store c.in-Ok-Second.desk s c.args.calls (g.R.Read.remaining c.args.reader.now) it.0 it.1 all) clean)

pub returns-in-Ok-follow_rest-clause-clean : goal.returns-in-Ok-follow_rest-clause-clean
returns-in-Ok-follow_rest-clause-clean g c = λ clean. (rw c.in-Ok-Second.field-0-is at c.in-Ok-Second.ensures.clean) (c.in-Ok-follow_rest.ensures.clean clean)

pub returns-in-Err-follow_rest-clause-wrong : goal.returns-in-Err-follow_rest-clause-wrong
returns-in-Err-follow_rest-clause-wrong g c = λ clean s shows all n is.
    let it = (rw c.in-Ok-Second.field-0-is at c.in-Ok-Second.ensures.shown) (c.in-Err-follow_rest.ensures.clean clean) s.owner s.earlier shows in
    c.in-Err-follow_rest.ensures.wrong clean n is s (goes_second g.S.Store c.in-Ok-Second.desk s c.args.calls (g.R.Read.remaining c.args.reader.now) it.0 it.1 all)

pub returns-in-Err-follow_rest-clause-stopped : goal.returns-in-Err-follow_rest-clause-stopped
returns-in-Err-follow_rest-clause-stopped g c = λ s shows all.
    leaves_run (state g.S.Store c.follow_rest.new.desk.conn) s (λ clean.
    let it = (rw c.in-Ok-Second.field-0-is at c.in-Ok-Second.ensures.shown) (c.in-Err-follow_rest.ensures.clean clean) s.owner s.earlier shows in
    c.in-Err-follow_rest.ensures.stopped s (goes_second g.S.Store c.in-Ok-Second.desk s c.args.calls (g.R.Read.remaining c.args.reader.now) it.0 it.1 all) clean)

pub returns-in-Err-follow_rest-clause-clean : goal.returns-in-Err-follow_rest-clause-clean
returns-in-Err-follow_rest-clause-clean g c = λ clean. (rw c.in-Ok-Second.field-0-is at c.in-Ok-Second.ensures.clean) (c.in-Err-follow_rest.ensures.clean clean)

-- by none

pub returns-in-Err-clause-failed : goal.returns-in-Err-clause-failed
returns-in-Err-clause-failed g c = λ s shows all clean db may. inl (c.in-Err.ensures.left s.owner s.earlier shows clean db may)

pub returns-in-Err-clause-named : goal.returns-in-Err-clause-named
returns-in-Err-clause-named g c = inl (inr c.in-Err.ensures.named)
