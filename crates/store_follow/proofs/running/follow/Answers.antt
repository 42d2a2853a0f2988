use Rattle.std.proofs.Common.{inl, inr, arith}
use Rattle.sqlite.specs.Held.{state}
use Rattle.sqlite.specs.State.{HasCleanDisk}
use Rattle.store_follow.proofs.RunLemmas.{runs_on, wrong_on}
use Rattle.store_follow.proofs.running.follow.Goals as goal

-- the desk's own lines are all there

pub returns-in-Ok-clause-ok : goal.returns-in-Ok-clause-ok
returns-in-Ok-clause-ok g c = λ clean s b.
    let mid : HasCleanDisk (state g.S.Store c.compare.new.desk.conn) = c.in-Ok.ensures.clean clean in
    runs_on g.S.Store c.in-Ok.run'.desk s c.in-Ok.run'.result
    (c.in-Ok.ensures.ok clean s (c.in-Ok-All.ensures.same mid s.owner s.earlier b.shows) (c.in-Ok-All.ensures.all mid c.in-Ok-All.calls c.in-Ok-All.field-0-is s b))

pub returns-in-Ok-clause-wrong : goal.returns-in-Ok-clause-wrong
returns-in-Ok-clause-wrong g c = λ clean s b.
    let mid : HasCleanDisk (state g.S.Store c.compare.new.desk.conn) = c.in-Ok.ensures.clean clean in
    wrong_on g.S.Store c.args.desk c.in-Ok.run'.desk s c.in-Ok.run'.result
    (c.in-Ok.ensures.wrong clean s (c.in-Ok-All.ensures.same mid s.owner s.earlier b.shows) (c.in-Ok-All.ensures.all mid c.in-Ok-All.calls c.in-Ok-All.field-0-is s b))

pub returns-in-Ok-clause-stopped : goal.returns-in-Ok-clause-stopped
returns-in-Ok-clause-stopped g c = λ s b clean.
    let mid : HasCleanDisk (state g.S.Store c.compare.new.desk.conn) = c.in-Ok.ensures.clean clean in
    c.in-Ok.ensures.stopped s (c.in-Ok-All.ensures.same mid s.owner s.earlier b.shows) (c.in-Ok-All.ensures.all mid c.in-Ok-All.calls c.in-Ok-All.field-0-is s b) clean

pub returns-in-Ok-All-clause-failed : goal.returns-in-Ok-All-clause-failed
returns-in-Ok-All-clause-failed g c = λ s b clean.
    let mid : HasCleanDisk (state g.S.Store c.compare.new.desk.conn) = c.in-Err-go_on.ensures.cleared clean in
    c.in-Err-go_on.ensures.failed s (c.in-Ok-All.ensures.same mid s.owner s.earlier b.shows) (c.in-Ok-All.ensures.all mid c.in-Ok-All.calls c.in-Ok-All.field-0-is s b) clean

pub returns-in-Ok-clause-clean : goal.returns-in-Ok-clause-clean
returns-in-Ok-clause-clean g c = λ clean. omega (arith, c.compare.ensures.spares.clean, c.in-Ok.ensures.clean clean)

pub returns-in-Ok-All-clause-cleared : goal.returns-in-Ok-All-clause-cleared
returns-in-Ok-All-clause-cleared g c = λ clean. omega (arith, c.compare.ensures.spares.clean, c.in-Err-go_on.ensures.cleared clean)

-- they aren't

pub returns-in-Ok-count_calls-clause-ok : goal.returns-in-Ok-count_calls-clause-ok
returns-in-Ok-count_calls-clause-ok g c = λ clean s b.
    let mid : HasCleanDisk (state g.S.Store c.compare.new.desk.conn) = omega (arith, c.in-Ok-count_calls.ensures.spares.clean, clean) in
    let shows = c.in-Ok-Beginning.ensures.same mid s.owner s.earlier b.shows in
    inr (record {
      shows = c.in-Ok-count_calls.ensures.same clean s.owner s.earlier shows;
      count = c.in-Ok-count_calls.ensures.exact clean s.owner s.earlier shows;
      beginning = c.in-Ok-Beginning.ensures.beginning mid c.in-Ok-Beginning.field-0-is s b;
    })

pub returns-in-Ok-count_calls-clause-stopped : goal.returns-in-Ok-count_calls-clause-stopped
returns-in-Ok-count_calls-clause-stopped g c = λ s b clean db may.
    let mid : HasCleanDisk (state g.S.Store c.compare.new.desk.conn) = omega (arith, c.in-Ok-count_calls.ensures.spares.clean, clean) in
    let shows = c.in-Ok-count_calls.ensures.same clean s.owner s.earlier (c.in-Ok-Beginning.ensures.same mid s.owner s.earlier b.shows) in
    inl (shows.left clean db may)

pub returns-in-Ok-count_calls-clause-clean : goal.returns-in-Ok-count_calls-clause-clean
returns-in-Ok-count_calls-clause-clean g c = λ clean. omega (arith, c.compare.ensures.spares.clean, c.in-Ok-count_calls.ensures.spares.clean, clean)

pub returns-clause-clean : goal.returns-clause-clean
returns-clause-clean g c = λ clean. omega (arith, c.compare.ensures.spares.clean, clean)
