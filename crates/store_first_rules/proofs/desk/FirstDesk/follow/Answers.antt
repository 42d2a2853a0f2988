use Rattle.std.proofs.Common.{◌∷◌, refl}
use Rattle.desk_history.specs.Calls.{First, under}
use Rattle.store_schema.specs.Tables.{desk_layout}
use Rattle.store_schema.specs.rows.Histories.{rows_of}
use Rattle.store_first_rules.proofs.ActingLemmas.{joined_history}
use Rattle.store_first_rules.proofs.DeskLemmas.{keeps, past_of, stopped}
use Rattle.store_first_rules.proofs.desk.FirstDesk.follow.Goals as goal

pub returns-in-Ok-Some-clause-joined : goal.returns-in-Ok-Some-clause-joined
returns-in-Ok-Some-clause-joined g c clean _ owner cs was =
    let call = c.args.call.now in
    let ran = (rw c.in-Ok-Some.field-0-is at c.in-Ok-Some.ensures.ok) clean in
    let p = past_of g.S.Store c.args.self.now owner cs was in
    let it = ran.answered p was.shows in
    let shows = ran.shown p was.shows in (
      it.accepted,
      record {
        history = joined_history cs call c.args.told.now was.history was.first c.call_is_formed.ensures it.accepted;
        first = was.first;
        shows = shows;
        remembered = it.right;
        known = it.known;
        left = c.stop_leaves_what_is_shown.ensures desk_layout (rows_of owner (under First call ∷ cs)) shows ran.is_open;
      },
    )

pub returns-in-Ok-Some-clause-stopped : goal.returns-in-Ok-Some-clause-stopped
returns-in-Ok-Some-clause-stopped g c =
    stopped g.S.Store c.args.self.now (record c.args.self.now { conn = c.run.new.conn; remembered = c.in-Ok-Some.later }) c.args.call.now c.args.told.now c.in-Ok-Some.ensures.survives

pub returns-in-Ok-None-clause-other : goal.returns-in-Ok-None-clause-other
returns-in-Ok-None-clause-other g c clean _ =
    let ran = (rw c.in-Ok-None.field-0-is at c.in-Ok-None.ensures.ok) clean in
    let same = (rw c.in-Ok-None.field-0-is at c.in-Ok-None.ensures.same) clean in
    let idle = rw c.in-Ok-None.field-0-is at c.in-Ok-None.ensures.idle in (
      λ owner cs was. ran (past_of g.S.Store c.args.self.now owner cs was) was.shows,
      keeps g.S.Store c.args.self.now (record c.args.self.now { conn = c.run.new.conn }) idle same refl,
    )

pub returns-in-Ok-None-clause-stopped : goal.returns-in-Ok-None-clause-stopped
returns-in-Ok-None-clause-stopped g c =
    stopped g.S.Store c.args.self.now (record c.args.self.now { conn = c.run.new.conn }) c.args.call.now c.args.told.now c.in-Ok-None.ensures.survives

pub returns-in-Err-clause-stopped : goal.returns-in-Err-clause-stopped
returns-in-Err-clause-stopped g c =
    stopped g.S.Store c.args.self.now (record c.args.self.now { conn = c.run.new.conn }) c.args.call.now c.args.told.now c.in-Err.ensures.survives
