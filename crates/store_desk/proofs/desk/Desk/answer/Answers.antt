use Rattle.std.proofs.Common.{◌≡◌, false, rules, refl}
use Rattle.desk_history.specs.Called.{called}
use Rattle.store_schema.specs.Tables.{desk_layout}
use Rattle.store_schema.specs.rows.Histories.{rows_of}
use Rattle.store_desk.specs.declared.desk.Desk.{Desk}
use Rattle.store_desk.proofs.DeskLemmas.{goes_on, spares, stays_shown, stopped}
use Rattle.store_desk.proofs.desk.Desk.answer.Goals as goal

pub returns-in-Ok-clause-ok : goal.returns-in-Ok-clause-ok
returns-in-Ok-clause-ok g c clean owner cs was =
    let old = c.args.self.now in
    let call = called c.args.caller.now c.args.key.now c.args.command.now in
    let took = c.take-remembered in
    let new : Desk _ = record c.args.self.now { conn = c.run.new.conn; remembered = c.in-Ok.acted.remembered } in
    goes_on g.S.Store old new call took.result took.ensures.taken c.in-Ok.acted (c.in-Ok.ensures.ok clean) c.in-Ok.ensures.survives
    (λ o h shows live. c.stop_leaves_what_is_shown.ensures desk_layout (rows_of o h) shows live) c.call_is_formed.ensures refl refl refl owner cs was

pub returns-in-Err-clause-failed : goal.returns-in-Err-clause-failed
returns-in-Err-clause-failed g c clean no_store owner cs was =
    let old = c.args.self.now in
    let call = called c.args.caller.now c.args.key.now c.args.command.now in
    let took = c.take-remembered in
    let new : Desk _ = record c.args.self.now { conn = c.run.new.conn; remembered = took.new.self; needs_reopening = c.eq-self.result } in
    let usable : c.eq-self.result ≡ false = (let e = c.eq-self.ensures in search (rules, e, no_store)) in
    stays_shown g.S.Store old new call took.result took.ensures.taken (c.in-Err.ensures.unwritten no_store) usable (c.in-Err.ensures.err clean no_store) refl took.ensures.left owner cs was

pub returns-in-Ok-clause-stopped : goal.returns-in-Ok-clause-stopped
returns-in-Ok-clause-stopped g c =
    let old = c.args.self.now in
    let call = called c.args.caller.now c.args.key.now c.args.command.now in
    let took = c.take-remembered in
    let new : Desk _ = record c.args.self.now { conn = c.run.new.conn; remembered = c.in-Ok.acted.remembered } in
    stopped g.S.Store old new call took.result took.ensures.taken c.in-Ok.ensures.survives

pub returns-in-Ok-clause-spares : goal.returns-in-Ok-clause-spares
returns-in-Ok-clause-spares g c =
    let old = c.args.self.now in
    let call = called c.args.caller.now c.args.key.now c.args.command.now in
    let took = c.take-remembered in
    let new : Desk _ = record c.args.self.now { conn = c.run.new.conn; remembered = c.in-Ok.acted.remembered } in
    spares g.S.Store old new call took.result took.ensures.taken c.in-Ok.ensures.survives

pub returns-in-Err-clause-stopped : goal.returns-in-Err-clause-stopped
returns-in-Err-clause-stopped g c =
    let old = c.args.self.now in
    let call = called c.args.caller.now c.args.key.now c.args.command.now in
    let took = c.take-remembered in
    let new : Desk _ = record c.args.self.now { conn = c.run.new.conn; remembered = took.new.self; needs_reopening = c.eq-self.result } in
    stopped g.S.Store old new call took.result took.ensures.taken c.in-Err.ensures.survives

pub returns-in-Err-clause-spares : goal.returns-in-Err-clause-spares
returns-in-Err-clause-spares g c =
    let old = c.args.self.now in
    let call = called c.args.caller.now c.args.key.now c.args.command.now in
    let took = c.take-remembered in
    let new : Desk _ = record c.args.self.now { conn = c.run.new.conn; remembered = took.new.self; needs_reopening = c.eq-self.result } in
    spares g.S.Store old new call took.result took.ensures.taken c.in-Err.ensures.survives

pub returns-in-Err-clause-poisons : goal.returns-in-Err-clause-poisons
returns-in-Err-clause-poisons g c = search rules
