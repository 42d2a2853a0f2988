use Rattle.std.proofs.Common.{[], arith}
use Rattle.sqlite.specs.Held.{state}
use Rattle.sqlite.specs.State.{HasCleanDisk}
use Rattle.store_sql.proofs.CommitLemmas.{not_run_shows, unchanged_shows}
use Rattle.store_schema.specs.declared.selecting.TheConstants.{SELECT_DESK}
use Rattle.store_migration.proofs.names.names_are_free.Goals as goal

pub returns-in-Ok-clause-kept : goal.returns-in-Ok-clause-kept
returns-in-Ok-clause-kept g c clean =
    let old = state g.S.Store c.args.conn.now in
    let before : HasCleanDisk old = omega (arith, c.in-Ok.ensures.survives.clean, clean) in
    λ schema contents shows. unchanged_shows schema contents old (state g.S.Store c.prepare.new.self) before (c.in-Ok.ensures.ok clean).1 shows

pub returns-clause-kept : goal.returns-clause-kept
returns-clause-kept g c clean =
    let old = state g.S.Store c.args.conn.now in
    let before : HasCleanDisk old = omega (arith, c.in-Err.ensures.survives.clean, clean) in
    λ schema contents shows. not_run_shows schema contents old (state g.S.Store c.prepare.new.self) SELECT_DESK.now [] c.in-Err.error before (c.in-Err.ensures.err clean []) shows
