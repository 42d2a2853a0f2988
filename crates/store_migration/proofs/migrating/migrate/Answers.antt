use Rattle.std.proofs.Common.{inl, inr, arith}
use Rattle.sqlite.specs.Held.{state}
use Rattle.sqlite.specs.State.{HasCleanDisk}
use Rattle.store_migration.proofs.NameLemmas.{not_taken}
use Rattle.store_migration.proofs.migrating.migrate.Goals as goal

pub returns-in-Err-clause-known : goal.returns-in-Err-clause-known
returns-in-Err-clause-known g c clean owner cs shows =
    let old = state g.S.Store c.args.conn.now in
    let before : HasCleanDisk old = omega (arith, c.in-Err.ensures.survives.clean, clean) in
    elim c.in-Err.ensures.named [
      | inl none ↦ (let taken = c.in-Err.ensures.taken clean none in absurd (not_taken old before taken.0 taken.1 owner cs shows))
      | inr failed ↦ failed
    ]
