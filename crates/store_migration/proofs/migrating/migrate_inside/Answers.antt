use Rattle.std.proofs.Common.{arith}
use Rattle.sqlite.specs.Held.{state}
use Rattle.sqlite.specs.State.{HasCleanDisk}
use Rattle.store_migration.proofs.MigrationLemmas.{turned}
use Rattle.store_migration.proofs.migrating.migrate_inside.Goals as goal

pub returns-in-Ok-set_version-clause-value : goal.returns-in-Ok-set_version-clause-value
returns-in-Ok-set_version-clause-value g c clean inside =
    let old = state g.S.Store c.args.tx.now.conn.now in
    let made = state g.S.Store c.make_added.new.tx.conn.now in
    let told = state g.S.Store c.count.new.tx.conn.now in
    let noted = state g.S.Store c.put_migrated.new.tx.conn.now in
    let new = state g.S.Store c.set_version.new.tx.conn.now in
    let sets = c.in-Ok-set_version.ensures in
    let puts = c.in-Ok-put_migrated.ensures in
    let counts = c.in-Ok-count.ensures in
    let third : HasCleanDisk noted = omega (arith, sets.survives.clean, clean) in
    let second : HasCleanDisk told = omega (arith, puts.survives.clean, third) in
    let first : HasCleanDisk made = omega (arith, counts.survives.clean, second) in
    let makes = c.in-Ok.ensures.value first inside in
    let tells = counts.value second makes.inside in
    let notes = puts.value third tells.kept.inside in
    turned old made told noted new c.in-Ok-count.calls makes tells notes (sets.value clean notes.inside)
