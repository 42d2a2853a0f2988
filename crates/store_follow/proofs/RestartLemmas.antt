-- The step from a store's files after a stop to the tables that a connection over them finds.
use Rattle.std.proofs.Common.{◌≡◌, sym, subst, ◌∙◌, arith, IsTrue, refl}
use Rattle.std.proofs.Math.Logic.{∥∥₁_map}
use Rattle.std.proofs.lemmas.Bool.{and_parts}
use Rattle.sqlite.specs.Files.{file_state, image_of}
use Rattle.sqlite.specs.Held.{AreDatabases, Held}
use Rattle.sqlite.specs.State.{HasCleanDisk}
use Rattle.sqlite.proofs.Theorems.{next_run}
use Rattle.sqlite_disk.specs.declared.Disk.{Ghosts}
use Rattle.sqlite_disk.specs.declared.Files.{Files}
use Rattle.sqlite_pool.proofs.StateLemmas.{clean_is, may_leave_is}
use Rattle.sqlite_store.specs.FileStore.{faults, files, is_shielded, recovers, view}
use Rattle.sqlite_store.specs.declared.store.FileStore.{FileStore}
use Rattle.sqlite_trees.proofs.Doubt.{no_doubt}
use Rattle.sqlite_trees.specs.View.{IsClean, IsQuiet}
use Rattle.sqlite_wal.specs.Files.{outcomes}
use Rattle.sqlite_wal.specs.Reads.{AreClean}
use Rattle.store_follow.specs.Restarting.{RunIsFoundAgain}

-- files that are clean after a stop were clean before it
pub both_clean : {D : Type 0} (g : Ghosts D) (given new : Files D) → (IsTrue (g.is_clean new.log) → IsTrue (g.is_clean given.log)) → (IsTrue (g.is_clean new.db) → IsTrue (g.is_clean given.db))
    → AreClean g new.log new.db → AreClean g given.log given.db
both_clean g given new log db clean =
    let parts = and_parts (g.is_clean new.log) (g.is_clean new.db) clean in
    let one = log parts.0 in
    let two = db parts.1 in
    rw (one, two) refl

-- a connection over files that hold what the store's may leave finds what a stop left of the
-- connection before
pub run_found_again : {D : Type 0} (g : Ghosts D) (old : Held (FileStore D g)) (it : FileStore D g) → IsQuiet view faults recovers is_shielded old.store it
    → (IsClean (view it) → IsTrue (view it).is_numbered) → (IsClean (view it) → AreDatabases (recovers it))
    → (given new : Files D) → files it ≡ (given.log, given.db) → (AreClean g new.log new.db → AreClean g given.log given.db)
    → outcomes g given.log given.db (image_of g new) → RunIsFoundAgain g old new
run_found_again g old it quiet numbered sound given new same honest may s leaves conn opened clean _ =
    let finds = opened clean in
    let sure = subst (λ p. AreClean g p.0 p.1) (sym same) (honest finds.honest) in
    let now : IsClean (view it) = no_doubt _ (clean_is it.pool ∙ sure) in
    let left = may_leave_is it.pool (image_of g new) sure (subst (λ p. outcomes g p.0 p.1 (image_of g new)) (sym same) may) in
    let before : HasCleanDisk (file_state old) = omega (arith, quiet.clean, now) in
    ∥∥₁_map (next_run it (numbered now) (sound now) (image_of g new) left (file_state conn) (record { holds = finds.holds; reads = finds.reads })) (λ trees. leaves before _ (quiet.outcomes _ trees))
