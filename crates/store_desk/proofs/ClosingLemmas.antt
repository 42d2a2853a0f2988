-- The step from the files after a close to the history that they hold.
use Rattle.std.proofs.Common.{◌≡◌, ◌⊎◌, inr, ℕ, List, false, sym, subst, arith, IsTrue}
use Rattle.sqlite.specs.Closing.{IsCopied}
use Rattle.sqlite.specs.Files.{FailsToClose, file_state, over_files}
use Rattle.sqlite.specs.State.{HasCleanDisk}
use Rattle.sqlite.specs.Tree.{Trees}
use Rattle.sqlite.specs.declared.error.Error.{Error}
use Rattle.sqlite.proofs.Callers.{finds_again}
use Rattle.sqlite_disk.specs.Disk.{MoreFaults}
use Rattle.sqlite_disk.specs.declared.Disk.{Ghosts}
use Rattle.sqlite_disk.specs.declared.Files.{Files}
use Rattle.sqlite_store.specs.FileStore.{faults, is_shielded, recovers, view}
use Rattle.sqlite_store.specs.declared.store.FileStore.{FileStore}
use Rattle.sqlite_trees.specs.View.{IsClean, IsQuiet}
use Rattle.sqlite_trees.specs.declared.error.StoreError.TheVariants.{OutOfMemory, Io, Corrupt, Full, Broken, Unstorable}
use Rattle.sqlite_wal.specs.Reads.{AreClean}
use Rattle.base.specs.declared.refusal.Refusal.TheVariants as refusals
use Rattle.store_schema.specs.rows.Histories.{HoldsHistory, rows_of}
use Rattle.store_sql.proofs.StopLemmas.{committed_tables}
use Rattle.store_schema.specs.Tables.{desk_layout}
use Rattle.desk_history.specs.Calls.{History}
use Rattle.store_sql.specs.Faults.{fault_of, refusal_of}
use Rattle.store_desk.specs.Closed.{AreClosed, OpenAgain}
use Rattle.store_desk.specs.Desks.{ShowsDesk}
use Rattle.store_desk.specs.declared.desk.Desk.{Desk}

module _ {D : Type 0} {g : Ghosts D} (desk : Desk (FileStore D g)) where
  -- the last commit of a desk has the rows of the history that it shows
  committed_rows : HasCleanDisk (file_state desk.conn) → IsTrue (file_state desk.conn).is_open
      → (owner : List ℕ) (cs : History) → ShowsDesk over_files desk owner cs → HoldsHistory (file_state desk.conn).committed.trees owner cs
  committed_rows clean live owner cs was = committed_tables desk_layout (file_state desk.conn) (rows_of owner cs) was.shows clean live

  -- the rows that a close has copied
  pub copied_rows : (files : Files D) → IsCopied desk.conn files → (owner : List ℕ) (cs : History) → ShowsDesk over_files desk owner cs → AreClosed g files owner cs
  copied_rows files it owner cs was =
      let rows = committed_rows it.was_clean it.was_open owner cs was in
      record {
        seen = record { db = (file_state desk.conn).committed.trees; alone = it.seen; rows = rows };
        left = λ image may. record { db = (file_state desk.conn).committed.trees; alone = it.left image may; rows = rows };
      }

  -- the rows that a later open finds
  pub found_rows : (files : Files D) → (AreClean g files.log files.db → IsCopied desk.conn files)
      → (owner : List ℕ) (cs : History) → ShowsDesk over_files desk owner cs → OpenAgain g files owner cs
  found_rows files copied owner cs was conn finds =
      let it = copied finds.honest in
      subst (λ (t : Trees). HoldsHistory t owner cs) (sym (finds_again desk.conn conn files copied finds)) (committed_rows it.was_clean it.was_open owner cs was)

  -- the rows after a stop if nothing was copied, or not all
  pub rows_left : (last : FileStore D g) → IsQuiet view faults recovers is_shielded desk.conn.store last → IsClean (view last)
      → (owner : List ℕ) (cs : History) → ShowsDesk over_files desk owner cs → (db : Trees) → recovers last db → HoldsHistory db owner cs
  rows_left last quiet clean owner cs was db may = was.left (omega (arith, quiet.clean, clean)) db (quiet.outcomes db may)

  -- the store fails only where a file did, or where it was shut before
  pub fails_for : (last : FileStore D g) (e : Error) → FailsToClose desk.conn last e → refusal_of (fault_of e) ≡ refusals.Store
      → ((file_state desk.conn).is_open ≡ false) ⊎ MoreFaults (faults desk.conn.store) (faults last)
  fails_for last e (OutOfMemory, is, why, told) store = absurd (let a = subst (λ x. refusal_of (fault_of x) ≡ refusals.Store) is store in cc)
  fails_for last e (Io, is, why, told) store = inr why
  fails_for last e (Corrupt, is, why, told) store = inr why
  fails_for last e (Full, is, why, told) store = inr why
  fails_for last e (Broken, is, why, told) store = why
  fails_for last e (Unstorable, is, why, told) store = absurd why
