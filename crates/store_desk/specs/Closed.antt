-- The two files of a closed desk.
use Rattle.std.specs.Prelude.{ℕ, List}
use Rattle.sqlite.specs.Closing.{HoldsAlone}
use Rattle.sqlite.specs.Files.{Finds, file_state, image_of}
use Rattle.sqlite.specs.Held.{Held}
use Rattle.sqlite.specs.Tree.{Trees}
use Rattle.sqlite_disk.specs.declared.Disk.{Ghosts}
use Rattle.sqlite_disk.specs.declared.Files.{Files}
use Rattle.sqlite_store.specs.declared.store.FileStore.{FileStore}
use Rattle.sqlite_wal.specs.Files.{outcomes}
use Rattle.sqlite_wal.specs.Recovery.{Image}
use Rattle.desk_history.specs.Calls.{History}
use Rattle.store_schema.specs.rows.Histories.{HoldsHistory}

-- the log and the database file hold the tables of the history, and so does the database file
-- without the log
pub record HoldsClosed (image : Image) (owner : List ℕ) (cs : History) : Type 0 where
  pub db : Trees
  pub alone : HoldsAlone image db
  pub rows : HoldsHistory db owner cs

-- they do as they read now, and as a stop leaves them
pub record AreClosed {D : Type 0} (g : Ghosts D) (files : Files D) (owner : List ℕ) (cs : History) : Type 0 where
  pub seen : HoldsClosed (image_of g files) owner cs
  pub left : (image : Image) → outcomes g files.log files.db image → HoldsClosed image owner cs

-- a connection that is opened over them finds the tables of the history
abbrev pub OpenAgain : {D : Type 0} (g : Ghosts D) → Files D → List ℕ → History → Type 0
OpenAgain {D} g files owner cs =
    (conn : Held (FileStore D g)) → Finds files conn → HoldsHistory (file_state conn).committed.trees owner cs
