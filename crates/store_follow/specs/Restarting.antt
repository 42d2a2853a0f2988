-- The files of a run, as an opening after a stop finds them.
use Rattle.sqlite.specs.Files.{Finds, file_state}
use Rattle.sqlite.specs.Held.{Held}
use Rattle.sqlite.specs.State.{HasCleanDisk}
use Rattle.sqlite_disk.specs.declared.Disk as disk
use Rattle.sqlite_disk.specs.declared.Files.{Files}
use Rattle.sqlite_store.specs.declared.store.FileStore.{FileStore}
use Rattle.store_minutes.specs.Starts.{Start}
use Rattle.store_follow.specs.Living.{FindsRun}
use Rattle.store_follow.specs.Runs.{LeavesRun}

-- a connection over these files finds what a stop after a run left of the connection before
abbrev pub RunIsFoundAgain : {D : Type 0} (g : disk.Ghosts D) → Held (FileStore D g) → Files D → Type 0
RunIsFoundAgain g old new =
    (s : Start) → LeavesRun (file_state old) s
    → (conn : Held (FileStore _ g)) → (HasCleanDisk (file_state conn) → Finds new conn) → FindsRun (file_state conn) s
