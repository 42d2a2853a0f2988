-- The files of earlier lives, as an opening finds them and as a stop leaves them.
use Rattle.std.specs.Prelude.{◌≡◌, ◌≢◌, ℕ, false, length, All, List}
use Rattle.sqlite.specs.Files.{Finds, HoldsDatabase, file_state, image_of}
use Rattle.sqlite.specs.Store.{Ghosts}
use Rattle.sqlite.specs.Held.{Held, state}
use Rattle.sqlite.specs.State.{HasCleanDisk}
use Rattle.sqlite.specs.Tree.{Trees}
use Rattle.sqlite_disk.specs.declared.Disk as disk
use Rattle.sqlite_disk.specs.declared.Files.{Files}
use Rattle.sqlite_pool.specs.Stored.{is_summed}
use Rattle.sqlite_store.specs.declared.store.FileStore.{FileStore}
use Rattle.sqlite_wal.specs.Files.{outcomes}
use Rattle.sqlite_wal.specs.Reads.{AreClean}
use Rattle.sqlite_wal.specs.Recovery.{Image}
use Rattle.base.specs.declared.refusal.Refusal.{Refusal}
use Rattle.base.specs.declared.refusal.Refusal.TheVariants as refusals
use Rattle.desk_history.specs.Formed.{IsItem}
use Rattle.desk_history.specs.Lives.{Life, events_of}
use Rattle.store_desk.specs.Headline.{FindsLives, HoldsLives, LeavesLives, Seen}
use Rattle.store_desk.specs.Living.{and_refused}

-- a connection over these files finds such tables
abbrev pub FilesHold : {D : Type 0} (g : disk.Ghosts D) → Files D → List ℕ → List Life → Seen → Type 0
FilesHold g files owner lives seen =
    (conn : Held (FileStore _ g)) → (HasCleanDisk (file_state conn) → Finds files conn) → FindsLives (file_state conn) owner lives seen

-- two files with these contents are a database with such tables
abbrev pub ImageHolds : Image → List ℕ → List Life → Seen → Type 0
ImageHolds image owner lives seen = ∥ ((db : Trees) × HoldsDatabase image db × HoldsLives db owner lives seen) ∥₁

-- The files hold such tables, and whatever a stop may leave of them does.
pub record FilesOutlast {D : Type 0} (g : disk.Ghosts D) (files : Files D) (owner : List ℕ) (lives : List Life) (seen : Seen) : Type 0 where
  pub found : FilesHold g files owner lives seen
  pub left : AreClean g files.log files.db → (image : Image) → outcomes g files.log files.db image → ImageHolds image owner lives seen

-- The files after a stop: each has contents that its disk might have left before, and a further stop
-- leaves no others.
pub record IsAfterStop {D : Type 0} (g : disk.Ghosts D) (old new : Files D) : Type 0 where
  pub clean : AreClean g new.log new.db → AreClean g old.log old.db
  pub seen : outcomes g old.log old.db (image_of g new)
  pub left : (image : Image) → outcomes g new.log new.db image → outcomes g old.log old.db image

-- files after a stop hold what the stop may have left of the connection before
abbrev pub FoundAgain : {D : Type 0} (g : disk.Ghosts D) → Held (FileStore D g) → Files D → Type 0
FoundAgain g old new =
    (owner : List ℕ) (lives : List Life) (seen : Seen) → (HasCleanDisk (file_state old) → LeavesLives (file_state old) owner lives seen)
    → FilesOutlast g new owner lives seen

-- two files with these contents aren't a database whose pages end in sums (SQLite's cksumvfs)
abbrev pub HasNoSums : Image → Type 0
HasNoSums image = (db : Trees) (held : HoldsDatabase image db) → is_summed held.0 ≡ false

-- what these files hold is in those that are left, after one more life, which wasn't opened
abbrev pub HoldOn : {D : Type 0} (g : disk.Ghosts D) → Files D → Files D → Type 0
HoldOn g files left =
    AreClean g files.log files.db → HasNoSums (image_of g files) → (owner : List ℕ) (lives : List Life) (seen : Seen)
    → FilesOutlast g files owner lives seen → FilesOutlast g left owner (and_refused lives) seen

-- an opening over such tables isn't refused because the store has no desk, or one of another
-- version
abbrev pub FindsADesk : {S : Type 0} → Ghosts S → Held S → Refusal → Type 0
FindsADesk g conn refusal =
    (owner : List ℕ) (lives : List Life) (seen : Seen) → length owner ≡ 16 → All (λ e. IsItem e.item) (events_of lives)
    → FindsLives (state g conn) owner lives seen
    → (refusal ≢ refusals.NotADesk) × (refusal ≢ refusals.Version)
