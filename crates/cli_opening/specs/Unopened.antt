-- The files of a desk of which an opening failed: what a stop leaves of them. It is said of files
-- that end their pages in no sums (SQLite's cksumvfs); the desk makes none.
use Rattle.std.specs.Prelude.{◌≡◌, ℕ, Bool, false, List, Option, Some, None}
use Rattle.sqlite.specs.Files.{HoldsDatabase, IsCleanLeft}
use Rattle.sqlite.specs.Tree.{Trees}
use Rattle.sqlite.specs.declared.file.Leftover.{Leftover}
use Rattle.sqlite.specs.declared.file.Leftover.TheVariants as left
use Rattle.sqlite_disk.specs.declared.Disk as disk
use Rattle.sqlite_disk.specs.declared.start.Start as start
use Rattle.sqlite_store.specs.FileStore.{recovers}
use Rattle.sqlite_store.specs.Unopened.{state_of}
use Rattle.sqlite_wal.specs.Files.{image_at, outcomes}
use Rattle.sqlite_wal.specs.Recovery.{Image}
use Rattle.desk_history.specs.Calls.{History}
use Rattle.desk_history.specs.Lives.{Life}
use Rattle.store_desk.specs.Headline.{HoldsLives, Seen}
use Rattle.store_desk.specs.Reopening.{HasNoSums}
use Rattle.cli_opening.specs.Opening.{HoldsDesk, HoldsLivesIn, HoldsTables}

module _ {D : Type 0} {g : disk.Ghosts D} where
  -- A stop leaves only files of which the first holds, or, where a store was opened over them, only
  -- trees of which the second holds.
  abbrev pub StopLeaves : Leftover D g → (Image → Type 0) → (Trees → Type 0) → Type 0
  StopLeaves (left.Files files) files_are trees_are = (image : Image) → outcomes g files.log files.db image → files_are image
  StopLeaves (left.Unopened files) files_are trees_are = (image : Image) → (state_of files).may_leave image → files_are image
  StopLeaves (left.Store store) files_are trees_are = (db : Trees) → recovers store db → trees_are db

module _ {D S : Type 0} (g : disk.Ghosts D) (first : start.Ghosts S) where
  -- What the store had of files whose opening failed. A stop leaves the database that they held at
  -- first, so the tables of a desk's history, and what lives may have left.
  pub record IsOfUnopened (rest : Leftover D g) : Type 0 where
    pub database : HasNoSums (image_at first) → IsCleanLeft rest → (db : Trees) → HoldsDatabase (image_at first) db
        → StopLeaves rest (λ image. HoldsDatabase image db) (λ found. found ≡ db)
    pub desk : HasNoSums (image_at first) → IsCleanLeft rest → (owner : List ℕ) (cs : History) → HoldsDesk (image_at first) owner cs
        → StopLeaves rest (λ image. HoldsDesk image owner cs) (λ found. HoldsTables found owner cs)
    pub lives : HasNoSums (image_at first) → IsCleanLeft rest → (owner : List ℕ) (lives : List Life) (seen : Seen) → HoldsLivesIn (image_at first) owner lives seen
        → StopLeaves rest (λ image. HoldsLivesIn image owner lives seen) (λ found. ∥ HoldsLives found owner lives seen ∥₁)

  -- own: no connection came about: no file was opened, or this is left of those that were
  abbrev pub IsUnconnected : Bool → Option (Leftover D g) → Type 0
  IsUnconnected was_opened None = was_opened ≡ false
  IsUnconnected was_opened (Some rest) = IsOfUnopened rest
