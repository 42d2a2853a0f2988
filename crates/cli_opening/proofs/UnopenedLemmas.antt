-- What an opening that failed left of a desk's files.
use Rattle.std.proofs.Common.{◌≡◌, inl, inr, ℕ, Bool, List, Option, None, Some, subst, sym}
use Rattle.std.proofs.Math.Logic.{∥∥₁_elim, ∥∥₁_map}
use Rattle.sqlite.specs.Files.{HoldsDatabase, IsCleanLeft, LeavesFiles, image_of}
use Rattle.sqlite.specs.Held.{Held}
use Rattle.sqlite.specs.Tree.{Trees}
use Rattle.sqlite.specs.declared.file.Leftover.{Leftover}
use Rattle.sqlite.specs.declared.file.Leftover.TheVariants as leftover
use Rattle.sqlite.proofs.FileLemmas.{is_something}
use Rattle.sqlite_disk.specs.declared.Disk.{Ghosts}
use Rattle.sqlite_disk.specs.declared.Files.{Files}
use Rattle.sqlite_disk.specs.declared.start.Start as start
use Rattle.sqlite_store.specs.Unopened.{state_of}
use Rattle.sqlite_store.specs.declared.store.FileStore.{FileStore}
use Rattle.sqlite_trees.specs.Props.{Trees-set}
use Rattle.sqlite_wal.specs.Files.{image_at, outcomes}
use Rattle.sqlite_wal.specs.Recovery.{Image}
use Rattle.base.specs.declared.refusal.Refusal.{Refusal}
use Rattle.cli_output.specs.Faults.{IsFileRefusal}
use Rattle.desk_history.specs.Calls.{History}
use Rattle.desk_history.specs.Lives.{Life}
use Rattle.store_desk.specs.Headline.{HoldsLives, Seen}
use Rattle.store_desk.specs.Reopening.{HasNoSums}
use Rattle.store_desk.proofs.FilesLemmas.{still_database}
use Rattle.cli_opening.specs.Leaving.{rest_of}
use Rattle.cli_opening.specs.Opening.{HoldsDesk, HoldsLivesIn, HoldsTables}
use Rattle.cli_opening.specs.Refusing.{IsLeftRefused}
use Rattle.cli_opening.specs.Unopened.{IsOfUnopened, IsUnconnected, StopLeaves}
use Rattle.cli_opening.specs.declared.left.Rest.{Rest}
use Rattle.cli_opening.specs.declared.left.Rest.TheVariants.{Broken, Closed, Nothing, Unclosed, Unopened}

module _ {D S : Type 0} (g : Ghosts D) (first : start.Ghosts S) where
  keeps_desk : (rest : Leftover D g) → ((db : Trees) → HoldsDatabase (image_at first) db → StopLeaves rest (λ image. HoldsDatabase image db) (λ found. found ≡ db))
      → (owner : List ℕ) (cs : History) → HoldsDesk (image_at first) owner cs → StopLeaves rest (λ image. HoldsDesk image owner cs) (λ found. HoldsTables found owner cs)
  keeps_desk (leftover.Files it) kept owner cs held = λ image may.
      record { db = held.db; database = ∥∥₁_map held.database (λ d. kept held.db d image may); tables = held.tables }
  keeps_desk (leftover.Unopened it) kept owner cs held = λ image may.
      record { db = held.db; database = ∥∥₁_map held.database (λ d. kept held.db d image may); tables = held.tables }
  keeps_desk (leftover.Store it) kept owner cs held = λ found may.
      let same : found ≡ held.db = ∥∥₁_elim held.database (Trees-set _ _) (λ d. kept held.db d found may) in
      subst (λ (t : Trees). HoldsTables t owner cs) (sym same) held.tables

  keeps_lives : (rest : Leftover D g) → ((db : Trees) → HoldsDatabase (image_at first) db → StopLeaves rest (λ image. HoldsDatabase image db) (λ found. found ≡ db))
      → (owner : List ℕ) (lives : List Life) (seen : Seen) → HoldsLivesIn (image_at first) owner lives seen
      → StopLeaves rest (λ image. HoldsLivesIn image owner lives seen) (λ found. ∥ HoldsLives found owner lives seen ∥₁)
  keeps_lives (leftover.Files it) kept owner lives seen held = λ image may. ∥∥₁_map held (λ at. (at.0, kept at.0 at.1 image may, at.2))
  keeps_lives (leftover.Unopened it) kept owner lives seen held = λ image may. ∥∥₁_map held (λ at. (at.0, kept at.0 at.1 image may, at.2))
  keeps_lives (leftover.Store it) kept owner lives seen held = λ found may.
      ∥∥₁_map held (λ at. subst (λ (t : Trees). HoldsLives t owner lives seen) (sym (kept at.0 at.1 found may)) at.2)

module _ {D S : Type 0} (g : Ghosts D) (first : start.Ghosts S) (files : Files D) (seen : image_of g files ≡ image_at first)
    (settled : (image : Image) → outcomes g files.log files.db image → image ≡ image_at first) where
  -- the database is still there
  keeps_database : (rest : Leftover D g) → (IsCleanLeft rest → LeavesFiles files rest) → HasNoSums (image_at first) → IsCleanLeft rest
      → (db : Trees) → HoldsDatabase (image_at first) db → StopLeaves rest (λ image. HoldsDatabase image db) (λ found. found ≡ db)
  keeps_database (leftover.Files it) unharmed none clean db held = λ image may.
      subst (λ (i : Image). HoldsDatabase i db) (sym (settled image (unharmed clean image may))) held
  keeps_database (leftover.Unopened it) unharmed none clean db held = λ image may.
      let size = (state_of it).page_size in
      let old = image_of g files in
      let there : HoldsDatabase old db = subst (λ (i : Image). HoldsDatabase i db) (sym seen) held in
      let bare : HasNoSums old = subst HasNoSums (sym seen) none in
      elim (unharmed clean) [
        | inl nothing ↦ absurd (is_something old db there nothing.0)
        | inr kept ↦ elim (kept.4 image may).same [
          | inl was ↦ subst (λ (i : Image). HoldsDatabase i db) (sym (settled image was)) held
          | inr stands ↦ still_database size old image kept.1 kept.3 stands.1 bare db there
        ]
      ]
  keeps_database (leftover.Store it) unharmed none clean db held = λ found may.
      (unharmed clean found may).1 db (subst (λ (i : Image). HoldsDatabase i db) (sym seen) held)

  -- and with it the tables of a desk, and what lives may have left
  pub of_unopened : (rest : Leftover D g) → (IsCleanLeft rest → LeavesFiles files rest) → IsOfUnopened g first rest
  of_unopened rest unharmed = record {
    database = keeps_database rest unharmed;
    desk = λ none clean owner cs held. keeps_desk g first rest (keeps_database rest unharmed none clean) owner cs held;
    lives = λ none clean owner lives seen held. keeps_lives g first rest (keeps_database rest unharmed none clean) owner lives seen held;
  }

-- where no connection came about
pub unconnected_refused : {D S : Type 0} (g : Ghosts D) (first : start.Ghosts S) (told : Held (FileStore D g) → Type 0) (refusal : Refusal)
    (was_opened : Bool) (left : Option (Leftover D g)) → IsFileRefusal refusal → IsUnconnected g first was_opened left
    → IsLeftRefused g first told refusal (rest_of was_opened left)
unconnected_refused g first told refusal was_opened None named never = (named, never)
unconnected_refused g first told refusal was_opened (Some left) named of = (named, of)

-- what holds of no connection holds whatever is to hold of one
pub still_refused : {D S : Type 0} (g : Ghosts D) (first : start.Ghosts S) (told : Held (FileStore D g) → Type 0) (refusal : Refusal) (rest : Rest D g)
    → IsLeftRefused g first (λ _. ⊥) refusal rest → IsLeftRefused g first told refusal rest
still_refused g first told refusal (Nothing was_opened) h = h
still_refused g first told refusal (Unopened left) h = h
still_refused g first told refusal (Unclosed last) h = absurd h
still_refused g first told refusal (Broken store) h = h
still_refused g first told refusal (Closed files) h = h
