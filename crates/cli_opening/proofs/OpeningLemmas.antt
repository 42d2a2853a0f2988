-- A desk that was made or opened by a connection to two files.
use Rattle.std.proofs.Common.{◌≡◌, ℕ, List, length, IsTrue, sym, subst}
use Rattle.std.proofs.Math.Logic.{∥∥₁_elim, ∥∥₁_map}
use Rattle.sqlite.specs.Files.{file_state, over_files}
use Rattle.sqlite.specs.Held.{Held}
use Rattle.sqlite.specs.State.{HasCleanDisk}
use Rattle.sqlite.specs.Tree.{Trees}
use Rattle.sqlite_disk.specs.declared.Disk.{Ghosts}
use Rattle.sqlite_disk.specs.declared.start.Start as start
use Rattle.sqlite_store.specs.declared.store.FileStore.{FileStore}
use Rattle.sqlite_trees.specs.Props.{Trees-set}
use Rattle.sqlite_wal.specs.Files.{image_at}
use Rattle.desk_history.specs.Calls.{History}
use Rattle.desk_history.specs.Formed.{IsHistory}
use Rattle.desk_history.specs.Lives.{Life}
use Rattle.store_sql.specs.States.{Leaves}
use Rattle.store_desk.specs.Headline.{FindsLives, HoldsLives, Seen}
use Rattle.store_desk.specs.declared.desk.Desk.{Desk}
use Rattle.cli_opening.specs.Opening.{ConnectsTo, FindsOrMakes, HoldsDesk, HoldsLivesIn, HoldsTables, IsFoundOrMade, IsOpened, Opens}
use Rattle.cli_opening.specs.Refusing.{IsRefusedOver}

module _ {D S : Type 0} {g : Ghosts D} (first : start.Ghosts S) (conn : Held (FileStore D g)) (over : ConnectsTo g first conn) where
  -- the last commit is what the files held at first
  committed_tables : HasCleanDisk (file_state conn) → (owner : List ℕ) (cs : History) → HoldsDesk (image_at first) owner cs
      → HoldsTables (file_state conn).committed.trees owner cs
  committed_tables clean owner cs held =
      let same = ∥∥₁_elim held.database (Trees-set _ _) ((over.found clean).holds held.db) in
      subst (λ (t : Trees). HoldsTables t owner cs) (sym same) held.tables

  committed_lives : (owner : List ℕ) (lives : List Life) (seen : Seen) → HoldsLivesIn (image_at first) owner lives seen
      → FindsLives (file_state conn) owner lives seen
  committed_lives owner lives seen held clean live =
      ∥∥₁_map held (λ it. subst (λ (t : Trees). HoldsLives t owner lives seen) (sym ((over.found clean).holds it.0 it.1)) it.2)

  pub is_opened : (desk : Desk (FileStore D g)) → Opens over_files conn desk → IsOpened g first desk
  is_opened desk opens = record {
    conn = conn;
    over = over;
    opens = opens;
    history = λ clean owner cs history held.
        let before = opens.clean clean in
        opens.found clean (over.opened before).0.is_open owner cs history (committed_tables before owner cs held);
    lives = λ clean owner lives seen formed held. opens.lives clean owner lives seen formed (committed_lives owner lives seen held);
  }

  pub is_found : (owner : List ℕ) (desk : Desk (FileStore D g)) → FindsOrMakes over_files conn owner desk → IsFoundOrMade g first owner desk
  is_found owner desk finds = record {
    conn = conn;
    over = over;
    finds = finds;
    history = λ clean earlier cs long history held.
        let before = finds.clean clean in
        finds.found clean (over.opened before).0.is_open earlier cs long history (committed_tables before earlier cs held);
    lives = λ clean earlier lives seen long formed held. finds.lives clean earlier lives seen long formed (committed_lives earlier lives seen held);
  }

  -- what is refused over the last commit is refused over what the files held at first
  pub is_refused : (refuses : Held (FileStore D g) → Type 0) (may : List ℕ → Type 0) (last : Held (FileStore D g)) → refuses conn
      → (HasCleanDisk (file_state last) → (owner : List ℕ) (cs : History) → length owner ≡ 16 → IsHistory cs
      → HoldsTables (file_state conn).committed.trees owner cs → may owner)
      → (IsTrue (file_state conn).is_open → (owner : List ℕ) (cs : History) → length owner ≡ 16 → IsHistory cs
      → HoldsTables (file_state conn).committed.trees owner cs → Leaves (file_state last) (λ db. HoldsTables db owner cs))
      → (HasCleanDisk (file_state last) → HasCleanDisk (file_state conn))
      → IsRefusedOver g first refuses may last
  is_refused refuses may last refused known left before = record {
    conn = conn;
    over = over;
    refused = refused;
    known = λ clean owner cs long history held. known clean owner cs long history (committed_tables (before clean) owner cs held);
    left = λ owner cs long history held clean db may.
        left (over.opened (before clean)).0.is_open owner cs long history (committed_tables (before clean) owner cs held) clean db may;
  }
