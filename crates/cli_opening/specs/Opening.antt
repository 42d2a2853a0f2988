-- The desk of a connection, and the desk of two files.
--
-- `first` names what a desk's log and its database file hold once the kit's `open` at a path has
-- opened and synced them (`start`; sqlite_std_file, `open`, and sqlite_disk, `Start`). No code can
-- read it; what is proved holds whatever it is. A value of a `Start` opens one pair of files. That
-- these are the files at the path is what the name means, and no clause. A read that returns other
-- bytes than these and what was written since leaves no clean disk.
use Rattle.std.specs.Prelude.{◌≡◌, ◌⊎◌, ℕ, All, List, [], IsTrue, length, false}
use Rattle.sqlite.specs.Files as files
use Rattle.sqlite.specs.Files.{HoldsDatabase, file_state, over_files}
use Rattle.sqlite.specs.Held.{Held, state}
use Rattle.sqlite.specs.Start.{FindsIn}
use Rattle.sqlite.specs.State.{HasCleanDisk, Survives}
use Rattle.sqlite.specs.Store.{Ghosts}
use Rattle.sqlite.specs.Tree.{Trees}
use Rattle.sqlite_disk.specs.declared.Disk as disk
use Rattle.sqlite_disk.specs.declared.start.Start as start
use Rattle.sqlite_store.specs.declared.store.FileStore.{FileStore}
use Rattle.sqlite_wal.specs.Files.{image_at}
use Rattle.sqlite_wal.specs.Recovery.{Image}
use Rattle.store_schema.specs.rows.Histories.{HoldsFirst, HoldsHistory, LeavesHistory, ShowsFirst, ShowsHistory}
use Rattle.desk_history.specs.Calls.{History}
use Rattle.desk_history.specs.Formed.{IsHistory, IsItem}
use Rattle.desk_history.specs.Lives.{Life, events_of}
use Rattle.store_sql.specs.States.{Spares}
use Rattle.store_schema.specs.Names.{takes_a_desk_name}
use Rattle.store_schema.specs.Tables.{no_schema}
use Rattle.store_desk.specs.Desks.{ShowsDesk}
use Rattle.store_desk.specs.Founding.{Founded, HasFoundedBeside}
use Rattle.store_desk.specs.Headline.{FindsLives, HoldsLives, IsRecovered, Recovers, Seen}
use Rattle.store_desk.specs.declared.desk.Desk.{Desk}

-- the trees hold the tables of this history, of either version
abbrev pub HoldsTables : Trees → List ℕ → History → Type 0
HoldsTables db owner cs = HoldsHistory db owner cs ⊎ HoldsFirst db owner cs

-- ---- the desk of a connection

module _ {S : Type 0} (g : Ghosts S) (conn : Held S) where
  -- None of the desk's names was taken in the connection's store, and the desk that was made in it
  -- has this owner, and if the store had no other tables, no calls. Beside others it has its rows,
  -- and they keep theirs, where their schema `AllowsDesk`. A stop leaves what it could have left
  -- before, or that.
  pub record Makes (owner : List ℕ) (desk : Desk S) : Type 0 where
    pub free : takes_a_desk_name (state g conn).now.schema ≡ false
    pub own : desk.owner ≡ owner
    pub shows : HasCleanDisk (state g desk.conn) → (state g conn).now.schema ≡ no_schema → ShowsDesk g desk owner []
    pub beside : HasCleanDisk (state g desk.conn) → HasFoundedBeside (state g conn) (state g desk.conn) owner
    pub stopped : Survives (state g conn) (state g desk.conn) (Founded (state g conn) owner)
    pub clean : HasCleanDisk (state g desk.conn) → HasCleanDisk (state g conn)

  -- The opened desk shows the history that the connection shows, in tables of either version, and
  -- whatever lives may have left the store, a history that they may leave. For a desk of version 2
  -- nothing was committed.
  pub record Opens (desk : Desk S) : Type 0 where
    pub shows : HasCleanDisk (state g desk.conn) → (owner : List ℕ) (cs : History) → IsHistory cs
        → ShowsHistory (state g conn) owner cs → LeavesHistory (state g conn) owner cs → ShowsDesk g desk owner cs
    pub migrated : HasCleanDisk (state g desk.conn) → (owner : List ℕ) (cs : History) → IsHistory cs
        → ShowsFirst (state g conn) owner cs → ShowsDesk g desk owner cs
    -- so it shows the history whose tables are the last commit
    pub found : HasCleanDisk (state g desk.conn) → IsTrue (state g conn).is_open → (owner : List ℕ) (cs : History) → IsHistory cs
        → HoldsTables (state g conn).committed.trees owner cs → ShowsDesk g desk owner cs
    pub lives : HasCleanDisk (state g desk.conn) → Recovers g conn desk
    pub spares : (owner : List ℕ) (cs : History) → ShowsHistory (state g conn) owner cs → Spares g conn desk.conn
    pub clean : HasCleanDisk (state g desk.conn) → HasCleanDisk (state g conn)

  -- The desk has this owner. It was opened so; or it was made, in a store without tables, indexes and
  -- views: it shows this owner and no calls. If the last commit has a desk's tables, with an owner of 16 bytes, it
  -- wasn't made: it shows their history.
  pub record FindsOrMakes (owner : List ℕ) (desk : Desk S) : Type 0 where
    pub own : desk.owner ≡ owner
    pub either : Opens desk ⊎ (((state g conn).now.schema ≡ no_schema) × (HasCleanDisk (state g desk.conn) → ShowsDesk g desk owner []))
    pub found : HasCleanDisk (state g desk.conn) → IsTrue (state g conn).is_open → (earlier : List ℕ) (cs : History) → length earlier ≡ 16
        → IsHistory cs → HoldsTables (state g conn).committed.trees earlier cs → ShowsDesk g desk earlier cs
    pub lives : HasCleanDisk (state g desk.conn) → (earlier : List ℕ) (lives : List Life) (seen : Seen) → length earlier ≡ 16
        → All (λ e. IsItem e.item) (events_of lives) → FindsLives (state g conn) earlier lives seen
        → ∥ ((cs : History) × IsRecovered g desk earlier lives seen cs) ∥₁
    pub clean : HasCleanDisk (state g desk.conn) → HasCleanDisk (state g conn)

-- ---- the desk of two files

-- A log and a database file hold a database with the tables of this history, of either version.
-- `∥ .. ∥₁` says that they hold it, but not by which pages.
pub record HoldsDesk (image : Image) (owner : List ℕ) (cs : History) : Type 0 where
  pub db : Trees
  pub database : ∥ HoldsDatabase image db ∥₁
  pub tables : HoldsTables db owner cs

-- they hold a database with the tables of a history that these lives may leave, and that follows
-- the seen one
abbrev pub HoldsLivesIn : Image → List ℕ → List Life → Seen → Type 0
HoldsLivesIn image owner lives seen = ∥ ((db : Trees) × HoldsDatabase image db × HoldsLives db owner lives seen) ∥₁

module _ {D S : Type 0} (g : disk.Ghosts D) (first : start.Ghosts S) where
  -- A connection that was opened over the files, and that nothing was done with. While its disk is
  -- clean, it is open, its tables are its last commit, and that is what the files held at first.
  pub record ConnectsTo (conn : Held (FileStore D g)) : Type 0 where
    pub outside : conn.in_transaction ≡ false
    pub opened : HasCleanDisk (file_state conn) → files.IsOpened conn
    pub found : HasCleanDisk (file_state conn) → FindsIn (image_at first) (file_state conn)

  -- the desk was made over a connection to the files
  pub record IsMade (owner : List ℕ) (desk : Desk (FileStore D g)) : Type 0 where
    pub conn : Held (FileStore D g)
    pub over : ConnectsTo conn
    pub makes : Makes over_files conn owner desk

  -- The desk was opened over a connection to the files. If they held the tables of a history at
  -- first, the desk shows it; if they held what lives may leave, it has a history that these lives
  -- may leave, with each call that was answered Ok (`IsRecovered`).
  pub record IsOpened (desk : Desk (FileStore D g)) : Type 0 where
    pub conn : Held (FileStore D g)
    pub over : ConnectsTo conn
    pub opens : Opens over_files conn desk
    pub history : HasCleanDisk (file_state desk.conn) → (owner : List ℕ) (cs : History) → IsHistory cs
        → HoldsDesk (image_at first) owner cs → ShowsDesk over_files desk owner cs
    pub lives : HasCleanDisk (file_state desk.conn) → (owner : List ℕ) (lives : List Life) (seen : Seen)
        → All (λ e. IsItem e.item) (events_of lives) → HoldsLivesIn (image_at first) owner lives seen
        → ∥ ((cs : History) × IsRecovered over_files desk owner lives seen cs) ∥₁

  -- The desk was opened over a connection to the files, or made over it. If they held a desk at
  -- first, with an owner of 16 bytes, it wasn't made: the same holds as of one that was opened.
  pub record IsFoundOrMade (owner : List ℕ) (desk : Desk (FileStore D g)) : Type 0 where
    pub conn : Held (FileStore D g)
    pub over : ConnectsTo conn
    pub finds : FindsOrMakes over_files conn owner desk
    pub history : HasCleanDisk (file_state desk.conn) → (earlier : List ℕ) (cs : History) → length earlier ≡ 16 → IsHistory cs
        → HoldsDesk (image_at first) earlier cs → ShowsDesk over_files desk earlier cs
    pub lives : HasCleanDisk (file_state desk.conn) → (earlier : List ℕ) (lives : List Life) (seen : Seen) → length earlier ≡ 16
        → All (λ e. IsItem e.item) (events_of lives) → HoldsLivesIn (image_at first) earlier lives seen
        → ∥ ((cs : History) × IsRecovered over_files desk earlier lives seen cs) ∥₁
