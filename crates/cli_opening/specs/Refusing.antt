-- A desk that isn't opened or made: why, and what is left of its connection.
use Rattle.std.specs.Prelude.{◌≡◌, ◌≢◌, ◌⊎◌, ℕ, List, IsTrue, false, length}
use Rattle.sqlite.specs.Files.{file_state, over_files}
use Rattle.sqlite.specs.Held.{Held, state}
use Rattle.sqlite.specs.State.{HasCleanDisk, Survives}
use Rattle.sqlite.specs.Store.{Ghosts}
use Rattle.sqlite_disk.specs.declared.Disk as disk
use Rattle.sqlite_disk.specs.declared.start.Start as start
use Rattle.sqlite_store.specs.declared.store.FileStore.{FileStore}
use Rattle.sqlite_wal.specs.Files.{image_at}
use Rattle.base.specs.declared.refusal.Refusal.{Refusal}
use Rattle.base.specs.declared.refusal.Refusal.TheVariants as refusals
use Rattle.desk_history.specs.Calls.{History}
use Rattle.desk_history.specs.Formed.{IsHistory}
use Rattle.store_migration.specs.Migrations.{KeepsShown}
use Rattle.store_reads.specs.Failures.{IsFailure}
use Rattle.store_schema.specs.Names.{takes_a_desk_name}
use Rattle.store_schema.specs.Tables.{no_schema}
use Rattle.store_schema.specs.rows.Histories.{ShowsHistory}
use Rattle.store_sql.specs.States.{Leaves, Spares}
use Rattle.store_desk.specs.Founding.{Founded}
use Rattle.store_desk.specs.Owners.{IsOfAnother}
use Rattle.store_desk.specs.Reopening.{FindsADesk}
use Rattle.store_desk.specs.Steps.{Brings, FindsNone, FindsOther}
use Rattle.cli_output.specs.Faults.{IsFileRefusal}
use Rattle.cli_opening.specs.Opening.{ConnectsTo, HoldsDesk, HoldsTables}
use Rattle.cli_opening.specs.Unopened.{IsOfUnopened}
use Rattle.cli_opening.specs.declared.left.Rest.{Rest}
use Rattle.cli_opening.specs.declared.left.Rest.TheVariants.{Broken, Closed, Nothing, Unclosed, Unopened}

-- ---- the desk of a connection

module _ {S : Type 0} (g : Ghosts S) (conn : Held S) where
  -- Its opening was refused, and this is the connection then.
  pub record RefusesDesk (refusal : Refusal) (last : Held S) : Type 0 where
    -- Version and NotADesk come only where the store has such a desk, or none
    pub other : HasCleanDisk (state g last) → refusal ≡ refusals.Version → FindsOther g conn
    pub none : HasCleanDisk (state g last) → refusal ≡ refusals.NotADesk → FindsNone g conn
    -- and not where it has what lives may leave
    pub finds : HasCleanDisk (state g last) → FindsADesk g conn refusal
    -- a desk with an owner of 16 bytes, of either version, is refused only by a device
    pub known : HasCleanDisk (state g last) → (owner : List ℕ) (cs : History) → length owner ≡ 16 → IsHistory cs
        → HoldsTables (state g conn).committed.trees owner cs → IsFailure refusal
    -- a stop leaves what it could have left before, or, only with Store, a desk of version 1 as one of
    -- version 2
    pub spares : refusal ≢ refusals.Store → Spares g conn last
    pub second : (owner : List ℕ) (cs : History) → ShowsHistory (state g conn) owner cs → Spares g conn last
    pub stopped : Survives (state g conn) (state g last) (Brings (state g conn))
    -- so it leaves the history whose tables, of either version, were the last commit
    pub left : IsTrue (state g conn).is_open → (owner : List ℕ) (cs : History)
        → HoldsTables (state g conn).committed.trees owner cs → Leaves (state g last) (λ db. HoldsTables db owner cs)

  -- A desk with this owner wasn't made, and this is the connection then.
  pub record RefusesMaking (owner : List ℕ) (refusal : Refusal) (last : Held S) : Type 0 where
    -- Exists comes only where a name of the desk's is taken, and nothing was done
    pub taken : refusal ≡ refusals.Exists → IsTrue (takes_a_desk_name (state g conn).now.schema) × (last ≡ conn)
    -- a stop leaves what it could have left before, or, only with Store, a desk without calls
    pub kept : HasCleanDisk (state g last) → refusal ≢ refusals.Store → KeepsShown (state g conn) (state g last)
    pub spares : refusal ≢ refusals.Store → Spares g conn last
    pub stopped : Survives (state g conn) (state g last) (Founded (state g conn) owner)

module _ {S : Type 0} (g : Ghosts S) (conn : Held S) where
  -- Its opening for this owner was refused, because the desk has another: it was only read, whatever
  -- its version, and a stop leaves what it could have left before.
  pub record IsAnothers (owner : List ℕ) (refusal : Refusal) (last : Held S) : Type 0 where
    pub is : refusal ≡ refusals.Owner
    pub of : IsOfAnother g conn owner last
    -- so a desk whose tables, of either version, were the last commit has another owner, and a stop
    -- leaves its history
    pub other : HasCleanDisk (state g last) → (earlier : List ℕ) (cs : History) → HoldsTables (state g conn).committed.trees earlier cs → earlier ≢ owner
    pub left : IsTrue (state g conn).is_open → (earlier : List ℕ) (cs : History)
        → HoldsTables (state g conn).committed.trees earlier cs → Leaves (state g last) (λ db. HoldsTables db earlier cs)

  -- its opening for this owner was refused so, or as any opening is
  abbrev pub RefusesOwned : List ℕ → Refusal → Held S → Type 0
  RefusesOwned owner refusal last = IsAnothers owner refusal last ⊎ RefusesDesk g conn refusal last

-- own: an opening for the first owner may refuse a desk of the second so: by a device, or because
-- they differ
abbrev pub MayRefuse : List ℕ → List ℕ → Refusal → Type 0
MayRefuse owner earlier refusal = IsFailure refusal ⊎ ((refusal ≡ refusals.Owner) × (earlier ≢ owner))

module _ {S : Type 0} (g : Ghosts S) (conn : Held S) where
  -- There was no desk, and none of this owner was made in the store, which has no table, index or view.
  pub record FindsNoneToMake (owner : List ℕ) (refusal : Refusal) (last : Held S) : Type 0 where
    pub bare : (state g conn).now.schema ≡ no_schema
    pub between : Held S
    pub none : RefusesDesk g conn refusals.NotADesk between
    pub making : RefusesMaking g between owner refusal last

  -- No desk was opened, and none was made.
  pub record RefusesFinding (owner : List ℕ) (refusal : Refusal) (last : Held S) : Type 0 where
    pub either : RefusesOwned g conn owner refusal last ⊎ FindsNoneToMake owner refusal last
    -- a desk with an owner of 16 bytes, of either version, is refused only by a device, or because it
    -- has another owner, and a stop leaves its history
    pub known : HasCleanDisk (state g last) → (earlier : List ℕ) (cs : History) → length earlier ≡ 16 → IsHistory cs
        → HoldsTables (state g conn).committed.trees earlier cs → MayRefuse owner earlier refusal
    pub left : IsTrue (state g conn).is_open → (earlier : List ℕ) (cs : History) → length earlier ≡ 16 → IsHistory cs
        → HoldsTables (state g conn).committed.trees earlier cs → Leaves (state g last) (λ db. HoldsTables db earlier cs)
    pub clean : HasCleanDisk (state g last) → HasCleanDisk (state g conn)

-- ---- the desk of two files

module _ {D S : Type 0} (g : disk.Ghosts D) (first : start.Ghosts S) where
  -- Over a connection to the files this was refused, and the connection is left. If the files held a
  -- desk at first, with an owner of 16 bytes, it may be refused so, and a stop leaves its history.
  pub record IsRefusedOver (refuses : Held (FileStore D g) → Type 0) (may : List ℕ → Type 0) (last : Held (FileStore D g)) : Type 0 where
    pub conn : Held (FileStore D g)
    pub over : ConnectsTo g first conn
    pub refused : refuses conn
    pub known : HasCleanDisk (file_state last) → (owner : List ℕ) (cs : History) → length owner ≡ 16 → IsHistory cs
        → HoldsDesk (image_at first) owner cs → may owner
    pub left : (owner : List ℕ) (cs : History) → length owner ≡ 16 → IsHistory cs
        → HoldsDesk (image_at first) owner cs → Leaves (file_state last) (λ db. HoldsTables db owner cs)

  -- over a connection to the files no desk was made, and the connection is left
  pub record IsUnmadeOver (owner : List ℕ) (refusal : Refusal) (last : Held (FileStore D g)) : Type 0 where
    pub conn : Held (FileStore D g)
    pub over : ConnectsTo g first conn
    pub refused : RefusesMaking over_files conn owner refusal last

  -- own: where nothing is left no file was opened; of files without a connection this is left, and in
  -- either case the refusal is the file's; otherwise this holds of the connection
  abbrev pub IsLeftRefused : (Held (FileStore D g) → Type 0) → Refusal → Rest D g → Type 0
  IsLeftRefused told refusal (Nothing was_opened) = IsFileRefusal refusal × (was_opened ≡ false)
  IsLeftRefused told refusal (Unopened left) = IsFileRefusal refusal × IsOfUnopened g first left
  IsLeftRefused told refusal (Unclosed last) = told last
  IsLeftRefused told refusal (Broken store) = ⊥
  IsLeftRefused told refusal (Closed files) = ⊥

  -- no desk was opened in the files
  abbrev pub IsNotOpened : Refusal → Rest D g → Type 0
  IsNotOpened refusal rest =
      IsLeftRefused (λ last. IsRefusedOver (λ conn. RefusesDesk over_files conn refusal last) (λ _. IsFailure refusal) last) refusal rest

  -- no desk with this owner was made in them
  abbrev pub IsNotMade : List ℕ → Refusal → Rest D g → Type 0
  IsNotMade owner refusal rest = IsLeftRefused (IsUnmadeOver owner refusal) refusal rest

  -- none of this owner was opened, and none made
  abbrev pub IsNotFound : List ℕ → Refusal → Rest D g → Type 0
  IsNotFound owner refusal rest =
      IsLeftRefused (λ last. IsRefusedOver (λ conn. RefusesFinding over_files conn owner refusal last) (λ earlier. MayRefuse owner earlier refusal) last) refusal rest
