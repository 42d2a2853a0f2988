-- The owner that an opening expects, and the opening of a desk as its callers see it.
use Rattle.std.specs.Prelude.{◌≡◌, ◌≢◌, ◌⊎◌, ℕ, List, Option, None, Some, IsTrue, length, false, ⊤}
use Rattle.sqlite.specs.Held.{Held, state}
use Rattle.sqlite.specs.State.{HasCleanDisk, Survives}
use Rattle.sqlite.specs.Store.{Ghosts}
use Rattle.base.specs.declared.refusal.Refusal.{Refusal}
use Rattle.base.specs.declared.refusal.Refusal.TheVariants as refusals
use Rattle.desk_history.specs.Calls.{History}
use Rattle.desk_history.specs.Formed.{IsHistory}
use Rattle.store_migration.specs.Migrations.{KeepsShown}
use Rattle.store_reads.specs.Failures.{IsFailure}
use Rattle.store_reads.specs.Own.{ReadsBy}
use Rattle.store_reads.specs.declared.desk_row.OwnRow.{OwnRow}
use Rattle.store_schema.specs.rows.Histories.{LeavesHistory, ShowsFirst, ShowsHistory}
use Rattle.store_sql.specs.States.{Spares}
use Rattle.store_desk.specs.Desks.{ShowsDesk}
use Rattle.store_desk.specs.Headline.{Recovers}
use Rattle.store_desk.specs.Reopening.{FindsADesk}
use Rattle.store_desk.specs.Steps.{AnswersRow, Brings, FindsKnown, FindsNone, FindsOther, HasDesk, IsReadRefusal}
use Rattle.store_desk.specs.declared.desk.Desk.{Desk}

-- own: this is the owner that is expected, if one is
abbrev pub IsExpected : Option (List ℕ) → List ℕ → Type 0
IsExpected None owner = ⊤
IsExpected (Some expected) owner = owner ≡ expected

-- own: one is expected, and this is another
abbrev pub IsAnother : Option (List ℕ) → List ℕ → Type 0
IsAnother None owner = ⊥
IsAnother (Some expected) owner = owner ≢ expected

-- own: one is expected, and the refusal is that the desk has another
abbrev pub IsAsked : Option (List ℕ) → Refusal → Type 0
IsAsked None refusal = ⊥
IsAsked (Some expected) refusal = refusal ≡ refusals.Owner

-- a desk, by its row, with another owner than the one that is expected
abbrev pub FindsAnother : {S : Type 0} → Ghosts S → Held S → Option (List ℕ) → Type 0
FindsAnother g conn expected = IsTrue (state g conn).is_open × HasDesk (state g conn).now.schema
    × ((own : OwnRow) × AnswersRow g conn (λ answer. ReadsBy answer own) × IsAnother expected own.owner)

module _ {S : Type 0} (g : Ghosts S) (conn : Held S) where
  -- The opened desk shows the history that the connection shows, in tables of either version, and
  -- whatever lives left the store, a history that they may leave. A stop leaves what it could have
  -- left before, or a desk of version 1 as one of version 2.
  pub record OpensDesk (desk : Desk S) : Type 0 where
    pub ok : HasCleanDisk (state g desk.conn) → (owner : List ℕ) (cs : History) → IsHistory cs
        → ShowsHistory (state g conn) owner cs → LeavesHistory (state g conn) owner cs → ShowsDesk g desk owner cs
    pub migrated : HasCleanDisk (state g desk.conn) → (owner : List ℕ) (cs : History) → IsHistory cs
        → ShowsFirst (state g conn) owner cs → ShowsDesk g desk owner cs
    pub lives : HasCleanDisk (state g desk.conn) → Recovers g conn desk
    pub read : HasCleanDisk (state g desk.conn) → FindsKnown g conn
    pub usable : desk.needs_reopening ≡ false
    pub stopped : Survives (state g conn) (state g desk.conn) (Brings (state g conn))
    pub spares : (owner : List ℕ) (cs : History) → ShowsHistory (state g conn) owner cs → Spares g conn desk.conn

  -- No desk was opened, whoever owns it: each fact is that of the clause of `Desk::open` with its
  -- name.
  pub record RefusesToOpen (refusal : Refusal) (last : Held S) : Type 0 where
    pub other : HasCleanDisk (state g last) → refusal ≡ refusals.Version → FindsOther g conn
    pub unread : HasCleanDisk (state g last) → refusal ≡ refusals.NotADesk → FindsNone g conn
    pub known : HasCleanDisk (state g last) → (owner : List ℕ) (cs : History) → length owner ≡ 16 → IsHistory cs
        → ShowsHistory (state g conn) owner cs → IsFailure refusal × ShowsHistory (state g last) owner cs
    pub known_first : HasCleanDisk (state g last) → (owner : List ℕ) (cs : History) → length owner ≡ 16 → IsHistory cs
        → ShowsFirst (state g conn) owner cs → IsFailure refusal × (refusal ≢ refusals.Store → ShowsFirst (state g last) owner cs)
    pub found : HasCleanDisk (state g last) → FindsADesk g conn refusal
    pub failed : Survives (state g conn) (state g last) (Brings (state g conn))
    pub refused : refusal ≢ refusals.Store → Spares g conn last
    pub spared : (owner : List ℕ) (cs : History) → ShowsHistory (state g conn) owner cs → Spares g conn last
    pub named : (refusal ≡ refusals.Version) ⊎ IsReadRefusal refusal

  -- The desk has another owner than this, by its row and in each history that the connection shows.
  -- It was only read, whatever its version: the connection shows what it showed, and nothing was
  -- committed.
  pub record IsOfAnother (owner : List ℕ) (last : Held S) : Type 0 where
    pub read : HasCleanDisk (state g last) → FindsAnother g conn (Some owner)
    pub other : HasCleanDisk (state g last) → (earlier : List ℕ) (cs : History)
        → ShowsFirst (state g conn) earlier cs ⊎ ShowsHistory (state g conn) earlier cs → earlier ≢ owner
    pub kept : HasCleanDisk (state g last) → KeepsShown (state g conn) (state g last)
    pub spares : Spares g conn last

  -- the desk has another owner than the one that is expected, and this refusal says so
  abbrev pub RefusesOwner : Option (List ℕ) → Refusal → Held S → Type 0
  RefusesOwner None refusal last = ⊥
  RefusesOwner (Some owner) refusal last = (refusal ≡ refusals.Owner) × IsOfAnother owner last
