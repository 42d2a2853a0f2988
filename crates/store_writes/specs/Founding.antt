-- The two rows of a desk without calls, in a store of any layout.
use Rattle.std.specs.Prelude.{ℕ, pos, List, [], ◌∷◌, codes}
use Rattle.sqlite.specs.declared.types.Value.TheVariants.{Int, Text, Blob}
use Rattle.sqlite.specs.Order.{Row}
use Rattle.sqlite.specs.State.{State}
use Rattle.sqlite.specs.Table.{Table}
use Rattle.sqlite.specs.Term.{Term}
use Rattle.store_sql.specs.Contents.{Contents, change_at}
use Rattle.store_sql.specs.Effects.{IsInserted}
use Rattle.store_sql.specs.Layouts.{Layout}
use Rattle.store_sql.specs.Meanings.{InsertsRow}
use Rattle.store_sql.specs.States.{Moves}
use Rattle.store_schema.specs.declared.inserting.TheConstants.{INSERT_DESK, INSERT_MIGRATED}

-- the parameters of the desk's own row
abbrev pub own_params : List ℕ → Row
own_params owner = Int (pos 1) ∷ Text (codes "boot-desk") ∷ Int (pos 2) ∷ Blob owner ∷ Int (pos 2021030218) ∷ []

-- those of the row that says how many calls were accepted by the first rules
abbrev pub migrated_params : ℕ → Row
migrated_params calls = Int (pos 1) ∷ Int (pos calls) ∷ []

-- in this layout the INSERT, with these parameters, adds this row to the table at this place
pub record Puts (layout : Layout) (text : List ℕ) (params : Row) : Type 0 where
  pub at : ℕ
  pub table : Table
  pub terms : List Term
  pub row : Row
  pub means : InsertsRow layout at table text terms
  pub is : IsInserted table terms params row

-- in this layout the two INSERTs of a founding each add a row
pub record PutsBoth (layout : Layout) (owner : List ℕ) : Type 0 where
  pub own : Puts layout INSERT_DESK.now (own_params owner)
  pub calls : Puts layout INSERT_MIGRATED.now (migrated_params 0)

-- the rows after them
abbrev pub with_desk : (layout : Layout) (owner : List ℕ) → PutsBoth layout owner → Contents → Contents
with_desk layout owner both c =
    change_at both.calls.at (λ rows. both.calls.row ∷ rows) (change_at both.own.at (λ rows. both.own.row ∷ rows) c)

-- both rows are put, in every layout in which the two INSERTs each add one; no other row changes
abbrev pub PutsDesk : List ℕ → State → State → Type 0
PutsDesk owner old new = (layout : Layout) (both : PutsBoth layout owner) → Moves layout (with_desk layout owner both) old new
