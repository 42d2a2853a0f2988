-- The effect of a migration: inside its transaction, and as a whole.
use Rattle.std.specs.Prelude.{ℕ, List, IsTrue}
use Rattle.sqlite.specs.State.{State, KeepsCommit}
use Rattle.sqlite.specs.Tree.{Trees}
use Rattle.desk_history.specs.Calls.{History}
use Rattle.store_sql.specs.Contents.{Contents}
use Rattle.store_sql.specs.Layouts.{Layout}
use Rattle.store_sql.specs.States.{Sees, Shows}
use Rattle.store_schema.specs.Tables.{desk_layout, first_layout}
use Rattle.store_schema.specs.rows.Histories.{AreFirst, HoldsHistory, ShowsFirst, first_rows_of, rows_of}

-- inside a transaction the tables of version 1 turn into those of version 2 of the same history;
-- nothing is committed
pub record TurnsFirst (old new : State) : Type 0 where
  pub is_open : IsTrue old.is_open → IsTrue new.is_open
  pub inside : IsTrue new.in_transaction
  pub kept : KeepsCommit old new
  pub value : (owner : List ℕ) (cs : History) → AreFirst cs → Sees first_layout old (first_rows_of owner cs) → Sees desk_layout new (rows_of owner cs)

-- the trees hold the tables of version 2, of each history that the connection showed in tables of
-- version 1
abbrev pub Migrates : State → Trees → Type 0
Migrates old db = (owner : List ℕ) (cs : History) → ShowsFirst old owner cs → HoldsHistory db owner cs

-- the connection still shows all that it showed
abbrev pub KeepsShown : State → State → Type 0
KeepsShown old new = (layout : Layout) (contents : Contents) → Shows layout old contents → Shows layout new contents
