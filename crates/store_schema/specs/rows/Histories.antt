-- Histories held in a store's tables.
use Rattle.std.specs.Prelude.{◌≡◌, ℕ, List, take, true}
use Rattle.std.specs.List.{list_all}
use Rattle.desk_types.specs.declared.command.Call.{Call}
use Rattle.desk_history.specs.Calls.{History, is_first}
use Rattle.desk_history.specs.Lives.{IsLeft}
use Rattle.desk_history.specs.Tables.{Tables, tables}
use Rattle.sqlite.specs.State.{State}
use Rattle.sqlite.specs.Tree.{Trees}
use Rattle.store_schema.specs.rows.Contents.{contents}
use Rattle.store_sql.specs.Contents.{AreTablesOf, Contents}
use Rattle.store_sql.specs.States.{Leaves, Shows}
use Rattle.store_schema.specs.Tables.{desk_layout, first_layout}

-- the rows of the tables of a desk with this owner and history
abbrev pub rows_of : List ℕ → History → Contents
rows_of owner cs = contents (tables owner cs)

-- the trees hold them, and are a database whose tables begin with the desk's
abbrev pub HoldsHistory : Trees → List ℕ → History → Type 0
HoldsHistory db owner cs = AreTablesOf desk_layout db (rows_of owner cs)

-- the connection shows them; what other tables hold isn't said
abbrev pub ShowsHistory : State → List ℕ → History → Type 0
ShowsHistory s owner cs = Shows desk_layout s (rows_of owner cs)

-- a stop leaves them
abbrev pub LeavesHistory : State → List ℕ → History → Type 0
LeavesHistory s owner cs = Leaves s (λ db. HoldsHistory db owner cs)

-- the trees hold the history before the call or the one after it
abbrev pub HoldsLeft : Trees → List ℕ → History → Call → Type 0
HoldsLeft db owner cs c = (later : History) × IsLeft cs c later × HoldsHistory db owner later

-- ---- the same in tables of version 1

-- each call was accepted by the first rules
abbrev pub AreFirst : History → Type 0
AreFirst cs = list_all is_first cs ≡ true

-- own: the rows of version 1: those of the twelve tables that it has, with its number
abbrev pub first_contents : Tables → Contents
first_contents t = take 12 (contents (record t { desk = record t.desk { version = 1 } }))

-- the rows of version 1 of a desk with this owner and history
abbrev pub first_rows_of : List ℕ → History → Contents
first_rows_of owner cs = first_contents (tables owner cs)

-- the trees hold them, and are a database of the twelve tables and no others
abbrev pub HoldsFirst : Trees → List ℕ → History → Type 0
HoldsFirst db owner cs = AreFirst cs × AreTablesOf first_layout db (first_rows_of owner cs)

-- the connection shows them, and no other table
abbrev pub ShowsFirst : State → List ℕ → History → Type 0
ShowsFirst s owner cs = AreFirst cs × Shows first_layout s (first_rows_of owner cs)

-- a stop leaves them
abbrev pub LeavesFirst : State → List ℕ → History → Type 0
LeavesFirst s owner cs = Leaves s (λ db. HoldsFirst db owner cs)
