-- The contents of a store's tables as a connection shows them, inside a transaction and outside,
-- and the effect of steps on them.
use Rattle.std.specs.Prelude.{◌≡◌, IsTrue, false, List, ◌++◌, Result, IfOk, OnOk}
use Rattle.sqlite.specs.Held.{Held, state}
use Rattle.sqlite.specs.Schema.{Schema}
use Rattle.sqlite.specs.State.{State, HasCleanDisk, KeepsCommit, Survives}
use Rattle.sqlite.specs.Store.{Ghosts}
use Rattle.sqlite.specs.Table.{Table}
use Rattle.sqlite.specs.Tree.{Trees}
use Rattle.store_sql.specs.Contents.{Contents, Holds, no_rows}
use Rattle.store_sql.specs.Layouts.{Layout, alone}

-- inside a transaction
pub record Sees (layout : Layout) (s : State) (contents : Contents) : Type 0 where
  pub inside : IsTrue s.in_transaction
  pub holds : Holds layout s.now contents

-- Outside a transaction. After some failures nobody knows whether the connection is still open, so
-- only an open one is said to hold contents.
pub record Shows (layout : Layout) (s : State) (contents : Contents) : Type 0 where
  pub outside : s.in_transaction ≡ false
  pub holds : HasCleanDisk s → IsTrue s.is_open → Holds layout s.now contents × (s.now ≡ s.committed)

-- Steps inside a transaction commit nothing, and turn the contents `before` of the tables into the
-- contents `after`. T is the type of the values that the tables represent.
pub record Turns {T : Type 0} (layout : Layout) (before after : T → Contents) (old new : State) : Type 0 where
  pub is_open : IsTrue old.is_open → IsTrue new.is_open
  pub inside : IsTrue new.in_transaction
  pub kept : KeepsCommit old new
  pub value : (t : T) → Sees layout old (before t) → Sees layout new (after t)

-- the same, for a change of the value that the tables represent
abbrev pub Changes : {T : Type 0} → Layout → (T → Contents) → State → State → (T → T) → Type 0
Changes layout contents old new change = Turns layout contents (λ t. contents (change t)) old new

-- the same, for a change of the contents themselves
abbrev pub Moves : Layout → (Contents → Contents) → State → State → Type 0
Moves layout change old new = Turns layout (λ (c : Contents). c) change old new

-- each database that a stop may leave has this property
abbrev pub Leaves : State → (Trees → Type 0) → Type 0
Leaves s P = HasCleanDisk s → (db : Trees) → s.may_leave db → P db

-- Steps that make tables in a store that has no others than those of the schema before: the new ones
-- come after the others, without rows, and the others keep theirs.
pub record Makes (old new : State) (before after : Schema) (added : List Table) : Type 0 where
  pub is_open : IsTrue old.is_open → IsTrue new.is_open
  pub inside : IsTrue new.in_transaction
  pub kept : KeepsCommit old new
  pub value : (c : Contents) → Holds (alone before) old.now c → Holds (alone after) new.now (c ++ no_rows added)

-- ---- the effect of a call inside a transaction on the connection, if the disk is clean at its end

-- the call's result, and how the state changed with it
abbrev pub DoesInside : {S X E : Type 0} → Ghosts S → Held S → Held S → Result X E → (X → State → State → Type 0) → Type 0
DoesInside g old new result does =
    HasCleanDisk (state g new) → IsTrue (state g old).in_transaction → IfOk result (λ x. does x (state g old) (state g new))

-- Ok comes only from an open connection that is still inside its transaction
abbrev pub StaysInside : {S X E : Type 0} → Ghosts S → Held S → Held S → Result X E → Type 0
StaysInside g old new result =
    HasCleanDisk (state g new) → IsTrue (state g old).in_transaction → OnOk result (IsTrue (state g new).is_open × IsTrue (state g new).in_transaction)

-- nothing is committed, not even after an error
abbrev pub CommitsNothing : {S : Type 0} → Ghosts S → Held S → Held S → Type 0
CommitsNothing g old new = HasCleanDisk (state g new) → IsTrue (state g old).in_transaction → KeepsCommit (state g old) (state g new)

-- a stop leaves only what it could have left before, if the disk is clean afterwards
abbrev pub Spares : {S : Type 0} → Ghosts S → Held S → Held S → Type 0
Spares g old new = Survives (state g old) (state g new) (λ _. ⊥)
