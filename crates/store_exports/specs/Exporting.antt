-- The bytes of a desk's export, and its effect on the connection.
use Rattle.std.specs.Prelude.{◌≡◌, ℕ, List, map, All, Option, Result, MatchResult}
use Rattle.std.specs.Io.KnownBytes.{Appends}
use Rattle.sqlite.specs.Held.{Held, state}
use Rattle.sqlite.specs.State.{State, HasCleanDisk}
use Rattle.sqlite.specs.Store.{Ghosts}
use Rattle.base.specs.Output.{AppendsBeginning}
use Rattle.sbat.specs.Writing.{level_lines}
use Rattle.desk_exports.specs.Exports.{db, dbx, level_components, minutes_text, shim}
use Rattle.desk_exports.specs.declared.export.Export.{Export}
use Rattle.desk_exports.specs.declared.export.Export.TheVariants as exports
use Rattle.desk_history.specs.Calls.{History}
use Rattle.desk_history.specs.Formed.{IsItem}
use Rattle.desk_history.specs.Tables.{tables}
use Rattle.store_schema.specs.rows.Histories.{ShowsHistory}
use Rattle.store_reads.specs.Counting.{counted}
use Rattle.store_reads.specs.declared.counts.Counted.{Counted}
use Rattle.store_sql.specs.States.{Spares}

-- the bytes of each history that the connection showed are written
abbrev pub WritesOf : State → Option (List ℕ) → Option (List ℕ) → (History → List ℕ) → Type 0
WritesOf old before after bytes = (owner : List ℕ) (cs : History) → ShowsHistory old owner cs → Appends before after (bytes cs)

-- a prefix of them is written
abbrev pub BeginsOf : State → Option (List ℕ) → Option (List ℕ) → (History → List ℕ) → Type 0
BeginsOf old before after bytes = (owner : List ℕ) (cs : History) → ShowsHistory old owner cs → AppendsBeginning before after (bytes cs)

-- the same of the histories of which this holds
abbrev pub WritesWhere : (History → Type 0) → State → Option (List ℕ) → Option (List ℕ) → (History → List ℕ) → Type 0
WritesWhere holds old before after bytes =
    (owner : List ℕ) (cs : History) → holds cs → ShowsHistory old owner cs → Appends before after (bytes cs)

-- a prefix of the bytes of each such history was written
abbrev pub BeginsWhere : (History → Type 0) → State → Option (List ℕ) → Option (List ℕ) → (History → List ℕ) → Type 0
BeginsWhere holds old before after bytes =
    (owner : List ℕ) (cs : History) → holds cs → ShowsHistory old owner cs → AppendsBeginning before after (bytes cs)

-- the connection still shows each history that it showed
abbrev pub StaysOf : State → State → Type 0
StaysOf old new = (owner : List ℕ) (cs : History) → ShowsHistory old owner cs → ShowsHistory new owner cs

-- if it showed a history, a stop leaves only what it could have left before
abbrev pub SparesOf : {S : Type 0} → Ghosts S → Held S → Held S → Type 0
SparesOf g old new = (owner : List ℕ) (cs : History) → ShowsHistory (state g old) owner cs → Spares g old new

-- A step of an export: on a clean disk it wrote these bytes, or, if it failed, a prefix of them;
-- and its effect on the connection
pub record Exports {S X E : Type 0} (g : Ghosts S) (old new : Held S) (before after : Option (List ℕ)) (result : Result X E) (bytes : History → List ℕ) : Type 0 where
  pub wrote : HasCleanDisk (state g new) → MatchResult result (λ _. WritesOf (state g old) before after bytes) (λ _. BeginsOf (state g old) before after bytes)
  pub same : StaysOf (state g old) (state g new)
  pub spares : SparesOf g old new
  pub clean : HasCleanDisk (state g new) → HasCleanDisk (state g old)

-- The same of the histories of which this holds
pub record ExportsWhere {S X E : Type 0} (holds : History → Type 0) (g : Ghosts S) (old new : Held S) (before after : Option (List ℕ)) (result : Result X E) (bytes : History → List ℕ) : Type 0 where
  pub wrote : HasCleanDisk (state g new) → MatchResult result (λ _. WritesWhere holds (state g old) before after bytes) (λ _. BeginsWhere holds (state g old) before after bytes)
  pub same : StaysOf (state g old) (state g new)
  pub spares : SparesOf g old new
  pub clean : HasCleanDisk (state g new) → HasCleanDisk (state g old)

-- the number is that of the tables of each history that the connection showed
abbrev pub IsSizeOf : State → Counted → ℕ → Type 0
IsSizeOf old what n = (owner : List ℕ) (cs : History) → ShowsHistory old owner cs → n ≡ counted what (tables owner cs)

-- ---- the bytes, by the owner and the stamp that an open desk keeps

-- the text of the level with this stamp
abbrev pub level_with : ℕ → History → List ℕ
level_with stamp cs = level_lines stamp (map (λ x. (x.name, x.generation)) (level_components cs))

-- an export with this owner and this stamp
abbrev pub exported_with : Export → List ℕ → ℕ → History → List ℕ
exported_with exports.Db owner stamp cs = db owner cs
exported_with exports.Dbx owner stamp cs = dbx owner cs
exported_with exports.Shim owner stamp cs = shim owner cs
exported_with exports.Level owner stamp cs = level_with stamp cs
exported_with exports.Minutes owner stamp cs = minutes_text cs

-- what an export needs of a history: of shim's form each call is in its forms, since it reads their
-- texts; the others need nothing
abbrev pub Suits : Export → History → Type 0
Suits exports.Db cs = Unit {0}
Suits exports.Dbx cs = Unit {0}
Suits exports.Shim cs = All IsItem cs
Suits exports.Level cs = Unit {0}
Suits exports.Minutes cs = Unit {0}
