-- What the tables of a desk tell of its calls.
use Rattle.std.specs.Prelude.{◌≡◌, ◌≢◌, ℕ, List, [], ◌∷◌, false, length, Option, Some, None}
use Rattle.std.specs.List.{list_all}
use Rattle.sqlite.specs.Order.{Row}
use Rattle.sqlite.specs.State.{State}
use Rattle.sqlite.specs.declared.types.Value.{Value}
use Rattle.sqlite_value.specs.Order.{column}
use Rattle.desk_history.specs.Calls.{History, is_first}
use Rattle.desk_history.specs.Tables.{MigratedRow, Tables, tables}
use Rattle.store_schema.specs.rows.Histories.{AreFirst, ShowsHistory}
use Rattle.store_decision_rows.specs.declared.remembered.Remembered.{Remembered}
use Rattle.store_decision_rows.specs.remembered.Current.{IsCurrent}
use Rattle.store_decision_rows.specs.sizes.Sizes.{AreAllKnown, AreSizesOf}
use Rattle.store_first_rules.specs.declared.past.Counting.{Counting}

-- the second column of a row
abbrev pub second : Row → Value
second row = column row 1

-- so many calls were accepted by the first rules, if one row says how many
abbrev pub HasFirstCalls : ℕ → Tables → Type 0
HasFirstCalls n t = (m : MigratedRow) → t.migrated ≡ m ∷ [] → m.calls ≡ n

-- their number isn't this one, if one row says how many
abbrev pub HasOtherCalls : ℕ → Tables → Type 0
HasOtherCalls n t = (m : MigratedRow) → t.migrated ≡ m ∷ [] → m.calls ≢ n

-- the sizes are those of the tables, and the stamp is that of their level
pub record IsCountedIn (c : Counting) (t : Tables) : Type 0 where
  pub sizes : AreSizesOf c.sizes t
  pub stamp : c.stamp ≡ t.desk.stamp

-- All calls were accepted by the first rules, and what is remembered is current for the tables and
-- has each size; or one wasn't.
abbrev pub IsPastOf : Option Remembered → Tables → Type 0
IsPastOf (Some r) t = HasFirstCalls (length t.calls) t × IsCurrent r t × AreAllKnown r.sizes
IsPastOf None t = HasOtherCalls (length t.calls) t

-- so it is of each history that the connection shows
abbrev pub TellsPast : State → Option Remembered → Type 0
TellsPast s (Some r) =
    (owner : List ℕ) (cs : History) → ShowsHistory s owner cs → AreFirst cs × IsCurrent r (tables owner cs) × AreAllKnown r.sizes
TellsPast s None = (owner : List ℕ) (cs : History) → ShowsHistory s owner cs → list_all is_first cs ≡ false
