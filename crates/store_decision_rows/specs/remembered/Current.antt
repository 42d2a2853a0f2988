-- What an open desk remembers, and when it is current.
use Rattle.std.specs.Prelude.{◌≡◌, ℕ, List, ◌∷◌, IsTrue}
use Rattle.desk_types.specs.declared.command.Command.{Command}
use Rattle.desk_history.specs.declared.write.Write.{Write}
use Rattle.desk_history.specs.Calls.{History, Item}
use Rattle.desk_history.specs.Runs.{is_legal}
use Rattle.desk_history.specs.Tables.{Tables, tables}
use Rattle.desk_history.specs.Writes.{all_written}
use Rattle.store_reads.specs.People.{IsOneOf}
use Rattle.store_decision_rows.specs.declared.remembered.Remembered.{Remembered}
use Rattle.store_decision_rows.specs.sizes.Sizes.{AreRight, KnowsNoLess, but_migrated}

-- the stamp is that of the tables' level, each size that is known is that of the tables, and the
-- person is one of their people
pub record IsCurrent (r : Remembered) (t : Tables) : Type 0 where
  pub stamp : r.stamp ≡ t.desk.stamp
  pub sizes : AreRight r.sizes t
  pub person : IsOneOf r.person t.people

-- If this is current for the tables before a call that either rules accept, that is current for the
-- tables that any writes of its command make, and no size is lost.
abbrev pub StaysCurrent : Remembered → Command → List Write → Remembered → Type 0
StaysCurrent before command ws after =
    (owner : List ℕ) (cs : History) (i : Item) → IsTrue (is_legal (i ∷ cs)) → i.call.command ≡ command
    → all_written ws (tables owner cs) ≡ but_migrated owner cs i
    → IsCurrent before (tables owner cs) → IsCurrent after (tables owner (i ∷ cs)) × KnowsNoLess before.sizes after.sizes
