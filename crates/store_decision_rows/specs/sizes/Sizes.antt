-- Known sizes of tables, and when they are right.
use Rattle.std.specs.Prelude.{◌≡◌, ℕ, not, List, ◌∷◌, length, Option, Some, None, is_some, IsTrue}
use Rattle.desk_types.specs.declared.command.Command.{Command}
use Rattle.desk_history.specs.declared.write.Write.{Write}
use Rattle.desk_history.specs.Calls.{History, Item}
use Rattle.desk_history.specs.Runs.{is_legal}
use Rattle.desk_history.specs.Tables.{Tables, tables}
use Rattle.desk_history.specs.Writes.{all_written}
use Rattle.desk_rules.specs.declared.view.LimitedTable.{LimitedTable}
use Rattle.desk_rules.specs.declared.view.LimitedTable.TheVariants as counted
use Rattle.desk_rules.specs.declared.view.Sizes.{Sizes}
use Rattle.desk_rules.specs.Shown.{is_table, may_put, rows_in, size_in}
use Rattle.store_decision_rows.specs.declared.sizes.known.KnownSizes.{KnownSizes}

-- the number of rows of the table, if that is known
abbrev pub known : KnownSizes → LimitedTable → Option ℕ
known k counted.People = k.people
known k counted.Requests = k.requests
known k counted.Listed = k.listed
known k counted.RevokedDigests = k.revoked_digests
known k counted.RevokedCertificates = k.revoked_certificates
known k counted.Components = k.components
known k counted.Proposals = k.proposals

-- each size that is known is that of the tables
pub record AreRight (k : KnownSizes) (t : Tables) : Type 0 where
  pub calls : (n : ℕ) → k.calls ≡ Some n → n ≡ length t.calls
  pub sizes : (table : LimitedTable) (n : ℕ) → known k table ≡ Some n → n ≡ rows_in t table

-- no size is known
pub record IsUnknown (k : KnownSizes) : Type 0 where
  pub calls : k.calls ≡ None
  pub sizes : (table : LimitedTable) → known k table ≡ None

-- the sizes are the same, except for how many calls there are
abbrev pub HaveSameRows : KnownSizes → KnownSizes → Type 0
HaveSameRows a b = (table : LimitedTable) → known a table ≡ known b table

-- the sizes are the same, except for that of this table
pub record HaveSameOthers (table : LimitedTable) (a b : KnownSizes) : Type 0 where
  pub calls : a.calls ≡ b.calls
  pub others : (other : LimitedTable) → IsTrue (not (is_table table other)) → known a other ≡ known b other

-- the sizes that are known before are known after
pub record KnowsNoLess (before after : KnownSizes) : Type 0 where
  pub calls : IsTrue (is_some before.calls) → IsTrue (is_some after.calls)
  pub sizes : (table : LimitedTable) → IsTrue (is_some (known before table)) → IsTrue (is_some (known after table))

-- each size is known
pub record AreAllKnown (k : KnownSizes) : Type 0 where
  pub calls : IsTrue (is_some k.calls)
  pub sizes : (table : LimitedTable) → IsTrue (is_some (known k table))

-- each size is that of the tables
pub record AreSizesOf (s : Sizes) (t : Tables) : Type 0 where
  pub calls : s.calls ≡ length t.calls
  pub sizes : (table : LimitedTable) → size_in s table ≡ rows_in t table

-- the tables of the history with this item, but for the row that says how many calls were accepted by
-- the first rules, which no command writes
abbrev pub but_migrated : List ℕ → History → Item → Tables
but_migrated owner cs i = record (tables owner (i ∷ cs)) { migrated = (tables owner cs).migrated }

-- If the sizes are right for the tables before a call that either rules accept, those after are right
-- for the tables that any writes of its command make, and none is lost.
abbrev pub Follows : KnownSizes → Command → List Write → KnownSizes → Type 0
Follows before command ws after =
    (owner : List ℕ) (cs : History) (i : Item) → IsTrue (is_legal (i ∷ cs)) → i.call.command ≡ command
    → all_written ws (tables owner cs) ≡ but_migrated owner cs i
    → AreRight before (tables owner cs) → AreRight after (tables owner (i ∷ cs)) × KnowsNoLess before after

-- the sizes that a command needs are known
pub record AreEnough (k : KnownSizes) (command : Command) : Type 0 where
  pub calls : IsTrue (is_some k.calls)
  pub sizes : (table : LimitedTable) → IsTrue (may_put command table) → IsTrue (is_some (known k table))

-- the sizes give a command those of the tables that it needs
pub record Tell (s : Sizes) (t : Tables) (command : Command) : Type 0 where
  pub calls : s.calls ≡ length t.calls
  pub sizes : (table : LimitedTable) → IsTrue (may_put command table) → size_in s table ≡ rows_in t table

-- the known sizes, if they are right for some tables and enough for a command, give it those that
-- it needs
abbrev pub TellWhatIsKnown : KnownSizes → Sizes → Type 0
TellWhatIsKnown k s = (t : Tables) (command : Command) → AreRight k t → AreEnough k command → Tell s t command
