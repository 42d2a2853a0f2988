-- Decisions by the first rules, by which one officer alone revokes and raises.
use Rattle.std.specs.Prelude.{◌≡◌, ◌⊎◌, ℕ, Bool, true, false, List, [], Result, MatchResult, IsTrue, is_some}
use Rattle.std.specs.List.{list_all}
use Rattle.base.specs.declared.refusal.Refusal.{Refusal}
use Rattle.base.specs.declared.refusal.Refusal.TheVariants as refusals
use Rattle.desk_types.specs.declared.command.Call.{Call}
use Rattle.desk_history.specs.Calls.{First, History, is_first, under}
use Rattle.desk_history.specs.Proposals.{named_by}
use Rattle.desk_history.specs.Runs.{is_legal, next_item, ruling}
use Rattle.desk_history.specs.Tables.{Tables, tables}
use Rattle.desk_history.specs.Writes.{all_written}
use Rattle.desk_history.specs.declared.answer.Answer.TheVariants.{Accepted, Refused, Repeated}
use Rattle.desk_rules.specs.declared.view.Changes.{Changes}
use Rattle.desk_rules.specs.declared.view.LimitedTable.{LimitedTable}
use Rattle.desk_rules.specs.declared.view.LimitedTable.TheVariants as counted
use Rattle.desk_rules.specs.declared.view.View.{View}
use Rattle.desk_rules.specs.Shown.{Shows, rows_in, size_in}

-- entries that are put into force are rows of this table
abbrev pub is_forced : LimitedTable → Bool
is_forced counted.RevokedDigests = true
is_forced counted.RevokedCertificates = true
is_forced counted.Components = true
is_forced counted.People = false
is_forced counted.Requests = false
is_forced counted.Listed = false
is_forced counted.Proposals = false

-- The view shows these of the tables for a call by the first rules: what it shows for any call, and
-- for a command that names entries also how many rows each table has into which they are put.
pub record ShowsToFirst (v : View) (t : Tables) (c : Call) : Type 0 where
  pub call : Shows v t c
  pub sizes : (table : LimitedTable) → IsTrue (is_some (named_by c.command)) → IsTrue (is_forced table)
      → size_in v.sizes table ≡ rows_in t table

-- the answer by the first rules to the call after this history, and the tables of the history that
-- it leaves, but for the row that says how many calls were accepted by the first rules
pub record DecidesFirst (changes : Changes) (owner : List ℕ) (cs : History) (c : Call) : Type 0 where
  pub told : (ruling cs (under First c) ≡ Accepted changes.reply)
      ⊎ ((ruling cs (under First c) ≡ Repeated changes.reply) × (changes.writes.items ≡ []))
  pub made : all_written changes.writes.items (tables owner cs)
      ≡ record (tables owner (next_item cs (under First c))) { migrated = (tables owner cs).migrated }

-- the call gets this refusal by the first rules, or memory ran out
abbrev pub RefusesFirst : Refusal → History → Call → Type 0
RefusesFirst refusal cs c = (ruling cs (under First c) ≡ Refused refusal) ⊎ (refusal ≡ refusals.NoMemory)

-- on each legal history of the first rules alone that the view shows for the call, the result is the
-- answer to it by the first rules, or memory ran out
abbrev pub DecidesFirstCall : View → Call → Result Changes Refusal → Type 0
DecidesFirstCall v c result =
    (owner : List ℕ) (cs : History) → IsTrue (is_legal cs) → IsTrue (list_all is_first cs) → ShowsToFirst v (tables owner cs) c
    → MatchResult result (λ changes. DecidesFirst changes owner cs c) (λ refusal. RefusesFirst refusal cs c)
