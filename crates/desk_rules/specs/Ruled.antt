-- Words of a decision by either rules, which private functions cite.
use Rattle.std.specs.Prelude.{◌≡◌, ◌⊎◌, ℕ, List, [], ◌∷◌, None, Result, MatchResult, IsTrue}
use Rattle.std.specs.List.{list_all}
use Rattle.base.specs.declared.refusal.Refusal.{Refusal}
use Rattle.base.specs.declared.refusal.Refusal.TheVariants as refusals
use Rattle.desk_types.specs.Callers.{caller_name}
use Rattle.desk_types.specs.declared.command.Call.{Call}
use Rattle.desk_history.specs.Calls.{First, History, Rules, Second, is_first, under}
use Rattle.desk_history.specs.Limits.{is_within}
use Rattle.desk_history.specs.Refusals.{own_refusal}
use Rattle.desk_history.specs.Replies.{minutes, reply_to}
use Rattle.desk_history.specs.Runs.{is_legal, next_item, ruling}
use Rattle.desk_history.specs.Tables.{MigratedRow, Tables, tables}
use Rattle.desk_history.specs.Writes.{all_written}
use Rattle.desk_history.specs.declared.answer.Answer.TheVariants.{Accepted, Refused, Repeated}
use Rattle.desk_rules.specs.declared.deciding.Rules.{Rules as DecisionRules}
use Rattle.desk_rules.specs.declared.deciding.Rules.TheVariants as chosen
use Rattle.desk_rules.specs.declared.view.Changes.{Changes}
use Rattle.desk_rules.specs.declared.view.View.{View}
use Rattle.desk_rules.specs.DecisionSteps.{RefusesOwn}
use Rattle.desk_rules.specs.First.{ShowsToFirst}
use Rattle.desk_rules.specs.Room.{has_room}
use Rattle.desk_rules.specs.Shown.{Shows}

-- an item that is accepted by the chosen rules has these
abbrev pub rules_of : DecisionRules → Rules
rules_of chosen.First = First
rules_of chosen.Second = Second

-- the view shows the history for the call by these rules; the first rules decide on a history of
-- their own alone
pub record ShowsBy (rules : Rules) (v : View) (owner : List ℕ) (cs : History) (c : Call) : Type 0 where
  pub call : Shows v (tables owner cs) c
  pub first : rules ≡ First → IsTrue (list_all is_first cs) × ShowsToFirst v (tables owner cs) c

-- the rows of `migrated` that a decision by these rules after the history `cs` leaves, if `next` is
-- the history then: a decision by the first rules leaves them as they are
abbrev pub migrated_by : Rules → List ℕ → History → History → List MigratedRow
migrated_by First owner cs next = (tables owner cs).migrated
migrated_by Second owner cs next = (tables owner next).migrated

-- the tables that the decision leaves
abbrev pub tables_by : Rules → List ℕ → History → History → Tables
tables_by rules owner cs next = record (tables owner next) { migrated = migrated_by rules owner cs next }

-- The command's own conditions accept it, with this reply by these rules, and the writes make the
-- tables of the history with the call, except for the call's own row. The view's sizes have room for
-- them where the history with the call is within the limits.
pub record IsStep (rules : Rules) (v : View) (changes : Changes) (owner : List ℕ) (cs : History) (c : Call) : Type 0 where
  pub accepted : own_refusal cs (caller_name c.caller) c.command ≡ None
  pub replied : changes.reply ≡ reply_to cs (under rules c)
  pub made : all_written changes.writes.items (tables owner cs) ≡ record (tables_by rules owner cs (under rules c ∷ cs)) { calls = minutes cs }
  pub room : has_room v.sizes changes.writes.items ≡ is_within (under rules c ∷ cs)

-- on each legal history that the view shows for the call by these rules, the result agrees with the
-- command's own conditions and with what it writes
abbrev pub DecidesOwnBy : Rules → View → Call → Result Changes Refusal → Type 0
DecidesOwnBy rules v c result =
    (owner : List ℕ) (cs : History) → IsTrue (is_legal cs) → ShowsBy rules v owner cs c
    → MatchResult result (λ changes. IsStep rules v changes owner cs c) (λ refusal. RefusesOwn refusal cs c)

-- what the call gets by these rules, and the tables of the history that it leaves
pub record IsRuled (rules : Rules) (changes : Changes) (owner : List ℕ) (cs : History) (c : Call) : Type 0 where
  pub told : (ruling cs (under rules c) ≡ Accepted changes.reply) ⊎ ((ruling cs (under rules c) ≡ Repeated changes.reply) × (changes.writes.items ≡ []))
  pub made : all_written changes.writes.items (tables owner cs) ≡ tables_by rules owner cs (next_item cs (under rules c))

-- the call gets this refusal by these rules, or memory ran out
abbrev pub RefusedBy : Rules → Refusal → History → Call → Type 0
RefusedBy rules refusal cs c = (ruling cs (under rules c) ≡ Refused refusal) ⊎ (refusal ≡ refusals.NoMemory)

-- the result is what the call gets by these rules, or memory ran out
abbrev pub MatchesRuling : Rules → List ℕ → History → Call → Result Changes Refusal → Type 0
MatchesRuling rules owner cs c result = MatchResult result (λ changes. IsRuled rules changes owner cs c) (λ r. RefusedBy rules r cs c)

-- the same on each legal history that the view shows for the call by these rules
abbrev pub DecidesBy : Rules → View → Call → Result Changes Refusal → Type 0
DecidesBy rules v c result =
    (owner : List ℕ) (cs : History) → IsTrue (is_legal cs) → ShowsBy rules v owner cs c → MatchesRuling rules owner cs c result
