-- The conditions on a decision over a view of the tables.
use Rattle.std.specs.Prelude.{◌≡◌, ◌⊎◌, ℕ, List, [], Result, MatchResult, IsTrue}
use Rattle.base.specs.declared.refusal.Refusal.{Refusal}
use Rattle.base.specs.declared.refusal.Refusal.TheVariants as refusals
use Rattle.desk_types.specs.declared.command.Call.{Call}
use Rattle.desk_history.specs.Calls.{History}
use Rattle.desk_history.specs.Tables.{tables}
use Rattle.desk_history.specs.Writes.{all_written}
use Rattle.desk_history.specs.declared.answer.Answer.TheVariants.{Accepted, Refused, Repeated}
use Rattle.desk_rules.specs.declared.view.Changes.{Changes}
use Rattle.desk_rules.specs.declared.view.View.{View}
use Rattle.desk_history.specs.Runs.{answer, is_legal, next}
use Rattle.desk_rules.specs.Shown.{Shows}

-- the answer to the call after this history, and the tables of the history that it leaves
pub record Decides (changes : Changes) (owner : List ℕ) (cs : History) (c : Call) : Type 0 where
  pub told : (answer cs c ≡ Accepted changes.reply) ⊎ ((answer cs c ≡ Repeated changes.reply) × (changes.writes.items ≡ []))
  pub made : all_written changes.writes.items (tables owner cs) ≡ tables owner (next cs c)

-- the call gets this refusal, or memory ran out
abbrev pub RefusesCall : Refusal → History → Call → Type 0
RefusesCall refusal cs c = (answer cs c ≡ Refused refusal) ⊎ (refusal ≡ refusals.NoMemory)

-- on each legal history that the view shows for the call, the result is the answer to it, or memory
-- ran out
abbrev pub DecidesCall : View → Call → Result Changes Refusal → Type 0
DecidesCall v c result =
    (owner : List ℕ) (cs : History) → IsTrue (is_legal cs) → Shows v (tables owner cs) c
    → MatchResult result (λ changes. Decides changes owner cs c) (λ refusal. RefusesCall refusal cs c)
