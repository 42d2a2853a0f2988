-- Decisions by the second rules and by the first, from those by either.
use Rattle.std.proofs.Common.{◌≡◌, ℕ, true, List, Ok, Err, Result, refl}
use Rattle.std.specs.Prelude.{MatchResult}
use Rattle.std.specs.List.{list_all}
use Rattle.base.specs.declared.refusal.Refusal.{Refusal}
use Rattle.desk_types.specs.declared.caller.Caller.{Caller}
use Rattle.desk_types.specs.declared.command.Call.{Call}
use Rattle.desk_types.specs.declared.command.Command.{Command}
use Rattle.desk_history.specs.Called.{called}
use Rattle.desk_history.specs.Calls.{First, History, Second, is_first}
use Rattle.desk_history.specs.Runs.{is_legal}
use Rattle.desk_history.specs.Tables.{tables}
use Rattle.desk_rules.specs.declared.deciding.Rules.{Rules as DecisionRules}
use Rattle.desk_rules.specs.declared.deciding.Rules.TheVariants as chosen
use Rattle.desk_rules.specs.declared.view.Changes.{Changes}
use Rattle.desk_rules.specs.declared.view.View.{View}
use Rattle.desk_rules.specs.DecisionSteps.{DecidesOwn, MatchesOwn, RefusesOwn}
use Rattle.desk_rules.specs.Decisions.{Decides, RefusesCall}
use Rattle.desk_rules.specs.First.{DecidesFirst, RefusesFirst, ShowsToFirst}
use Rattle.desk_rules.specs.FirstSteps.{DecidesOwnFirst}
use Rattle.desk_rules.specs.Ruled.{DecidesBy, DecidesOwnBy, IsStep, MatchesRuling, ShowsBy, rules_of}
use Rattle.desk_rules.specs.Shown.{Shows}
use Rattle.desk_rules.proofs.RoomByRules.{room_is}

module _ (v : View) (owner : List ℕ) (cs : History) (c : Call) where
  shows_second : Shows v (tables owner cs) c → ShowsBy Second v owner cs c
  shows_second shown = record { call = shown; first = λ e. cc }

  shows_first : list_all is_first cs ≡ true → ShowsToFirst v (tables owner cs) c → ShowsBy First v owner cs c
  shows_first first shown = record { call = shown.call; first = λ e. (first, shown) }

  -- what a command does by the second rules has room where the history with its call is within the
  -- limits
  second_step : (result : Result Changes Refusal) → is_legal cs ≡ true → Shows v (tables owner cs) c → MatchesOwn owner cs c result
      → MatchResult result (λ changes. IsStep Second v changes owner cs c) (λ r. RefusesOwn r cs c)
  second_step (Ok changes) legal shown makes = record {
    accepted = makes.accepted;
    replied = makes.replied;
    made = makes.made;
    room = room_is v.sizes owner cs c changes.writes.items shown.count shown.sizes legal makes.made makes.listed;
  }
  second_step (Err r) legal shown why = why

  -- a ruling by the second rules is the answer
  answers : (result : Result Changes Refusal) → MatchesRuling Second owner cs c result → MatchResult result (λ changes. Decides changes owner cs c) (λ r. RefusesCall r cs c)
  answers (Ok changes) h = record { told = h.told; made = h.made }
  answers (Err r) h = h

  pub by_second : (result : Result Changes Refusal) → DecidesBy Second v c result → is_legal cs ≡ true → Shows v (tables owner cs) c
      → MatchResult result (λ changes. Decides changes owner cs c) (λ r. RefusesCall r cs c)
  by_second result told legal shown = answers result (told owner cs legal (shows_second shown))

  answers_first : (result : Result Changes Refusal) → MatchesRuling First owner cs c result → MatchResult result (λ changes. DecidesFirst changes owner cs c) (λ r. RefusesFirst r cs c)
  answers_first (Ok changes) h = record { told = h.told; made = h.made }
  answers_first (Err r) h = h

  pub by_first : (result : Result Changes Refusal) → DecidesBy First v c result → is_legal cs ≡ true → list_all is_first cs ≡ true → ShowsToFirst v (tables owner cs) c
      → MatchResult result (λ changes. DecidesFirst changes owner cs c) (λ r. RefusesFirst r cs c)
  by_first result told legal first shown = answers_first result (told owner cs legal (shows_first first shown))

module _ (v : View) (caller : Caller) (key : List ℕ) (command : Command) (result : Result Changes Refusal) where
  -- by the chosen rules a command does what it does by those
  pub chosen_first : (r : DecisionRules) → r ≡ chosen.First → DecidesOwnFirst v caller command result → DecidesOwnBy (rules_of r) v (called caller key command) result
  chosen_first chosen.First is told owner cs legal shown = let first = shown.first refl in told owner cs key legal first.0 first.1
  chosen_first chosen.Second is told owner cs legal shown = cc

  pub chosen_second : (r : DecisionRules) → r ≡ chosen.Second → DecidesOwn v caller command result → DecidesOwnBy (rules_of r) v (called caller key command) result
  chosen_second chosen.First is told owner cs legal shown = cc
  chosen_second chosen.Second is told owner cs legal shown = second_step v owner cs (called caller key command) result legal shown.call (told owner cs key legal shown.call)
