-- A desk that follows minutes by the first rules, and the lines that only the second give.
use Rattle.std.specs.Prelude.{◌≡◌, ◌⊎◌, ◌+◌, ℕ, List, length, true}
use Rattle.sqlite.specs.Held.{state}
use Rattle.sqlite.specs.Store.{Ghosts}
use Rattle.desk_types.specs.declared.command.Call.{Call}
use Rattle.desk_types.specs.declared.reply.Reply.{Reply}
use Rattle.desk_history.specs.Calls.{First, History}
use Rattle.desk_minutes.specs.Follows.{HasNoNext}
use Rattle.desk_minutes.specs.Lines.{IsTold, line_with}
use Rattle.desk_minutes.specs.Minuted.{is_of_second}
use Rattle.store_schema.specs.rows.Histories.{HoldsHistory}
use Rattle.store_sql.specs.States.{Leaves}
use Rattle.store_first_rules.specs.Desks.{ShowsFirstDesk}
use Rattle.store_first_rules.specs.declared.desk.FirstDesk.{FirstDesk}
use Rattle.store_minutes.specs.Following.{GoesOn}

-- The line of this number tells a reply that only the second rules give.
pub record TellsSecond (number : ℕ) (line : List ℕ) : Type 0 where
  pub call : Call
  pub reply : Reply
  pub told : IsTold call reply
  pub is : line ≡ line_with number call reply
  pub second : is_of_second reply ≡ true

module _ {S : Type 0} (g : Ghosts S) where
  -- each history that the desk shows goes on with the line of this number, by the first rules
  abbrev pub GoesOnByFirst : FirstDesk S → FirstDesk S → ℕ → List ℕ → Type 0
  GoesOnByFirst old new number line =
      (owner : List ℕ) (cs : History) → ShowsFirstDesk g old owner cs → number ≡ length cs + 1
      → GoesOn First (ShowsFirstDesk g new owner) cs line

  -- As the line of this number, it may be followed by the first rules: a stop leaves the history
  -- before it, or the one with its call.
  abbrev pub MayStopOnFirst : FirstDesk S → FirstDesk S → ℕ → List ℕ → Type 0
  MayStopOnFirst old new number line =
      (owner : List ℕ) (cs : History) → ShowsFirstDesk g old owner cs → number ≡ length cs + 1
      → Leaves (state g new.conn) (λ db. HoldsHistory db owner cs ⊎ GoesOn First (HoldsHistory db owner) cs line)

  -- as the line of this number, it is that of no call that may come next, by either rules
  abbrev pub EndsBeforeBoth : FirstDesk S → ℕ → List ℕ → Type 0
  EndsBeforeBoth desk number line =
      (owner : List ℕ) (cs : History) → ShowsFirstDesk g desk owner cs → number ≡ length cs + 1 → HasNoNext cs line
