-- The effect of a call on the tables: inside its transaction, and as a whole.
use Rattle.std.specs.Prelude.{◌≡◌, true, IsTrue}
use Rattle.sqlite.specs.State.{State}
use Rattle.sqlite.specs.Tree.{Trees}
use Rattle.desk_types.specs.declared.command.Call.{Call}
use Rattle.desk_history.specs.DecisionRefusals.{may_answer}
use Rattle.desk_history.specs.Runs.{answer, is_accepted, next}
use Rattle.desk_history.specs.Tables.{tables}
use Rattle.desk_history.specs.declared.answer.Answer.{Answer}
use Rattle.desk_history.specs.declared.answer.Answer.TheVariants.{Accepted, Refused, Repeated}
use Rattle.store_decision_rows.specs.remembered.Current.{IsCurrent}
use Rattle.store_sql.specs.States.{Sees, Turns}
use Rattle.store_schema.specs.Tables.{desk_layout}
use Rattle.store_schema.specs.rows.Histories.{HoldsHistory, ShowsHistory}
use Rattle.store_decision_rows.specs.declared.remembered.Remembered.{Remembered}
use Rattle.store_desk.specs.Pasts.{Past, after, before}
use Rattle.store_desk.specs.declared.acting.Acted.{Acted}

-- the answer is that to the call after this history, and what is remembered is current for the next
-- history's tables
pub record AnswersCurrently {r : Remembered} (c : Call) (acted : Acted) (p : Past r) : Type 0 where
  pub exact : answer p.calls c ≡ acted.answer
  pub right : IsCurrent acted.remembered (tables p.owner (next p.calls c))

-- inside a transaction the tables turn into those of the next history, and the call is answered
pub record Acts (r : Remembered) (c : Call) (acted : Acted) (old new : State) : Type 0 where
  pub turned : Turns desk_layout (before r) (after r c) old new
  pub answered : (p : Past r) → Sees desk_layout old (before r p) → AnswersCurrently c acted p

-- the same for the connection outside, which is open after an accepted call
pub record Runs (r : Remembered) (c : Call) (acted : Acted) (old new : State) : Type 0 where
  pub is_open : is_accepted acted.answer ≡ true → IsTrue new.is_open
  pub answered : (p : Past r) → ShowsHistory old p.owner p.calls → AnswersCurrently c acted p
  pub shown : (p : Past r) → ShowsHistory old p.owner p.calls → ShowsHistory new p.owner (next p.calls c)

-- only an accepted call leaves anything else: the next history's tables
abbrev pub LeavesNext : State → Remembered → Call → Trees → Type 0
LeavesNext old r c db =
    (p : Past r) → ShowsHistory old p.owner p.calls
    → (is_accepted (answer p.calls c) ≡ true) × HoldsHistory db p.owner (next p.calls c)

-- a refusal that answers the call is one that a decision may give
abbrev pub IsNamed : Answer → Type 0
IsNamed (Accepted _) = Unit {0}
IsNamed (Repeated _) = Unit {0}
IsNamed (Refused refusal) = IsTrue (may_answer refusal)
