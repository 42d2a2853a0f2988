-- The effect of a call by the first rules on the tables: inside its transaction, and as a whole.
use Rattle.std.specs.Prelude.{◌≡◌, ◌≢◌, ℕ, List, ◌∷◌, false, Option, Some, None, IsTrue}
use Rattle.std.specs.List.{list_all}
use Rattle.sqlite.specs.State.{State}
use Rattle.sqlite.specs.Tree.{Trees}
use Rattle.desk_types.specs.declared.command.Call.{Call}
use Rattle.desk_types.specs.declared.reply.Reply.{Reply}
use Rattle.desk_history.specs.Calls.{First, History, is_first, under}
use Rattle.desk_history.specs.Formed.{IsHistory}
use Rattle.desk_history.specs.Runs.{is_accepted, is_legal, ruling}
use Rattle.desk_history.specs.Tables.{tables}
use Rattle.desk_history.specs.Writes.{all_written}
use Rattle.desk_history.specs.declared.answer.Answer.TheVariants.{Accepted}
use Rattle.desk_rules.specs.First.{ShowsToFirst}
use Rattle.desk_rules.specs.declared.view.Changes.{Changes}
use Rattle.desk_rules.specs.declared.view.View.{View}
use Rattle.store_sql.specs.Contents.{Contents}
use Rattle.store_sql.specs.States.{Sees, Turns}
use Rattle.store_schema.specs.Tables.{desk_layout}
use Rattle.store_schema.specs.rows.Histories.{AreFirst, HoldsHistory, ShowsHistory, rows_of}
use Rattle.store_decision_rows.specs.declared.remembered.Remembered.{Remembered}
use Rattle.store_decision_rows.specs.remembered.Current.{IsCurrent}
use Rattle.store_decision_rows.specs.sizes.Sizes.{AreAllKnown, but_migrated}

-- A history of the first rules that the tables may represent, with the desk's owner: a desk may have
-- it, and what is remembered is current for its tables and has each size.
pub record FirstPast (r : Remembered) : Type 0 where
  pub owner : List ℕ
  pub calls : History
  pub history : IsHistory calls
  pub first : AreFirst calls
  pub right : IsCurrent r (tables owner calls)
  pub known : AreAllKnown r.sizes

-- its rows
abbrev pub before : (r : Remembered) → FirstPast r → Contents
before r p = rows_of p.owner p.calls

-- the rows of the history with the call
abbrev pub after : (r : Remembered) → Call → FirstPast r → Contents
after r c p = rows_of p.owner (under First c ∷ p.calls)

-- ---- the decision

-- the call is accepted with the reply, and its writes make the next history's tables, but for the
-- count of calls
pub record AcceptsWith (changes : Changes) (owner : List ℕ) (cs : History) (c : Call) : Type 0 where
  pub accepted : ruling cs (under First c) ≡ Accepted changes.reply
  pub made : all_written changes.writes.items (tables owner cs) ≡ but_migrated owner cs (under First c)

-- so it is on each legal history of the first rules alone that the view shows for the call
abbrev pub Accepts : View → Call → Changes → Type 0
Accepts v c changes =
    (owner : List ℕ) (cs : History) → IsTrue (is_legal cs) → IsTrue (list_all is_first cs) → ShowsToFirst v (tables owner cs) c
    → AcceptsWith changes owner cs c

-- on each of them the call isn't accepted
abbrev pub AcceptsNot : View → Call → Type 0
AcceptsNot v c =
    (owner : List ℕ) (cs : History) → IsTrue (is_legal cs) → IsTrue (list_all is_first cs) → ShowsToFirst v (tables owner cs) c
    → is_accepted (ruling cs (under First c)) ≡ false

-- ---- the call

-- the call isn't accepted by the first rules with this reply
abbrev pub IsOther : {r : Remembered} → Call → Reply → FirstPast r → Type 0
IsOther c reply p = ruling p.calls (under First c) ≢ Accepted reply

-- the call is accepted with the reply, and what is remembered is current for the next history's tables
-- and has each size
pub record IsFollowed {r : Remembered} (c : Call) (reply : Reply) (later : Remembered) (p : FirstPast r) : Type 0 where
  pub accepted : ruling p.calls (under First c) ≡ Accepted reply
  pub right : IsCurrent later (tables p.owner (under First c ∷ p.calls))
  pub known : AreAllKnown later.sizes

-- inside a transaction the tables turn into those of the next history, and the call is accepted
pub record FollowsInside (r : Remembered) (c : Call) (reply : Reply) (later : Remembered) (old new : State) : Type 0 where
  pub turned : Turns desk_layout (before r) (after r c) old new
  pub answered : (p : FirstPast r) → Sees desk_layout old (before r p) → IsFollowed c reply later p

-- it is followed inside a transaction, or isn't accepted with this reply
abbrev pub ActsFirst : Remembered → Call → Reply → Option Remembered → State → State → Type 0
ActsFirst r c reply (Some later) old new = FollowsInside r c reply later old new
ActsFirst r c reply None old new = (p : FirstPast r) → Sees desk_layout old (before r p) → IsOther c reply p

-- the same for the connection outside, which is open after a call that was followed
pub record FollowsOutside (r : Remembered) (c : Call) (reply : Reply) (later : Remembered) (old new : State) : Type 0 where
  pub is_open : IsTrue new.is_open
  pub answered : (p : FirstPast r) → ShowsHistory old p.owner p.calls → IsFollowed c reply later p
  pub shown : (p : FirstPast r) → ShowsHistory old p.owner p.calls → ShowsHistory new p.owner (under First c ∷ p.calls)

-- it is followed, or isn't accepted with this reply
abbrev pub RunsFirst : Remembered → Call → Reply → Option Remembered → State → State → Type 0
RunsFirst r c reply (Some later) old new = FollowsOutside r c reply later old new
RunsFirst r c reply None old new = (p : FirstPast r) → ShowsHistory old p.owner p.calls → IsOther c reply p

-- only a call that is followed leaves anything else: the next history's tables
abbrev pub LeavesFollowed : State → Remembered → Call → Reply → Trees → Type 0
LeavesFollowed old r c reply db =
    (p : FirstPast r) → ShowsHistory old p.owner p.calls
    → (ruling p.calls (under First c) ≡ Accepted reply) × HoldsHistory db p.owner (under First c ∷ p.calls)
