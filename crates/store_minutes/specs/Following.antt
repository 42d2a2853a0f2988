-- A desk that follows minutes: its history's minutes are the lines that it was given.
use Rattle.std.specs.Prelude.{◌≡◌, ◌≢◌, ◌⊎◌, ◌+◌, ℕ, List, ◌∷◌, length, false, true}
use Rattle.sqlite.specs.Held.{state}
use Rattle.sqlite.specs.Store.{Ghosts}
use Rattle.desk_types.specs.Formed.{IsCall}
use Rattle.desk_types.specs.declared.command.Call.{Call}
use Rattle.desk_types.specs.declared.reply.Reply.{Reply}
use Rattle.desk_history.specs.Calls.{History, Rules, Second, item, under}
use Rattle.desk_history.specs.Replies.{minute_of, reply_to}
use Rattle.desk_history.specs.Runs.{answer, is_accepted, joins}
use Rattle.desk_history.specs.declared.answer.Answer.TheVariants.{Accepted}
use Rattle.desk_exports.specs.Exports.{minute_line}
use Rattle.desk_minutes.specs.Lines.{line_with}
use Rattle.store_schema.specs.rows.Histories.{HoldsHistory}
use Rattle.store_sql.specs.States.{Leaves}
use Rattle.store_desk.specs.Desks.{ForEachShown, ShowsDesk}
use Rattle.store_desk.specs.declared.desk.Desk.{Desk}

-- The line is that of a call that these rules accept next, and the history with this call is shown.
pub record GoesOn (rules : Rules) (shown : History → Type 0) (cs : History) (line : List ℕ) : Type 0 where
  pub call : Call
  pub formed : IsCall call
  pub accepted : joins cs (under rules call) ≡ true
  pub is : line ≡ minute_line (minute_of cs (under rules call))
  pub shows : shown (under rules call ∷ cs)

-- no call that these rules accept next has this line
abbrev pub HasNoneBy : Rules → History → List ℕ → Type 0
HasNoneBy rules cs line =
    (c : Call) → IsCall c → joins cs (under rules c) ≡ true → line ≢ minute_line (minute_of cs (under rules c))

-- The line tells, under this number, a call that the second rules accept next and the reply that
-- they give, and the history with this call is shown.
pub record GoesOnAs (number : ℕ) (shown : History → Type 0) (cs : History) (line : List ℕ) : Type 0 where
  pub call : Call
  pub formed : IsCall call
  pub accepted : joins cs (item call) ≡ true
  pub is : line ≡ line_with number call (reply_to cs (item call))
  pub shows : shown (item call ∷ cs)

-- it tells no such call
abbrev pub HasNoneAs : ℕ → History → List ℕ → Type 0
HasNoneAs number cs line =
    (c : Call) → IsCall c → joins cs (item c) ≡ true → line ≢ line_with number c (reply_to cs (item c))

module _ {S : Type 0} (g : Ghosts S) where
  -- the call would be accepted with this reply
  abbrev pub IsDue : Desk S → Call → Reply → Type 0
  IsDue desk c reply = ForEachShown g desk (λ owner cs. answer cs c ≡ Accepted reply)

  -- the call isn't accepted
  abbrev pub AcceptsNot : Desk S → Call → Type 0
  AcceptsNot desk c = ForEachShown g desk (λ owner cs. is_accepted (answer cs c) ≡ false)

  -- as the line of this number, so does each history that the desk shows
  abbrev pub GoesOnWith : Desk S → Desk S → ℕ → List ℕ → Type 0
  GoesOnWith old new number line =
      ForEachShown g old (λ owner cs. number ≡ length cs + 1 → GoesOn Second (ShowsDesk g new owner) cs line)

  -- As the line of this number, it may be followed: a stop leaves the history before it, or the one
  -- with its call.
  abbrev pub MayStopOnLine : Desk S → Desk S → ℕ → List ℕ → Type 0
  MayStopOnLine old new number line =
      ForEachShown g old (λ owner cs. number ≡ length cs + 1
      → Leaves (state g new.conn) (λ db. HoldsHistory db owner cs ⊎ GoesOn Second (HoldsHistory db owner) cs line))

  -- as the line of this number, it is that of no call that the second rules accept next
  abbrev pub EndsBefore : Desk S → ℕ → List ℕ → Type 0
  EndsBefore desk number line = ForEachShown g desk (λ owner cs. number ≡ length cs + 1 → HasNoneBy Second cs line)

  -- ---- the same whatever the number

  -- the line goes on so with each history that the desk shows
  abbrev pub GoesOnNumbered : Desk S → Desk S → ℕ → List ℕ → Type 0
  GoesOnNumbered old new number line = ForEachShown g old (λ owner cs. GoesOnAs number (ShowsDesk g new owner) cs line)

  -- a stop leaves the history before the line, or the one with its call
  abbrev pub MayStopNumbered : Desk S → Desk S → ℕ → List ℕ → Type 0
  MayStopNumbered old new number line =
      ForEachShown g old (λ owner cs. Leaves (state g new.conn) (λ db. HoldsHistory db owner cs ⊎ GoesOnAs number (HoldsHistory db owner) cs line))

  -- it tells no call that goes on with one
  abbrev pub EndsNumbered : Desk S → ℕ → List ℕ → Type 0
  EndsNumbered desk number line = ForEachShown g desk (λ owner cs. HasNoneAs number cs line)
