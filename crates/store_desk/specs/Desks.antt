-- The history that a desk shows, and that a stop leaves of it.
use Rattle.std.specs.Prelude.{◌≡◌, ◌≢◌, ◌⊎◌, ℕ, List, Result, Err, Some, false, true, IfErr, IsErrOf, IsTrue}
use Rattle.sqlite.specs.Store.{Ghosts}
use Rattle.sqlite.specs.Held.{state}
use Rattle.sqlite.specs.State.{HasCleanDisk}
use Rattle.base.specs.declared.refusal.Refusal.{Refusal}
use Rattle.base.specs.declared.refusal.Refusal.TheVariants as refusals
use Rattle.desk_types.specs.declared.command.Call.{Call}
use Rattle.desk_types.specs.declared.reply.Reply.{Reply}
use Rattle.desk_history.specs.Calls.{History}
use Rattle.desk_history.specs.DecisionRefusals.{may_answer}
use Rattle.desk_history.specs.Formed.{IsHistory}
use Rattle.desk_history.specs.Runs.{answer, is_accepted, next, reply_in}
use Rattle.desk_history.specs.Tables.{tables}
use Rattle.desk_history.specs.declared.answer.Answer.{Answer}
use Rattle.desk_history.specs.declared.answer.Answer.TheVariants.{Refused}
use Rattle.store_decision_rows.specs.remembered.Current.{IsCurrent}
use Rattle.store_sql.specs.States.{Leaves, Spares}
use Rattle.store_desk.specs.declared.desk.Desk.{Desk}
use Rattle.store_schema.specs.rows.Histories.{HoldsLeft, LeavesHistory, ShowsHistory}

-- The desk answers for a history: a desk may have it, the connection shows its tables, the desk's
-- owner is right, what it remembers is current for them, and a stop leaves these tables.
pub record ShowsDesk {S : Type 0} (g : Ghosts S) (desk : Desk S) (owner : List ℕ) (cs : History) : Type 0 where
  pub usable : desk.needs_reopening ≡ false
  pub history : IsHistory cs
  pub shows : ShowsHistory (state g desk.conn) owner cs
  pub own : desk.owner ≡ owner
  pub remembered : IsCurrent desk.remembered (tables owner cs)
  pub left : LeavesHistory (state g desk.conn) owner cs

-- this holds of each owner and history that the desk shows
abbrev pub ForEachShown : {S : Type 0} → Ghosts S → Desk S → (List ℕ → History → Type 0) → Type 0
ForEachShown g desk told = (owner : List ℕ) (cs : History) → ShowsDesk g desk owner cs → told owner cs

module _ {S : Type 0} (g : Ghosts S) (old new : Desk S) where
  -- This is the answer to the call, and the desk shows the history after it.
  abbrev pub IsAnswered : Call → Answer → Type 0
  IsAnswered c given =
      (owner : List ℕ) (cs : History) → ShowsDesk g old owner cs
      → (answer cs c ≡ given) × ShowsDesk g new owner (next cs c)

  -- Ok: the reply is the answer to the call, and the desk shows the history after it.
  abbrev pub Replies : Call → Reply → Type 0
  Replies c reply =
      (owner : List ℕ) (cs : History) → ShowsDesk g old owner cs
      → (reply_in (answer cs c) ≡ Some reply) × ShowsDesk g new owner (next cs c)

  -- After any refusal except `Store` the desk shows the same history. Except for `NoMemory`, the
  -- refusal is the answer to the call.
  abbrev pub Refuses : Call → Refusal → Type 0
  Refuses c refusal =
      refusal ≢ refusals.Store → (owner : List ℕ) (cs : History) → ShowsDesk g old owner cs
      → (refusal ≢ refusals.NoMemory → answer cs c ≡ Refused refusal) × ShowsDesk g new owner cs

  -- The desk shows the same history.
  abbrev pub KeepsDesk : Type 0
  KeepsDesk = (owner : List ℕ) (cs : History) → ShowsDesk g old owner cs → ShowsDesk g new owner cs

  -- A stop after the call, whatever its result, leaves the history before the call or the one after
  -- it.
  abbrev pub MayStop : Call → Type 0
  MayStop c =
      (owner : List ℕ) (cs : History) → ShowsDesk g old owner cs
      → Leaves (state g new.conn) (λ db. HoldsLeft db owner cs c)

  -- A repeated call and a refused one commit nothing.
  abbrev pub CommitsOnlyAccepted : Call → Type 0
  CommitsOnlyAccepted c =
      (owner : List ℕ) (cs : History) → ShowsDesk g old owner cs → is_accepted (answer cs c) ≡ false
      → Spares g old.conn new.conn

-- the refusals that a call may get: those of a decision, `NoMemory` among them, and the store's
abbrev pub IsCallRefusal : Refusal → Type 0
IsCallRefusal refusal = IsTrue (may_answer refusal) ⊎ (refusal ≡ refusals.Store)

-- A call that only reads. Except after `Store` the desk shows the same history; a stop leaves only
-- what it could have left before. After `Store`, and after nothing else, the desk needs to be
-- opened again, and until then a call answers `Reopen` and changes nothing. The refusals of a
-- usable desk are these.
pub record ReadsDesk {S A : Type 0} (g : Ghosts S) (may : Refusal → Type 0) (old new : Desk S) (result : Result A Refusal) : Type 0 where
  pub same : HasCleanDisk (state g new.conn) → result ≢ Err refusals.Store → KeepsDesk g old new
  pub spares : Spares g old.conn new.conn
  pub poisons : IsErrOf result refusals.Store → new.needs_reopening ≡ true
  pub steady : result ≢ Err refusals.Store → new.needs_reopening ≡ old.needs_reopening
  pub closed : old.needs_reopening ≡ true → (result ≡ Err refusals.Reopen) × (new ≡ old)
  pub named : old.needs_reopening ≡ false → IfErr result may
