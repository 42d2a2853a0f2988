-- The history of the first rules that a store shows.
use Rattle.std.specs.Prelude.{◌≡◌, ◌≢◌, ◌⊎◌, ℕ, List, ◌∷◌, false}
use Rattle.std.specs.List.{list_all}
use Rattle.sqlite.specs.Held.{state}
use Rattle.sqlite.specs.Store.{Ghosts}
use Rattle.sqlite.specs.State.{HasCleanDisk}
use Rattle.desk_types.specs.declared.command.Call.{Call}
use Rattle.desk_types.specs.declared.reply.Reply.{Reply}
use Rattle.desk_history.specs.Calls.{First, History, is_first, under}
use Rattle.desk_history.specs.Formed.{IsHistory}
use Rattle.desk_history.specs.Runs.{ruling}
use Rattle.desk_history.specs.Tables.{tables}
use Rattle.desk_history.specs.declared.answer.Answer.TheVariants.{Accepted}
use Rattle.store_desk.specs.Desks.{ShowsDesk}
use Rattle.store_desk.specs.declared.desk.Desk.{Desk}
use Rattle.store_schema.specs.rows.Histories.{AreFirst, HoldsHistory, LeavesHistory, ShowsHistory}
use Rattle.store_sql.specs.States.{Leaves}
use Rattle.store_decision_rows.specs.remembered.Current.{IsCurrent}
use Rattle.store_decision_rows.specs.sizes.Sizes.{AreAllKnown}
use Rattle.store_first_rules.specs.declared.desk.FirstDesk.{FirstDesk}
use Rattle.store_first_rules.specs.declared.desk.Resumed.{Resumed}
use Rattle.store_first_rules.specs.declared.desk.Resumed.TheVariants as resumed

-- The store shows a desk's history whose calls were all accepted by the first rules, what the desk
-- remembers is current for its tables and has each size, and a stop leaves these tables.
pub record ShowsFirstDesk {S : Type 0} (g : Ghosts S) (desk : FirstDesk S) (owner : List ℕ) (cs : History) : Type 0 where
  pub history : IsHistory cs
  pub first : AreFirst cs
  pub shows : ShowsHistory (state g desk.conn) owner cs
  pub remembered : IsCurrent desk.remembered (tables owner cs)
  pub known : AreAllKnown desk.remembered.sizes
  pub left : LeavesHistory (state g desk.conn) owner cs

module _ {S : Type 0} (g : Ghosts S) where
  -- the call is accepted by the first rules with this reply, and joins the history
  abbrev pub AcceptsFirst : FirstDesk S → FirstDesk S → Call → Reply → Type 0
  AcceptsFirst old new c reply =
      (owner : List ℕ) (cs : History) → ShowsFirstDesk g old owner cs
      → (ruling cs (under First c) ≡ Accepted reply) × ShowsFirstDesk g new owner (under First c ∷ cs)

  -- the first rules don't accept the call with this reply
  abbrev pub GivesOther : FirstDesk S → Call → Reply → Type 0
  GivesOther desk c reply =
      (owner : List ℕ) (cs : History) → ShowsFirstDesk g desk owner cs → ruling cs (under First c) ≢ Accepted reply

  -- the desk shows the same history
  abbrev pub KeepsFirst : FirstDesk S → FirstDesk S → Type 0
  KeepsFirst old new = (owner : List ℕ) (cs : History) → ShowsFirstDesk g old owner cs → ShowsFirstDesk g new owner cs

  -- A stop after the call, whatever its result, leaves the history before it, or, if the first rules
  -- accept it with this reply, the one with it.
  abbrev pub MayStopFirst : FirstDesk S → FirstDesk S → Call → Reply → Type 0
  MayStopFirst old new c reply =
      (owner : List ℕ) (cs : History) → ShowsFirstDesk g old owner cs
      → Leaves (state g new.conn) (λ db. HoldsHistory db owner cs
      ⊎ ((ruling cs (under First c) ≡ Accepted reply) × HoldsHistory db owner (under First c ∷ cs)))

  -- The desk shows the same history: by the first rules, if all its calls were accepted by them.
  abbrev pub IsResumed : Desk S → Resumed S → Type 0
  IsResumed old (resumed.First new) =
      HasCleanDisk (state g new.conn) → (owner : List ℕ) (cs : History) → ShowsDesk g old owner cs → ShowsFirstDesk g new owner cs
  IsResumed old (resumed.Second new) =
      HasCleanDisk (state g new.conn) → (owner : List ℕ) (cs : History) → ShowsDesk g old owner cs
      → ShowsDesk g new owner cs × (list_all is_first cs ≡ false)

  -- a disk that is clean now was clean before
  abbrev pub WasClean : Desk S → Resumed S → Type 0
  WasClean old (resumed.First new) = HasCleanDisk (state g new.conn) → HasCleanDisk (state g old.conn)
  WasClean old (resumed.Second new) = HasCleanDisk (state g new.conn) → HasCleanDisk (state g old.conn)
