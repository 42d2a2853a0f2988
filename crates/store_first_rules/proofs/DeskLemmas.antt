-- A desk of the first rules, before a call and after it.
use Rattle.std.proofs.Common.{◌≡◌, inl, inr, ℕ, List, ◌∷◌, arith, Some}
use Rattle.sqlite.specs.Held.{state}
use Rattle.sqlite.specs.State.{HasCleanDisk, State, Survives}
use Rattle.sqlite.specs.Tree.{Trees}
use Rattle.sqlite.specs.Store as store
use Rattle.desk_types.specs.declared.command.Call.{Call}
use Rattle.desk_types.specs.declared.reply.Reply.{Reply}
use Rattle.desk_history.specs.Calls.{History}
use Rattle.store_schema.specs.rows.Histories.{HoldsHistory, ShowsHistory}
use Rattle.store_sql.specs.States.{Leaves}
use Rattle.store_desk.specs.Desks.{ShowsDesk}
use Rattle.store_desk.specs.declared.desk.Desk.{Desk}
use Rattle.store_first_rules.specs.Acts.{FirstPast, LeavesFollowed}
use Rattle.store_first_rules.specs.Desks.{MayStopFirst, KeepsFirst, ShowsFirstDesk}
use Rattle.store_first_rules.specs.Pasts.{TellsPast}
use Rattle.store_first_rules.specs.declared.desk.FirstDesk.{FirstDesk}

-- a call that commits nothing leaves what may be left before
pub still_leaves : (P : Trees → Type 0) (old new : State) → Survives old new (λ _. ⊥) → Leaves old P → Leaves new P
still_leaves P old new spared left clean db may = elim (spared.crash clean db may) [
  | inl was ↦ left (omega (arith, spared.clean, clean)) db was
  | inr none ↦ absurd none
]

module _ {S : Type 0} (g : store.Ghosts S) where
  -- the history that the desk shows
  abbrev pub past_of : (desk : FirstDesk S) (owner : List ℕ) (cs : History) → ShowsFirstDesk g desk owner cs → FirstPast desk.remembered
  past_of desk owner cs was = record { owner = owner; calls = cs; history = was.history; first = was.first; right = was.remembered; known = was.known }

  module _ (old new : FirstDesk S) where
    -- whatever the call's result, a stop leaves the history before it or the one with it
    pub stopped : (c : Call) (reply : Reply) → Survives (state g old.conn) (state g new.conn) (LeavesFollowed (state g old.conn) old.remembered c reply) → MayStopFirst g old new c reply
    stopped c reply s owner cs was clean db may = elim (s.crash clean db may) [
      | inl before ↦ inl (was.left (omega (arith, s.clean, clean)) db before)
      | inr left ↦ inr (left (past_of old owner cs was) was.shows)
    ]

  -- a call that isn't followed changes nothing
  pub keeps : (old new : FirstDesk S) → Survives (state g old.conn) (state g new.conn) (λ _. ⊥)
      → ((owner : List ℕ) (cs : History) → ShowsHistory (state g old.conn) owner cs → ShowsHistory (state g new.conn) owner cs)
      → new.remembered ≡ old.remembered → KeepsFirst g old new
  keeps old new s same remembered owner cs was = record {
    history = was.history;
    first = was.first;
    shows = same owner cs was.shows;
    remembered = rw remembered was.remembered;
    known = rw remembered was.known;
    left = still_leaves (λ db. HoldsHistory db owner cs) (state g old.conn) (state g new.conn) s was.left;
  }

  -- a desk whose calls were all accepted by the first rules
  pub resumes : (old : Desk S) (new : FirstDesk S) → Survives (state g old.conn) (state g new.conn) (λ _. ⊥) → TellsPast (state g old.conn) (Some new.remembered)
      → ((owner : List ℕ) (cs : History) → ShowsHistory (state g old.conn) owner cs → ShowsHistory (state g new.conn) owner cs)
      → (owner : List ℕ) (cs : History) → ShowsDesk g old owner cs → ShowsFirstDesk g new owner cs
  resumes old new s told same owner cs was = (let it = told owner cs was.shows in record {
    history = was.history;
    first = it.0;
    shows = same owner cs was.shows;
    remembered = it.1;
    known = it.2;
    left = still_leaves (λ db. HoldsHistory db owner cs) (state g old.conn) (state g new.conn) s was.left;
  })
