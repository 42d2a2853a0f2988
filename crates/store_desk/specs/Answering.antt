-- The histories that a stop leaves of a desk in a store, in the words of any desk that answers calls.
use Rattle.std.proofs.Common.{inl}
use Rattle.std.specs.Prelude.{◌⊎◌, ℕ, List}
use Rattle.sqlite.specs.Store.{Ghosts}
use Rattle.sqlite.specs.Held.{state}
use Rattle.sqlite.specs.State.{State}
use Rattle.desk_history.specs.Calls.{History}
use Rattle.desk_history.specs.Formed.{IsHistory}
use Rattle.store_sql.specs.States.{Leaves}
use Rattle.store_schema.specs.rows.Histories.{HoldsHistory}
use Rattle.store_desk.specs.Desks.{ShowsDesk}
use Rattle.store_desk.specs.declared.desk.Desk.{Desk}

-- A desk may have these two histories, and a stop leaves the tables of one of them.
pub record LeavesOne (s : State) (owner : List ℕ) (before after : History) : Type 0 where
  pub first : IsHistory before
  pub next : IsHistory after
  pub left : Leaves s (λ db. HoldsHistory db owner before ⊎ HoldsHistory db owner after)

-- a stop leaves what the desk shows
pub rests_one : {S : Type 0} {g : Ghosts S} {desk : Desk S} {owner : List ℕ} {cs : History} → ShowsDesk g desk owner cs → LeavesOne (state g desk.conn) owner cs cs
rests_one was = record { first = was.history; next = was.history; left = λ clean db may. inl (was.left clean db may) }
