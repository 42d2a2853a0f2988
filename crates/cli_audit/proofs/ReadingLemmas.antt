-- A desk that is only read.
use Rattle.std.proofs.Common.{◌≡◌, ◌≢◌, Result, Ok, Err, ap, arith, inl, inr}
use Rattle.sqlite.specs.Held.{state}
use Rattle.sqlite.specs.State.{HasCleanDisk}
use Rattle.sqlite.specs.Store.{Ghosts}
use Rattle.base.specs.declared.refusal.Refusal.{Refusal}
use Rattle.base.specs.declared.refusal.Refusal.TheVariants as refusals
use Rattle.store_schema.specs.rows.Histories.{LeavesHistory}
use Rattle.store_desk.specs.Desks.{ForEachShown, KeepsDesk}
use Rattle.store_desk.specs.Exports.{SparesDesk}
use Rattle.store_desk.specs.declared.desk.Desk.{Desk}

module _ {S : Type 0} (g : Ghosts S) where
  -- a stop leaves what it showed
  pub spared : (old new : Desk S) → SparesDesk g old new → ForEachShown g old (LeavesHistory (state g new.conn))
  spared old new spares owner cs was clean db may =
      let it = spares owner cs was in
      let before : HasCleanDisk (state g old.conn) = omega (arith, it.clean, clean) in
      elim (it.crash clean db may) [ inl left ↦ was.left before db left | inr none ↦ absurd none ]

  -- the same after a step that keeps what it shows
  pub kept : (old mid new : Desk S) → (HasCleanDisk (state g new.conn) → HasCleanDisk (state g mid.conn)) → (HasCleanDisk (state g mid.conn) → KeepsDesk g old mid)
      → ForEachShown g mid (LeavesHistory (state g new.conn)) → ForEachShown g old (LeavesHistory (state g new.conn))
  kept old mid new clean keeps left owner cs was after db may = left owner cs (keeps (clean after) owner cs was) after db may

-- a fault isn't Store, whatever the type of the result
pub not_store : {A B : Type 0} (refusal : Refusal) → ◌≢◌ {A = Result A Refusal} (Err refusal) (Err refusals.Store)
    → ◌≢◌ {A = Result B Refusal} (Err refusal) (Err refusals.Store)
not_store refusal other e = other (let same : refusal ≡ refusals.Store = cc in ap Err same)

pub no_store : {A : Type 0} (a : A) → ◌≢◌ {A = Result A Refusal} (Ok a) (Err refusals.Store)
no_store a e = cc
