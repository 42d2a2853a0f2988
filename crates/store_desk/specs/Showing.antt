-- Readings of a desk, and their refusals.
use Rattle.std.specs.Prelude.{◌≡◌, ◌≢◌, ◌⊎◌, ℕ, List, true, Result, Ok, Err, IfErr, IfOk, IsErrOf, IsTrue}
use Rattle.sqlite.specs.Store.{Ghosts}
use Rattle.sqlite.specs.Held.{state}
use Rattle.sqlite.specs.State.{HasCleanDisk}
use Rattle.base.specs.declared.refusal.Refusal.{Refusal}
use Rattle.base.specs.declared.refusal.Refusal.TheVariants as refusals
use Rattle.desk_exports.specs.Readings.{may_refuse}
use Rattle.desk_exports.specs.declared.reading.Reading.{Reading}
use Rattle.desk_history.specs.Calls.{History}
use Rattle.store_reads.specs.Failures.{IsFailure}
use Rattle.store_desk.specs.Desks.{ForEachShown, KeepsDesk}
use Rattle.store_desk.specs.Exports.{SparesDesk}
use Rattle.store_desk.specs.declared.desk.Desk.{Desk}

-- own: the refusals of a reading: those that may be due, `NoMemory` and `Store`
abbrev pub IsReadingRefusal : Reading → Refusal → Type 0
IsReadingRefusal reading refusal = IsTrue (may_refuse reading refusal) ⊎ IsFailure refusal

-- A call that only reads, whichever way. Except after `Store` the desk shows the same history; if it
-- shows one, a stop leaves only what it could have left before. After `Store`, and after nothing else,
-- the desk needs to be opened again. The refusals are these, or `Reopen` of a desk that needs it.
pub record ReadsOnly {S A : Type 0} (g : Ghosts S) (may : Refusal → Type 0) (old new : Desk S) (result : Result A Refusal) : Type 0 where
  pub same : HasCleanDisk (state g new.conn) → result ≢ Err refusals.Store → KeepsDesk g old new
  pub spares : SparesDesk g old new
  pub clean : HasCleanDisk (state g new.conn) → HasCleanDisk (state g old.conn)
  pub poisons : IsErrOf result refusals.Store → new.needs_reopening ≡ true
  pub steady : result ≢ Err refusals.Store → new.needs_reopening ≡ old.needs_reopening
  pub named : IfErr result (λ refusal. may refusal ⊎ ((refusal ≡ refusals.Reopen) × (old.needs_reopening ≡ true)))

-- the call answers `Reopen`: the desk has to be opened again
abbrev pub IsReopened : {A : Type 0} → Result A Refusal → Type 0
IsReopened result = result ≡ Err refusals.Reopen

module _ {S A : Type 0} (g : Ghosts S) (old new : Desk S) (result : Result A Refusal) (due : List ℕ → History → Result A Refusal → Type 0) where
  -- on a clean disk, what is given is due at each history that the desk shows
  abbrev pub GivesDue : Type 0
  GivesDue = HasCleanDisk (state g new.conn) → IfOk result (λ x. ForEachShown g old (λ owner cs. due owner cs (Ok x)))

  -- and so is a refusal, unless a device failed
  abbrev pub RefusesDue : Type 0
  RefusesDue =
      HasCleanDisk (state g new.conn)
      → IfErr result (λ refusal. refusal ≢ refusals.NoMemory → refusal ≢ refusals.Store → ForEachShown g old (λ owner cs. due owner cs (Err refusal)))
