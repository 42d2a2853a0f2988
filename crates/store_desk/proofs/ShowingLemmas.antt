-- The step from what was read to the desk's result.
use Rattle.std.proofs.Common.{◌≢◌, ℕ, List, Result, Ok, Err}
use Rattle.std.specs.Prelude.{IfErr, IfOk}
use Rattle.sqlite.specs.Store as store
use Rattle.base.specs.declared.refusal.Refusal.{Refusal}
use Rattle.base.specs.declared.refusal.Refusal.TheVariants as refusals
use Rattle.desk_history.specs.Calls.{History}
use Rattle.store_desk.specs.Desks.{ForEachShown}
use Rattle.store_desk.specs.declared.desk.Desk.{Desk}

-- what holds of the result, of what is given and of a refusal
module _ {S A : Type 0} (g : store.Ghosts S) (old : Desk S) (due : List ℕ → History → Result A Refusal → Type 0) where
  pub given_ok : (given : Result A Refusal) → ForEachShown g old (λ owner cs. due owner cs given) → IfOk given (λ x. ForEachShown g old (λ owner cs. due owner cs (Ok x)))
  given_ok (Ok x) all = all
  given_ok (Err e) all = tt

  pub given_err : (given : Result A Refusal) → ForEachShown g old (λ owner cs. due owner cs given)
      → IfErr given (λ refusal. refusal ≢ refusals.NoMemory → refusal ≢ refusals.Store → ForEachShown g old (λ owner cs. due owner cs (Err refusal)))
  given_err (Ok x) all = tt
  given_err (Err e) all = λ no_memory no_store. all
