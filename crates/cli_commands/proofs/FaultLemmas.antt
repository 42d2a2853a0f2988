-- The fault for a refusal of the desk: its row of the table, without a place.
use Rattle.std.proofs.Common.{◌≡◌, ◌≢◌, ◌⊎◌, ◌∙◌, Result, Err, inl, inr, sym, ap}
use Rattle.base.specs.declared.refusal.Refusal.{Refusal}
use Rattle.base.specs.declared.refusal.Refusal.TheVariants as refusals
use Rattle.cli_output.specs.Faults.{row_of}
use Rattle.cli_output.specs.declared.fault.Fault.{Fault}

module _ {T U : Type 0} (fault : Fault) (refusal : Refusal) (is : fault ≡ row_of refusal) where
  -- the fault for Reopen is that of Reopen
  pub reopen_told : ◌≡◌ {A = Result T Refusal} (Err refusal) (Err refusals.Reopen) → ◌≡◌ {A = Result U Fault} (Err fault) (Err (row_of refusals.Reopen))
  reopen_told given =
      let same : refusal ≡ refusals.Reopen = cc in
      ap Err (is ∙ ap row_of same)

  -- only Store has the fault of Store
  pub store_given : ◌≡◌ {A = Result U Fault} (Err fault) (Err (row_of refusals.Store)) → ◌≡◌ {A = Result T Refusal} (Err refusal) (Err refusals.Store)
  store_given told =
      let row : fault ≡ row_of refusals.Store = cc in
      ap Err (ap (λ (f : Fault). f.refusal) (sym is ∙ row))

  -- the fault for Store is that of Store
  pub store_told : ◌≡◌ {A = Result T Refusal} (Err refusal) (Err refusals.Store) → ◌≡◌ {A = Result U Fault} (Err fault) (Err (row_of refusals.Store))
  store_told given =
      let same : refusal ≡ refusals.Store = cc in
      ap Err (is ∙ ap row_of same)

-- another fault is another refusal
pub other_refusal : (fault : Fault) (refusal : Refusal) → fault ≡ row_of refusal → fault ≢ row_of refusals.Store → refusal ≢ refusals.Store
other_refusal fault refusal is other same = other (is ∙ ap row_of same)

pub other_given : {U : Type 0} (fault : Fault) (refusal : Refusal) → fault ≡ row_of refusal
    → ◌≢◌ {A = Result U Fault} (Err fault) (Err (row_of refusals.Store)) → refusal ≢ refusals.Store
other_given fault refusal is other same = other (ap Err (is ∙ ap row_of same))

-- a line that wasn't written whole has one of these faults
pub neither : {X : Type 0} (fault : Fault) → ((fault ≡ row_of refusals.NoMemory) ⊎ (fault ≡ row_of refusals.Write))
    → fault ≢ row_of refusals.NoMemory → fault ≢ row_of refusals.Write → X
neither fault (inl memory) other write = absurd (other memory)
neither fault (inr written) other write = absurd (write written)
