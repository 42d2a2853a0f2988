-- A failure of an export into memory: a vector fails only where memory is refused.
use Rattle.std.proofs.Common.{◌≡◌, ◌≢◌, ◌⊎◌, ◌∙◌, inl, inr, Bool, true, false, refl, sym}
use Rattle.base.specs.declared.refusal.Refusal.{Refusal}
use Rattle.base.specs.declared.refusal.Refusal.TheVariants as refusals
use Rattle.store_exports.specs.Faults.{IsExportFailure}
use Rattle.store_reads.specs.Failures.{IsFailure}

-- the refusal, and the one that is made of it
module _ (r made : Refusal) (write : r ≡ refusals.Write → made ≡ refusals.NoMemory) (other : r ≢ refusals.Write → made ≡ r) where
  kept_as : (x : Refusal) → r ≡ x → x ≢ refusals.Write → made ≡ x
  kept_as x is differs = other (λ e. differs (sym is ∙ e)) ∙ is

  no_store_write : refusals.Store ≢ refusals.Write
  no_store_write e = cc

  no_memory_write : refusals.NoMemory ≢ refusals.Write
  no_memory_write e = cc

  no_reopen_write : refusals.Reopen ≢ refusals.Write
  no_reopen_write e = cc

  failed : IsExportFailure r → IsFailure made
  failed (inl (inl memory)) = inl (kept_as refusals.NoMemory memory no_memory_write)
  failed (inl (inr store)) = inr (kept_as refusals.Store store no_store_write)
  failed (inr writer) = inl (write writer)

  pub memory_reopen : r ≡ refusals.Reopen → made ≡ refusals.Reopen
  memory_reopen is = kept_as refusals.Reopen is no_reopen_write

  pub memory_named : (closed : Bool) → (closed ≡ false → IsExportFailure r) → (closed ≡ true → r ≡ refusals.Reopen)
      → IsFailure made ⊎ ((made ≡ refusals.Reopen) × (closed ≡ true))
  memory_named true named reopen = inr (memory_reopen (reopen refl), refl)
  memory_named false named reopen = inl (failed (named refl))

  pub memory_other : made ≢ refusals.Store → r ≢ refusals.Store
  memory_other differs is = differs (kept_as refusals.Store is no_store_write)
