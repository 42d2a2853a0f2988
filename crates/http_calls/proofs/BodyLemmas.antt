-- The readings of bodies.
use Rattle.std.proofs.Common.{◌≡◌, ℕ, List, length, Option, Some, None, Result, Ok, Err, IfOk, refl, nat_lt, false, subst}
use Rattle.std.specs.Prelude.{IfErr}
use Rattle.std.specs.declared.alloc.AllocError.{AllocError}
use Rattle.base.specs.Elements.{IsCertificate}
use Rattle.desk_types.specs.declared.command.Command.{Command}
use Rattle.http_responses.specs.declared.refused.Refused.{Refused}
use Rattle.http_responses.specs.declared.refused.Refused.TheVariants as refused
use Rattle.desk_inputs.specs.imports.FromLists.{tbs_of}
use Rattle.desk_inputs.specs.declared.imports.fault.ImportFault.{ImportFault}
use Rattle.http_calls.specs.Bodies.{ReadsImport, TellsImport, listing_of}

-- bytes that are no certificate have no TBSCertificate
pub no_tbs : (b : List ℕ) → ((b t : List ℕ) → tbs_of b ≡ Some t → IsCertificate b t) → ((t : List ℕ) → IsCertificate b t → ⊥) → tbs_of b ≡ None
no_tbs b found only = go (tbs_of b) refl
  where
    go : (o : Option (List ℕ)) → tbs_of b ≡ o → tbs_of b ≡ None
    go None e = e
    go (Some t) e = absurd (only t (found b t e))

-- they are refused so where they are few enough
pub lists_none : (b : List ℕ) → nat_lt 65536 (length b) ≡ false → tbs_of b ≡ None → listing_of b ≡ Err refused.Der
lists_none b few none = rw (few, none) refl

-- an import is read as its definition says
pub import_is_read : (is : Command → Type 0) (first : ImportFault → Type 0) (given : Result Command ImportFault)
    (read : Result (Result Command Refused) AllocError)
    → TellsImport given read → IfOk given is → IfErr given first → IfOk read (ReadsImport is first)
import_is_read is first given (Ok (Ok command)) told right wrong = subst (λ r. IfOk r is) told right
import_is_read is first given (Ok (Err refused)) told right wrong =
    record { fault = told.0; first = subst (λ r. IfErr r first) told.1 wrong; told = told.2 }
import_is_read is first given (Err e) told right wrong = tt
