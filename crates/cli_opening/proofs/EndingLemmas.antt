-- The refusal for a close that fails, when a desk is closed, and what holds of work at a desk.
use Rattle.std.proofs.Common.{◌≡◌, ◌⊎◌, ◌∙◌, ℕ, List, Bool, true, false, Option, None, Result, Ok, Err, refl, subst, sym, inl, inr}
use Rattle.std.specs.Prelude.{IfErr, IfOk, OnOk}
use Rattle.std.specs.Io.KnownBytes.{Keeps}
use Rattle.std.proofs.KnownBytes.{Keeps-refl}
use Rattle.sqlite_disk.specs.declared.Disk.{Ghosts}
use Rattle.sqlite_disk.specs.declared.start.Start as start
use Rattle.sqlite_store.specs.declared.store.FileStore.{FileStore}
use Rattle.base.specs.declared.refusal.Refusal.{Refusal}
use Rattle.base.specs.declared.refusal.Refusal.TheVariants as refusals
use Rattle.cli_output.specs.Faults.{IsRow}
use Rattle.cli_output.specs.declared.fault.Fault.{Fault}
use Rattle.store_reads.specs.Failures.{IsFailure}
use Rattle.cli_opening.specs.Closing.{Ends, FailsForGood, LeavesUsable}
use Rattle.cli_opening.specs.Faults.{IsClosingRefusal, IsLasting, IsOfOpening}
use Rattle.cli_opening.specs.Leaving.{IsLeft, ending_of}
use Rattle.cli_opening.specs.Opening.{IsMade}
use Rattle.cli_opening.specs.Works.{IsUnopened, LeavesUnopened, MakesDesk, WorksOn, WorksOnLeaving}
use Rattle.cli_opening.specs.declared.ended.Ended.{Ended}
use Rattle.cli_opening.specs.declared.left.Rest.{Rest}
use Rattle.cli_opening.specs.declared.left.Rest.TheVariants.{Nothing}
use Rattle.cli_output.specs.Endings.{unopened}
use Rattle.cli_output.specs.declared.ending.Ending.{Ending}
use Rattle.cli_output.specs.declared.ending.WorkOutcome.{WorkOutcome}
use Rattle.store_desk.specs.declared.desk.Desk.{Desk}

-- a desk that needs opening answers Reopen, and another a device
pub closing_refusal : (needs_reopening : Bool) (refusal : Refusal)
    → (needs_reopening ≡ true → refusal ≡ refusals.Reopen) → (needs_reopening ≡ false → IsFailure refusal)
    → IsClosingRefusal refusal
closing_refusal true refusal closed named = inr (closed refl)
closing_refusal false refusal closed named = inl (named refl)

-- no close, so no fault of one
pub nothing_told : (work : Result WorkOutcome Fault)
    → IfErr work (λ fault. IsLasting fault.refusal → ◌≡◌ {A = Option Fault} None None)
nothing_told (Ok outcome) = tt
nothing_told (Err fault) = λ lasting. refl

-- a desk that is closed didn't fail for good
pub not_lasting : (work : Result WorkOutcome Fault) (lets_go : Bool) (closing : Option Fault) → lets_go ≡ false
    → IfErr work (λ fault. IsLasting fault.refusal → lets_go ≡ true)
    → IfErr work (λ fault. IsLasting fault.refusal → closing ≡ None)
not_lasting (Ok outcome) lets_go closing stays found = tt
not_lasting (Err fault) lets_go closing stays found = λ lasting.
    let bad : false ≡ true = sym stays ∙ found lasting in absurd (cc)

-- no work both fails for good and leaves the desk usable
pub never_both : {X : Type 0} (work : Result WorkOutcome Fault) → FailsForGood work → LeavesUsable work → X
never_both (Ok outcome) fails usable = absurd fails
never_both (Err fault) fails usable = absurd (usable fails)

-- once the work is done, a desk was made
pub made_desk : {D S : Type 0} {g : Ghosts D} {first : start.Ghosts S} (owner : List ℕ) (end : Ended D g) (desk : Desk (FileStore D g))
    → IsMade g first owner desk → Ends g desk (ending_of end) → IsLeft g desk (ending_of end) end.left.rest → OnOk end.work (MakesDesk g first owner end)
made_desk {D} {S} {g} {first} owner end desk made ended kept = done end.work
  where
    done : (work : Result WorkOutcome Fault) → OnOk work (MakesDesk g first owner end)
    done (Ok outcome) = record { desk = desk; made = made; ended = ended; kept = kept }
    done (Err fault) = tt

-- what is left, is something
pub some_rest : {D S : Type 0} {g : Ghosts D} (first : start.Ghosts S)
    (did : Desk (FileStore D g) → Desk (FileStore D g) → Result WorkOutcome Fault → Type 0) (Y : Type 0) (ending : Ending) (rest : Rest D g)
    → ((LeavesUnopened g first ending rest × Y) ⊎ WorksOnLeaving g first did ending rest) → ((IsUnopened g first ending × Y) ⊎ WorksOn g first did ending)
some_rest first did Y ending rest (inl none) = inl (record { rest = rest; leaves = none.0 }, none.1)
some_rest first did Y ending rest (inr at) = inr (record { desk = at.desk; opened = at.opened; done = record { rest = rest; works = at.done } })

-- no desk was opened where memory was refused before
pub unopened_for_memory : {D S : Type 0} (g : Ghosts D) (first : start.Ghosts S) (ending : Ending) → ending ≡ unopened refusals.NoMemory → IsUnopened g first ending
unopened_for_memory g first ending is =
    record { rest = Nothing false; leaves = record { refusal = refusals.NoMemory; told = is; named = inl (inl refl); why = (inl refl, refl) } }

-- the faults of work are among those of the opening or the work
pub also : (P Q : Fault → Type 0) (work : Result WorkOutcome Fault) → IfErr work Q → IfErr work (λ fault. P fault ⊎ Q fault)
also P Q (Ok outcome) h = tt
also P Q (Err fault) h = inr h

-- where none of them is one that only an opening gives, anything holds of such a one
pub never_of_opening : (X : Type 0) (work : Result WorkOutcome Fault) → IfErr work (λ fault. IsOfOpening fault.refusal → ⊥)
    → IfErr work (λ fault. IsOfOpening fault.refusal → X)
never_of_opening X (Ok outcome) apart = tt
never_of_opening X (Err fault) apart = λ opening. absurd (apart opening)

-- and none is, if all are rows of refusals that no opening gives alone
pub rows_apart : (P : Refusal → Type 0) → ((refusal : Refusal) → P refusal → IsOfOpening refusal → ⊥)
    → (work : Result WorkOutcome Fault) → IfErr work (IsRow P) → IfErr work (λ fault. IsOfOpening fault.refusal → ⊥)
rows_apart P apart (Ok outcome) h = tt
rows_apart P apart (Err fault) h = apart fault.refusal h.1

-- a row of the opening's refusals, or of the work's, is a row of either
pub either_row : (P Q : Refusal → Type 0) (work : Result WorkOutcome Fault) → IfErr work (λ fault. IsRow P fault ⊎ IsRow Q fault)
    → IfErr work (IsRow (λ refusal. P refusal ⊎ Q refusal))
either_row P Q (Ok outcome) h = tt
either_row P Q (Err fault) (inl h) = (h.0, inl h.1)
either_row P Q (Err fault) (inr h) = (h.0, inr h.1)

-- an output that stays the same keeps its bytes
pub keeps_same : {W : Type 0} (contents : W → Option (List ℕ)) (old new : W) → new ≡ old → Keeps (contents old) (contents new)
keeps_same contents old new same =
    let P : _ → Type 0 = λ w. Keeps (contents old) (contents w) in
    subst P (sym same) (Keeps-refl (contents old))

-- the output of a subcommand that opened no desk keeps its bytes
pub unopened_keeps : {W U X : Type 0} (contents : W → Option (List ℕ)) (old new : W)
    → ((U × (new ≡ old)) ⊎ X) → ((U × Keeps (contents old) (contents new)) ⊎ X)
unopened_keeps contents old new (inl none) = inl (none.0, keeps_same contents old new none.1)
unopened_keeps contents old new (inr done) = inr done

pub first_keeps : {W : Type 0} (contents : W → Option (List ℕ)) (old new : W) (closing : Option Fault) (work : Result WorkOutcome Fault)
    → IfErr work (λ fault. IsOfOpening fault.refusal → (closing ≡ None) × (new ≡ old))
    → IfErr work (λ fault. IsOfOpening fault.refusal → (closing ≡ None) × Keeps (contents old) (contents new))
first_keeps contents old new closing (Ok outcome) h = tt
first_keeps contents old new closing (Err fault) h = λ opening. ((h opening).0, keeps_same contents old new (h opening).1)

-- the same without an output
pub unopened_alone : {U X Y : Type 0} → ((U × Y) ⊎ X) → (U ⊎ X)
unopened_alone (inl none) = inl none.0
unopened_alone (inr done) = inr done

pub first_alone : (Y : Type 0) (closing : Option Fault) (work : Result WorkOutcome Fault)
    → IfErr work (λ fault. IsOfOpening fault.refusal → (closing ≡ None) × Y)
    → IfErr work (λ fault. IsOfOpening fault.refusal → closing ≡ None)
first_alone Y closing (Ok outcome) h = tt
first_alone Y closing (Err fault) h = λ opening. (h opening).0

-- both of two facts once the work is done
pub both_of : (P : WorkOutcome → Type 0) (X : Type 0) (work : Result WorkOutcome Fault) → IfOk work P → OnOk work X → IfOk work (λ outcome. P outcome × X)
both_of P X (Ok outcome) p x = (p, x)
both_of P X (Err fault) p x = tt

-- and each of them
pub done_of : (P : WorkOutcome → Type 0) (X : Type 0) (work : Result WorkOutcome Fault) → IfOk work (λ outcome. P outcome × X) → IfOk work P
done_of P X (Ok outcome) h = h.0
done_of P X (Err fault) h = tt

pub left_of : (P : WorkOutcome → Type 0) (X : Type 0) (work : Result WorkOutcome Fault) → IfOk work (λ outcome. P outcome × X) → OnOk work X
left_of P X (Ok outcome) h = h.1
left_of P X (Err fault) h = tt
