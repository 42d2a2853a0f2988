-- Refusals that stop a subcommand at an open desk: none of them is an opening's.
use Rattle.std.proofs.Common.{◌≡◌, ◌⊎◌, IsTrue, Result, Ok, Err, arith, false, subst, inl, inr}
use Rattle.std.specs.Prelude.{IfErr}
use Rattle.base.specs.declared.refusal.Refusal.{Refusal}
use Rattle.base.specs.declared.refusal.Refusal.TheVariants as refusals
use Rattle.cli_output.specs.declared.fault.Fault.{Fault}
use Rattle.desk_inputs.specs.declared.fault.FactsFault.{FactsFault}
use Rattle.cli_files.specs.Faults.{IsImageFault, IsJudgingFault}
use Rattle.cli_opening.specs.Faults.{IsOfOpening}
use Rattle.desk_history.specs.DecisionRefusals.{may_answer}
use Rattle.cli_output.specs.Faults.{IsRow, IsUnreadRefusal, of_facts}
use Rattle.cli_commands.specs.Faults.{IsAddingRefusal, IsForetellingRefusal, IsWritingRefusal}
use Rattle.cli_output.specs.declared.ending.WorkOutcome.{WorkOutcome}

-- what any work may end with
pub told_apart : (refusal : Refusal)
    → (((refusal ≡ refusals.Store) ⊎ (refusal ≡ refusals.Reopen)) ⊎ (refusal ≡ refusals.Write)) → IsOfOpening refusal → ⊥
told_apart refusal told opening = grind arith

pub adding_apart : (refusal : Refusal) → IsAddingRefusal refusal → IsOfOpening refusal → ⊥
adding_apart refusal (inl o) opening = told_apart refusal (inl (inr o)) opening
adding_apart refusal (inr (inl (inl told))) (inl n) = let bad : IsTrue false = subst (λ r. IsTrue (may_answer r)) n told in absurd (cc)
adding_apart refusal (inr (inl (inl told))) (inr v) = let bad : IsTrue false = subst (λ r. IsTrue (may_answer r)) v told in absurd (cc)
adding_apart refusal (inr (inl (inr s))) opening = told_apart refusal (inl (inl s)) opening
adding_apart refusal (inr (inr w)) opening = told_apart refusal (inr w) opening

pub writing_apart : (refusal : Refusal) → IsWritingRefusal refusal → IsOfOpening refusal → ⊥
writing_apart refusal writing opening = grind arith

pub foretelling_apart : (refusal : Refusal) → IsForetellingRefusal refusal → IsOfOpening refusal → ⊥
foretelling_apart refusal foretelling opening = grind arith

pub unread_apart : (refusal : Refusal) → IsUnreadRefusal refusal → IsOfOpening refusal → ⊥
unread_apart refusal unread opening = grind arith

-- nor is the fault of an image
row_apart : (fault : Fault) (why : FactsFault) → fault ≡ of_facts why → IsOfOpening fault.refusal → ⊥
row_apart fault why row opening = grind arith

pub image_apart : (fault : Fault) → IsImageFault fault → IsOfOpening fault.refusal → ⊥
image_apart fault it opening = row_apart fault it.1.why it.1.row opening

-- nor what stops a verdict
pub judging_apart : (work : Result WorkOutcome Fault) → IfErr work IsJudgingFault → IfErr work (λ fault. IsOfOpening fault.refusal → ⊥)
judging_apart (Ok outcome) h = tt
judging_apart (Err fault) (inl (inl unread)) = unread_apart fault.refusal unread.1
judging_apart (Err fault) (inl (inr image)) = image_apart fault image
judging_apart (Err fault) (inr unwritten) = writing_apart fault.refusal unwritten.1

-- what stops the judging of an open desk stops a verdict
pub judging_unwritten : (work : Result WorkOutcome Fault) → IfErr work (IsRow IsWritingRefusal) → IfErr work IsJudgingFault
judging_unwritten (Ok outcome) h = tt
judging_unwritten (Err fault) h = inr h
