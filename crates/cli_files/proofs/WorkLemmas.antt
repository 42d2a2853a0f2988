-- A verdict on an image, by its facts.
use Rattle.std.proofs.Common.{◌≡◌, ◌≢◌, Option, ℕ, List, Result, Ok, Err, inl, inr}
use Rattle.std.specs.Prelude.{IfErr, IfOk, OnErr, OnOk}
use Rattle.std.specs.Io.KnownBytes.{Appends, Keeps}
use Rattle.std.proofs.KnownBytes.{Keeps-refl}
use Rattle.sqlite.specs.Held.{state}
use Rattle.sqlite.specs.State.{HasCleanDisk}
use Rattle.sqlite.specs.Store as store
use Rattle.base.specs.declared.refusal.Refusal.TheVariants as refusals
use Rattle.desk_history.specs.Verdicts as verdicts
use Rattle.desk_history.specs.declared.finding.Verdict.{Verdict}
use Rattle.cli_output.specs.Faults.{row_of}
use Rattle.cli_output.specs.VerdictLines.{verdict_line}
use Rattle.cli_output.specs.declared.fault.Fault.{Fault}
use Rattle.desk_inputs.specs.ImageFacts.{IsFactsOf}
use Rattle.store_desk.specs.Desks.{ForEachShown}
use Rattle.store_desk.specs.Exports.{WritesBeginning}
use Rattle.store_desk.specs.declared.desk.Desk.{Desk}
use Rattle.desk_types.specs.declared.facts.Facts.{Facts}
use Rattle.cli_opening.proofs.EndingLemmas.{keeps_same}
use Rattle.cli_files.specs.Works.{JudgesImage, StopsVerdict}
use Rattle.cli_commands.specs.Works.{outcome_of}
use Rattle.cli_output.specs.declared.ending.WorkOutcome.{WorkOutcome}

-- a verdict on these facts is one on the image that has them
pub judged : {S : Type 0} (g : store.Ghosts S) (old new : Desk S) (before after : Option (List ℕ)) (work : Result WorkOutcome Fault)
    (found : Facts) → ((image : List ℕ) × IsFactsOf image found)
    → IfOk work (λ outcome. (said : Verdict) × (outcome ≡ outcome_of said) × Appends before after (verdict_line said found)
    × (HasCleanDisk (state g new.conn) → ForEachShown g old (λ owner cs. said ≡ verdicts.verdict cs found)))
    → IfOk work (JudgesImage g old new before after)
judged g old new before after (Err fault) found of told = tt
judged g old new before after (Ok outcome) found of told =
    record { image = of.0; found = found; facts = of.1; said = told.0; exact = told.3; line = told.2; told = told.1 }

-- the facts of an image weren't found: nothing was written
pub unread : {S : Type 0} (g : store.Ghosts S) (old new : Desk S) (contents : Option (List ℕ)) (fault : Fault) → StopsVerdict g old new contents contents fault
unread g old new contents fault = record { unwritten = λ other. Keeps-refl contents; beginning = inl (Keeps-refl contents) }

-- what wasn't written, unless the write failed, keeps the writer's bytes
pub silent_of : {W : Type 0} (contents : W → Option (List ℕ)) (before after : W) (work : Result WorkOutcome Fault)
    → IfErr work (λ fault. fault ≢ row_of refusals.Write → after ≡ before)
    → IfErr work (λ fault. fault ≢ row_of refusals.Write → Keeps (contents before) (contents after))
silent_of contents before after (Ok outcome) unwritten = tt
silent_of contents before after (Err fault) unwritten = λ other. keeps_same contents before after (unwritten other)

-- a verdict on these facts stopped
pub stopped : {S W : Type 0} (g : store.Ghosts S) (old new : Desk S) (contents : W → Option (List ℕ)) (before after : W) (work : Result WorkOutcome Fault)
    (found : Facts) → ((image : List ℕ) × IsFactsOf image found)
    → IfErr work (λ fault. fault ≢ row_of refusals.Write → after ≡ before)
    → (HasCleanDisk (state g new.conn) → OnErr work (ForEachShown g old
    (WritesBeginning (contents before) (contents after) (λ owner cs. verdict_line (verdicts.verdict cs found) found))))
    → IfErr work (StopsVerdict g old new (contents before) (contents after))
stopped g old new contents before after (Ok outcome) found of unwritten begins = tt
stopped g old new contents before after (Err fault) found of unwritten begins = record {
  unwritten = λ other. keeps_same contents before after (unwritten other);
  beginning = inr (record { image = of.0; found = found; facts = of.1; begins = begins });
}
