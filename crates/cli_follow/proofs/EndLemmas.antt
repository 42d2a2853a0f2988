-- The end of `follow` over a desk's file: its fault, by what was done.
use Rattle.std.proofs.Common.{◌≡◌, ◌⊎◌, ℕ, List, Option, Result, Ok, Err, inl, inr, refl, sym, ap, subst, ◌∙◌, arith}
use Rattle.std.specs.Prelude.{IfErr}
use Rattle.sqlite_disk.specs.declared.Disk.{Ghosts}
use Rattle.sqlite_disk.specs.declared.start.Start as start
use Rattle.sqlite_store.specs.declared.store.FileStore.{FileStore}
use Rattle.base.specs.declared.refusal.Refusal.{Refusal}
use Rattle.base.specs.declared.refusal.Refusal.TheVariants as refusals
use Rattle.store_desk.specs.declared.desk.Desk.{Desk}
use Rattle.store_minutes.specs.declared.lines.LineWatch.{LineWatch}
use Rattle.cli_output.specs.declared.ending.Ending.{Ending}
use Rattle.cli_output.specs.declared.ending.WorkOutcome.{WorkOutcome}
use Rattle.cli_output.specs.declared.fault.Fault.{Fault}
use Rattle.cli_audit.specs.Faults.{wrong_line}
use Rattle.cli_opening.specs.Opening.{IsFoundOrMade}
use Rattle.cli_opening.specs.declared.ended.Ended.{Ended}
use Rattle.cli_follow.specs.Faults.{IsFollowRow, IsOfFinding, IsRunRefusal, IsRunRow}
use Rattle.cli_follow.specs.Runs.{AtFoundOrMade, Follows, RunsOn}

-- ---- faults of a desk that was found, which are of the table

follow_rows : (watch : LineWatch) (work : Result WorkOutcome Fault) → IfErr work (IsRunRow watch) → IfErr work (IsFollowRow watch)
follow_rows watch (Ok outcome) h = tt
follow_rows watch (Err fault) h = inr h

found_row : {D : Type 0} (g : Ghosts D) (given before after : Option (List ℕ)) (watch : LineWatch) (ending : Ended D g) (desk : Desk (FileStore D g))
    → RunsOn g desk given before after watch ending → IfErr ending.work (IsRunRow watch)
found_row g given before after watch ending desk (inl at) = at.ran.named
found_row g given before after watch ending desk (inr lost) =
    subst (λ (e : Ending). IfErr e.work (IsRunRow watch)) (sym lost.told) (inr (refl, lost.named))

-- ---- none of them is one that only a finding gives, and none of a run is Owner

-- a device's refusal, the reader's or the writer's
plain : (watch : LineWatch) (refusal : Refusal) → IsRunRefusal watch refusal
    → ((refusal ≡ refusals.Reopen) ⊎ ((refusal ≡ refusals.NoMemory) ⊎ (refusal ≡ refusals.Store))) ⊎ ((refusal ≡ refusals.Read) ⊎ (refusal ≡ refusals.Write))
plain watch refusal (inl (inl failure)) = inl failure
plain watch refusal (inl (inr (inl memory))) = inl (inr (inl memory))
plain watch refusal (inl (inr (inr read))) = inr (inl read.0)
plain watch refusal (inr write) = inr (inr write)

minute_apart : (refusal : Refusal) → refusal ≡ refusals.Minute → IsOfFinding refusal → ⊥
minute_apart refusal minute finding = grind arith

run_apart : (watch : LineWatch) (refusal : Refusal) → IsRunRefusal watch refusal → IsOfFinding refusal → ⊥
run_apart watch refusal ran finding = let told = plain watch refusal ran in grind arith

row_apart : (watch : LineWatch) (fault : Fault) → IsRunRow watch fault → IsOfFinding fault.refusal → ⊥
row_apart watch fault (inl line) = minute_apart fault.refusal (ap (λ (f : Fault). f.refusal) line.1)
row_apart watch fault (inr ran) = run_apart watch fault.refusal ran.1

rows_apart : (X : Type 0) (watch : LineWatch) (work : Result WorkOutcome Fault) → IfErr work (IsRunRow watch) → IfErr work (λ fault. IsOfFinding fault.refusal → X)
rows_apart X watch (Ok outcome) h = tt
rows_apart X watch (Err fault) h = λ finding. absurd (row_apart watch fault h finding)

not_owner : (watch : LineWatch) (refusal : Refusal) → IsRunRefusal watch refusal → refusal ≡ refusals.Owner → ⊥
not_owner watch refusal ran owner = let told = plain watch refusal ran in grind arith

line_not_owner : (fault : Fault) (n : ℕ) → fault ≡ wrong_line n → fault.refusal ≡ refusals.Owner → ⊥
line_not_owner fault n line owner = let bad : refusals.Minute ≡ refusals.Owner = sym (ap (λ (f : Fault). f.refusal) line) ∙ owner in absurd (cc)

ran_unowned : (X : Type 0) (watch : LineWatch) (work : Result WorkOutcome Fault) → IfErr work (IsRunRow watch) → IfErr work (λ fault. fault.refusal ≡ refusals.Owner → X)
ran_unowned X watch (Ok outcome) h = tt
ran_unowned X watch (Err fault) (inl line) = λ owner. absurd (line_not_owner fault line.0 line.1 owner)
ran_unowned X watch (Err fault) (inr ran) = λ owner. absurd (not_owner watch fault.refusal ran.1 owner)

-- so the fault of a run is none that tells another owner
pub run_unowned : {D : Type 0} (g : Ghosts D) (given before after : Option (List ℕ)) (watch : LineWatch) (ending : Ended D g) (desk : Desk (FileStore D g)) (X : Type 0)
    → RunsOn g desk given before after watch ending → IfErr ending.work (λ fault. fault.refusal ≡ refusals.Owner → X)
run_unowned g given before after watch ending desk X (inl at) = ran_unowned X watch ending.work at.ran.named
run_unowned g given before after watch ending desk X (inr lost) =
    subst (λ (e : Ending). IfErr e.work (λ fault. fault.refusal ≡ refusals.Owner → X)) (sym lost.told) (λ owner. absurd (not_owner watch lost.refusal lost.named owner))

module _ {D : Type 0} {g : Ghosts D} (given before after : Option (List ℕ)) (watch : LineWatch) (ending : Ended D g) (desk : Desk (FileStore D g))
    (did : RunsOn g desk given before after watch ending) where
  pub follow_named : IfErr ending.work (IsFollowRow watch)
  follow_named = follow_rows watch ending.work (found_row g given before after watch ending desk did)

  pub follow_first : (X : Type 0) → IfErr ending.work (λ fault. IsOfFinding fault.refusal → X)
  follow_first X = rows_apart X watch ending.work (found_row g given before after watch ending desk did)

-- ---- the desk of a reader with a buffer

pub at_desk : {D S : Type 0} {g : Ghosts D} {first : start.Ghosts S} (owner : List ℕ) (held given before after : Option (List ℕ)) (watch : LineWatch) (ending : Ended D g) (desk : Desk (FileStore D g))
    → held ≡ given → IsFoundOrMade g first owner desk → RunsOn g desk held before after watch ending
    → AtFoundOrMade {D = D} {g = g} first owner (Follows g given before after watch ending)
at_desk {D} {S} {g} {first} owner held given before after watch ending desk same found did = record {
  desk = desk;
  found = found;
  done = subst (λ (known : Option (List ℕ)). RunsOn g desk known before after watch ending) same did;
}
