-- A run over minutes, from what followed them and what was written of the desk then.
use Rattle.std.proofs.Common.{◌≡◌, ◌≢◌, ◌⊎◌, ◌∙◌, ℕ, List, [], Option, None, Some, Result, Ok, Err, inl, inr, refl, sym, ap, subst}
use Rattle.std.specs.Prelude.{IfErr, IfOk, OnOk}
use Rattle.std.specs.Io.KnownBytes.{Appends, Keeps}
use Rattle.std.proofs.KnownBytes.{Keeps-refl}
use Rattle.sqlite.specs.Held.{state}
use Rattle.sqlite.specs.State.{State, HasCleanDisk}
use Rattle.sqlite.specs.Store.{Ghosts}
use Rattle.base.specs.Output.{AppendsBeginning}
use Rattle.base.specs.declared.refusal.Refusal.{Refusal}
use Rattle.base.specs.declared.refusal.Refusal.TheVariants as refusals
use Rattle.store_schema.specs.rows.Histories.{LeavesHistory}
use Rattle.store_desk.specs.Desks.{ForEachShown, KeepsDesk}
use Rattle.store_desk.specs.Exports.{Writes, WritesBeginning}
use Rattle.store_desk.specs.declared.desk.Desk.{Desk}
use Rattle.store_minutes.specs.Faults.{IsCaused, IsDeskFailure}
use Rattle.store_minutes.specs.Starts.{Start}
use Rattle.store_minutes.specs.Watches.{IsReadFault}
use Rattle.store_minutes.specs.declared.auditing.AuditFault.{AuditFault}
use Rattle.store_minutes.specs.declared.auditing.AuditFault.TheVariants.{Device, Line}
use Rattle.store_minutes.specs.declared.lines.LineWatch.{LineWatch}
use Rattle.store_follow.specs.Runs.{HasRun, IsWrongLine, LeavesRun}
use Rattle.cli_output.specs.Faults.{IsRow, row_of}
use Rattle.cli_output.specs.declared.ending.WorkOutcome.{WorkOutcome}
use Rattle.cli_output.specs.declared.fault.Fault.{Fault}
use Rattle.cli_commands.specs.Faults.{IsWritingRefusal}
use Rattle.cli_audit.proofs.AuditLemmas.{line_of}
use Rattle.cli_audit.specs.Audits.{ForEachCounted}
use Rattle.cli_audit.specs.Faults.{of_audit, wrong_line}
use Rattle.cli_audit.specs.Lines.{audit_lines}
use Rattle.cli_follow.specs.Faults.{IsRunRefusal, IsRunRow}
use Rattle.cli_follow.specs.Runs.{ForEachStart, HasTold, Runs, Tells}

-- ---- rows

pub no_fault : {A : Type 0} (a : A) (fault : Fault) → ◌≢◌ {A = Result A Fault} (Ok a) (Err fault)
no_fault a fault e = cc

-- a fault is another, whatever the type of the result
pub other_fault : {A B : Type 0} (fault other : Fault) → ◌≢◌ {A = Result A Fault} (Err fault) (Err other) → ◌≢◌ {A = Result B Fault} (Err fault) (Err other)
other_fault fault other differs e = differs (let same : fault ≡ other = cc in ap Err same)

not_store : (fault : Fault) → fault ≡ row_of refusals.Write → ◌≢◌ {A = Result WorkOutcome Fault} (Err fault) (Err (row_of refusals.Store))
not_store fault is e =
    let same : fault ≡ row_of refusals.Store = cc in
    let bad : refusals.Write ≡ refusals.Store = ap (λ (f : Fault). f.refusal) (sym is ∙ same) in
    absurd (cc)

-- a row without a place is no line's
no_place : (fault : Fault) (n : ℕ) → fault.place ≡ None → fault ≡ wrong_line n → ⊥
no_place fault n none is = let bad : None ≡ Some n = sym none ∙ ap (λ (f : Fault). f.place) is in absurd (cc)

writing_refusal : (watch : LineWatch) (refusal : Refusal) → IsWritingRefusal refusal → IsRunRefusal watch refusal
writing_refusal watch refusal (inl reopen) = inl (inl (inl reopen))
writing_refusal watch refusal (inr (inl failure)) = inl (inl (inr failure))
writing_refusal watch refusal (inr (inr write)) = inr write

run_row : (watch : LineWatch) (fault : AuditFault) → IsCaused watch fault → IsRunRow watch (of_audit fault)
run_row watch (Line n) caused = inl (n, refl)
run_row watch (Device refusal) caused = inr (refl, inl caused)

-- no write failed before the lines
not_write : (watch : LineWatch) (refusal : Refusal) → (IsDeskFailure refusal ⊎ IsReadFault watch refusal) → refusal ≡ refusals.Write → ⊥
not_write watch refusal (inl (inl reopen)) write = let bad : refusals.Reopen ≡ refusals.Write = sym reopen ∙ write in absurd (cc)
not_write watch refusal (inl (inr (inl memory))) write = let bad : refusals.NoMemory ≡ refusals.Write = sym memory ∙ write in absurd (cc)
not_write watch refusal (inl (inr (inr store))) write = let bad : refusals.Store ≡ refusals.Write = sym store ∙ write in absurd (cc)
not_write watch refusal (inr (inl memory)) write = let bad : refusals.NoMemory ≡ refusals.Write = sym memory ∙ write in absurd (cc)
not_write watch refusal (inr (inr (read, failed))) write = let bad : refusals.Read ≡ refusals.Write = sym read ∙ write in absurd (cc)

never_write : (watch : LineWatch) (fault : AuditFault) → IsCaused watch fault → of_audit fault ≡ row_of refusals.Write → ⊥
never_write watch (Line n) caused e = let bad : Some n ≡ None = ap (λ (f : Fault). f.place) e in absurd (cc)
never_write watch (Device refusal) caused e = not_write watch refusal caused (ap (λ (f : Fault). f.refusal) e)

-- ---- the result of a run

pub run_of : (P : ℕ → Type 0) (r : Result ℕ AuditFault) (calls : ℕ) → r ≡ Ok calls → IfOk r P → P calls
run_of P r calls is h = subst (λ (x : Result ℕ AuditFault). IfOk x P) is h

pub fault_of : (P : AuditFault → Type 0) (r : Result ℕ AuditFault) (fault : AuditFault) → r ≡ Err fault → IfErr r P → P fault
fault_of P r fault is h = subst (λ (x : Result ℕ AuditFault). IfErr x P) is h

module _ {S : Type 0} (g : Ghosts S) where
  -- ---- the desk that has run, and its lines

  -- what was written of it
  told_of : (ran left : Desk S) (s : Start) (calls : ℕ) (wrote : List ℕ → Type 0) → KeepsDesk g ran left → HasRun g ran s calls
      → ForEachCounted g ran calls (λ owner cs. wrote (audit_lines owner cs)) → HasTold g left s wrote
  told_of ran left s calls wrote keeps (inl f) w =
      (calls, inl (record { history = f.history; shows = keeps s.owner f.history f.shows; goes_on = f.goes_on; minuted = f.minuted; count = f.count; given = f.given }, w s.owner f.history f.shows f.count))
  told_of ran left s calls wrote keeps (inr a) w =
      (calls, inr (record { shows = keeps s.owner s.earlier a.shows; count = a.count; beginning = a.beginning }, w s.owner s.earlier a.shows a.count))

  -- what a stop leaves then
  left_of_run : (ran : Desk S) (at : State) (s : Start) (calls : ℕ) → HasRun g ran s calls → ForEachShown g ran (LeavesHistory at) → LeavesRun at s
  left_of_run ran at s calls (inl f) left clean db may =
      inr (record { history = f.history; legal = f.shows.history; goes_on = f.goes_on; begins = ([], f.given); holds = left s.owner f.history f.shows clean db may })
  left_of_run ran at s calls (inr a) left clean db may = inl (left s.owner s.earlier a.shows clean db may)

  module _ (desk ran left : Desk S) (calls : ℕ) (given before after : Option (List ℕ)) where
    all_told : (work : Result WorkOutcome Fault) → (work ≢ Err (row_of refusals.Store) → KeepsDesk g ran left)
        → OnOk work (ForEachCounted g ran calls (Writes before after audit_lines)) → ForEachStart g desk given (λ s. HasRun g ran s calls)
        → OnOk work (ForEachStart g desk given (λ s. HasTold g left s (Appends before after)))
    all_told (Ok outcome) keeps w run = λ s b. told_of ran left s calls (Appends before after) (keeps (no_fault outcome (row_of refusals.Store))) (run s b) w
    all_told (Err fault) keeps w run = tt

    part_told : (work : Result WorkOutcome Fault) → (work ≢ Err (row_of refusals.Store) → KeepsDesk g ran left)
        → IfErr work (λ fault. fault ≡ row_of refusals.Write → ForEachCounted g ran calls (WritesBeginning before after audit_lines)) → ForEachStart g desk given (λ s. HasRun g ran s calls)
        → IfErr work (λ fault. fault ≡ row_of refusals.Write → ForEachStart g desk given (λ s. HasTold g left s (AppendsBeginning before after)))
    part_told (Ok outcome) keeps w run = tt
    part_told (Err fault) keeps w run = λ write s b. told_of ran left s calls (AppendsBeginning before after) (keeps (not_store fault write)) (run s b) (w write)

    no_line : (work : Result WorkOutcome Fault) → IfErr work (IsRow IsWritingRefusal)
        → IfErr work (λ fault. (n : ℕ) → fault ≡ wrong_line n → ForEachStart g desk given (λ s. IsWrongLine g desk left s n))
    no_line (Ok outcome) h = tt
    no_line (Err fault) h = λ n is s b. absurd (no_place fault n h.0 is)

    row_told : (watch : LineWatch) (work : Result WorkOutcome Fault) → IfErr work (IsRow IsWritingRefusal) → IfErr work (IsRunRow watch)
    row_told watch (Ok outcome) h = tt
    row_told watch (Err fault) h = inr (h.0, writing_refusal watch fault.refusal h.1)

    -- the run of a desk that followed all
    pub told_runs : (watch : LineWatch) (work : Result WorkOutcome Fault) → (HasCleanDisk (state g ran.conn) → ForEachStart g desk given (λ s. HasRun g ran s calls))
        → (HasCleanDisk (state g ran.conn) → HasCleanDisk (state g desk.conn)) → Tells g ran left calls before after work → Runs g desk left given before after watch work
    told_runs watch work run was told = record {
      followed = λ clean. all_told work (told.same clean) (told.ok clean) (run (told.clean clean));
      wrong = λ clean. no_line work told.named;
      unwritten = λ clean. part_told work (told.same clean) (told.unwritten clean) (run (told.clean clean));
      silent = told.silent;
      named = row_told watch work told.named;
      stopped = λ s b clean db may. left_of_run ran (state g left.conn) s calls (run (told.clean clean) s b) told.stopped clean db may;
      clean = λ clean. was (told.clean clean);
    }

  -- ---- the run of a desk that stopped before

  pub stopped_runs : (desk left : Desk S) (given before : Option (List ℕ)) (watch : LineWatch) (fault : AuditFault) (told : Fault) → told ≡ of_audit fault
      → (HasCleanDisk (state g left.conn) → ForEachStart g desk given (λ s. (n : ℕ) → fault ≡ Line n → IsWrongLine g desk left s n))
      → ForEachStart g desk given (λ s. LeavesRun (state g left.conn) s) → (HasCleanDisk (state g left.conn) → HasCleanDisk (state g desk.conn)) → IsCaused watch fault
      → Runs g desk left given before before watch (Err told)
  stopped_runs desk left given before watch fault told is wrong stopped was caused = record {
    followed = λ clean. tt;
    wrong = λ clean n same s b. wrong clean s b n (line_of fault n (sym is ∙ same));
    unwritten = λ clean write s b. absurd (never_write watch fault caused (sym is ∙ write));
    silent = λ other. Keeps-refl before;
    named = rw is (run_row watch fault caused);
    stopped = stopped;
    clean = was;
  }
