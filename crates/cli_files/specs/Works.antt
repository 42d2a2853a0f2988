-- The work of each subcommand on a desk, and on the desk in files.
use Rattle.std.specs.Prelude.{◌≡◌, ◌≢◌, ◌⊎◌, ℕ, List, Option, Result, Err, IfErr, IfOk, OnErr, OnOk}
use Rattle.std.specs.Io.KnownBytes.{Appends, Keeps}
use Rattle.sqlite.specs.Files.{over_files}
use Rattle.sqlite.specs.Held.{state}
use Rattle.sqlite.specs.State.{HasCleanDisk}
use Rattle.sqlite.specs.Store as store
use Rattle.sqlite_disk.specs.declared.Disk.{Ghosts}
use Rattle.sqlite_store.specs.declared.store.FileStore.{FileStore}
use Rattle.base.specs.declared.refusal.Refusal.TheVariants as refusals
use Rattle.desk_exports.specs.Exports.{exported}
use Rattle.desk_exports.specs.declared.export.Export.{Export}
use Rattle.desk_history.specs.Verdicts as verdicts
use Rattle.desk_history.specs.declared.finding.Verdict.{Verdict}
use Rattle.cli_output.specs.Faults.{row_of}
use Rattle.cli_output.specs.VerdictLines.{verdict_line}
use Rattle.cli_output.specs.declared.fault.Fault.{Fault}
use Rattle.desk_history.specs.Called.{called}
use Rattle.desk_inputs.specs.ImageFacts.{IsFactsOf}
use Rattle.store_sql.specs.States.{Spares}
use Rattle.store_desk.specs.Desks.{CommitsOnlyAccepted, ForEachShown, KeepsDesk, MayStop, Refuses, Replies}
use Rattle.store_desk.specs.Exports.{SparesDesk, Writes, WritesBeginning}
use Rattle.store_desk.specs.declared.desk.Desk.{Desk}
use Rattle.desk_types.specs.declared.caller.Caller.TheVariants.{Console}
use Rattle.desk_types.specs.declared.command.Call.{Call}
use Rattle.desk_types.specs.declared.command.Command.TheVariants.{AddPerson}
use Rattle.desk_types.specs.declared.command.Person.{Person}
use Rattle.desk_types.specs.declared.facts.Facts.{Facts}
use Rattle.desk_types.specs.declared.reply.Reply.{Reply}
use Rattle.cli_opening.specs.Works.{WorksAt}
use Rattle.cli_commands.specs.Works.{Foretells, MayHaveAnswered, RefusesImpact, answer_line, foretold_lines, outcome_of, reply_line}
use Rattle.cli_output.specs.declared.ending.Ending.{Ending}
use Rattle.cli_output.specs.declared.ending.WorkOutcome.{WorkOutcome}

-- own: the console's call that adds a person
abbrev pub adding : List ℕ → Person → Call
adding key person = called Console key (AddPerson person)

-- the line of the desk's verdict on an image, from its history and the image's facts, and the
-- outcome of that verdict
pub record JudgesImage {S : Type 0} (g : store.Ghosts S) (old new : Desk S) (before after : Option (List ℕ)) (outcome : WorkOutcome) : Type 0 where
  pub image : List ℕ
  pub found : Facts
  pub facts : IsFactsOf image found
  pub said : Verdict
  pub exact : HasCleanDisk (state g new.conn) → ForEachShown g old (λ owner cs. said ≡ verdicts.verdict cs found)
  pub line : Appends before after (verdict_line said found)
  pub told : outcome ≡ outcome_of said

-- the facts of an image were found, and a prefix of the line of the desk's verdict was written
pub record BeginsVerdict {S : Type 0} (g : store.Ghosts S) (old new : Desk S) (before after : Option (List ℕ)) : Type 0 where
  pub image : List ℕ
  pub found : Facts
  pub facts : IsFactsOf image found
  pub begins : HasCleanDisk (state g new.conn)
      → ForEachShown g old (WritesBeginning before after (λ owner cs. verdict_line (verdicts.verdict cs found) found))

-- own: a verdict stopped: nothing was written, or, only if the write failed, a prefix of its line
pub record StopsVerdict {S : Type 0} (g : store.Ghosts S) (old new : Desk S) (before after : Option (List ℕ)) (fault : Fault) : Type 0 where
  pub unwritten : fault ≢ row_of refusals.Write → Keeps before after
  pub beginning : Keeps before after ⊎ BeginsVerdict g old new before after

module _ {S : Type 0} (g : store.Ghosts S) where
  -- a disk that is clean after the work was clean before it
  abbrev pub WasClean : Desk S → Desk S → Type 0
  WasClean desk left = HasCleanDisk (state g left.conn) → HasCleanDisk (state g desk.conn)

  -- After work that reads, the desk shows each history that it showed, and a stop leaves only what it
  -- could have left before.
  abbrev pub IsOnlyRead : Desk S → Desk S → Result WorkOutcome Fault → Type 0
  IsOnlyRead desk left work =
      (HasCleanDisk (state g left.conn) → work ≢ Err (row_of refusals.Store) → KeepsDesk g desk left)
      × SparesDesk g desk left
      × WasClean desk left

  -- the bytes of this export, for each history that the desk shows, were written, or a prefix of
  -- them
  abbrev pub WritesExport : Export → Option (List ℕ) → Option (List ℕ) → Desk S → Desk S → Result WorkOutcome Fault → Type 0
  WritesExport what before after desk left work = IsOnlyRead desk left work × (HasCleanDisk (state g left.conn)
      → OnOk work (ForEachShown g desk (Writes before after (exported what)))
      × OnErr work (ForEachShown g desk (WritesBeginning before after (exported what))))

  -- the line of the verdict on an image was written, and the outcome is that of the verdict; or the
  -- verdict stopped
  abbrev pub WritesVerdict : Option (List ℕ) → Option (List ℕ) → Desk S → Desk S → Result WorkOutcome Fault → Type 0
  WritesVerdict before after desk left work = IsOnlyRead desk left work
      × IfOk work (JudgesImage g desk left before after)
      × IfErr work (StopsVerdict g desk left before after)

  -- The impact of the proposal of this number was written, or a prefix of it, and the outcome is its
  -- own; or the refusal is, except for the device's and the writer's. Only if the write failed was a
  -- prefix written.
  abbrev pub ForetellsImpact : ℕ → Option (List ℕ) → Option (List ℕ) → Desk S → Desk S → Result WorkOutcome Fault → Type 0
  ForetellsImpact k before after desk left work = IsOnlyRead desk left work
      × IfErr work (λ fault. fault ≢ row_of refusals.Write → Keeps before after) × (HasCleanDisk (state g left.conn)
      → OnOk work (ForEachShown g desk (Writes before after (foretold_lines k)))
      × IfOk work (λ outcome. ForEachShown g desk (Foretells k outcome))
      × OnErr work (ForEachShown g desk (WritesBeginning before after (foretold_lines k)))
      × IfErr work (λ fault. fault ≢ row_of refusals.NoMemory → fault ≢ row_of refusals.Store
      → fault ≢ row_of refusals.Write → ForEachShown g desk (RefusesImpact k fault.refusal)))

  -- What a call of the console commits: nothing, if it is refused or a repeat. A stop leaves the history
  -- before the call or the one after it; with a fault of neither memory, the store nor the writer only
  -- what it could have left before.
  abbrev pub CommitsCall : Call → Desk S → Desk S → Result WorkOutcome Fault → Type 0
  CommitsCall c desk left work = MayStop g desk left c × CommitsOnlyAccepted g desk left c
      × IfErr work (λ fault. fault ≢ row_of refusals.NoMemory → fault ≢ row_of refusals.Store → fault ≢ row_of refusals.Write
      → Spares g desk.conn left.conn)
      × (HasCleanDisk (state g left.conn) → work ≢ Err (row_of refusals.Store) → MayHaveAnswered g desk left c)
      × WasClean desk left

  -- The desk answered a call of the console: the line of its reply was written, or a prefix of the line
  -- that is due; or the refusal is the rules', except for the device's and the writer's, and the desk
  -- shows the same history. Only if the write failed was a prefix written.
  abbrev pub AnswersCall : Call → Option (List ℕ) → Option (List ℕ) → Desk S → Desk S → Result WorkOutcome Fault → Type 0
  AnswersCall c before after desk left work = CommitsCall c desk left work
      × IfErr work (λ fault. fault ≢ row_of refusals.Write → Keeps before after) × (HasCleanDisk (state g left.conn)
      → OnOk work ((reply : Reply) × Replies g desk left c reply × Appends before after (reply_line reply))
      × OnErr work (ForEachShown g desk (WritesBeginning before after (answer_line c)))
      × IfErr work (λ fault. fault ≢ row_of refusals.NoMemory → fault ≢ row_of refusals.Write
      → Refuses g desk left c fault.refusal))

-- the same of a desk in files, which is then closed
module _ {D : Type 0} (g : Ghosts D) where
  -- a desk in files exports this, and is then closed
  abbrev pub Exports : Export → Option (List ℕ) → Option (List ℕ) → Ending → Desk (FileStore D g) → Type 0
  Exports what before after ending desk = WorksAt g (WritesExport over_files what before after desk) ending

  -- it gives the verdict on an image, and is then closed
  abbrev pub Judges : Option (List ℕ) → Option (List ℕ) → Ending → Desk (FileStore D g) → Type 0
  Judges before after ending desk = WorksAt g (WritesVerdict over_files before after desk) ending

  -- it writes the impact of the proposal k, and is then closed
  abbrev pub WritesImpact : ℕ → Option (List ℕ) → Option (List ℕ) → Ending → Desk (FileStore D g) → Type 0
  WritesImpact k before after ending desk = WorksAt g (ForetellsImpact over_files k before after desk) ending

  -- it answers the call, and is then closed
  abbrev pub Calls : Call → Option (List ℕ) → Option (List ℕ) → Ending → Desk (FileStore D g) → Type 0
  Calls c before after ending desk = WorksAt g (AnswersCall over_files c before after desk) ending
