-- The closing of a desk over files at the end of a subcommand.
use Rattle.std.specs.Prelude.{◌≡◌, ℕ, List, None, Result, IfErr, MatchResult}
use Rattle.sqlite.specs.Files.{over_files}
use Rattle.sqlite_disk.specs.declared.Disk.{Ghosts}
use Rattle.sqlite_disk.specs.declared.Files.{Files}
use Rattle.sqlite_store.specs.declared.store.FileStore.{FileStore}
use Rattle.sqlite_wal.specs.Reads.{AreClean}
use Rattle.desk_history.specs.Calls.{History}
use Rattle.cli_output.specs.declared.fault.Fault.{Fault}
use Rattle.store_desk.specs.Closed.{AreClosed, OpenAgain}
use Rattle.store_desk.specs.Desks.{ShowsDesk}
use Rattle.store_desk.specs.declared.desk.Desk.{Desk}
use Rattle.cli_opening.specs.Faults.{IsLasting}
use Rattle.cli_output.specs.declared.ending.Ending.{Ending}
use Rattle.cli_output.specs.declared.ending.WorkOutcome.{WorkOutcome}

-- own: the work ended with a fault after which the desk must be opened again
abbrev pub FailsForGood : Result WorkOutcome Fault → Type 0
FailsForGood work = MatchResult work (λ _. ⊥) (λ fault. IsLasting fault.refusal)

-- own: it didn't end so
abbrev pub LeavesUsable : Result WorkOutcome Fault → Type 0
LeavesUsable work = IfErr work (λ fault. IsLasting fault.refusal → ⊥)

module _ {D : Type 0} (g : Ghosts D) (desk : Desk (FileStore D g)) where
  -- these files hold the tables of the history that the desk shows, and so does the database file
  -- without the log; a connection that is opened over them finds these tables
  pub record AreOfClosed (files : Files D) : Type 0 where
    pub copied : AreClean g files.log files.db → (owner : List ℕ) (cs : History) → ShowsDesk over_files desk owner cs → AreClosed g files owner cs
    pub found : (owner : List ℕ) (cs : History) → ShowsDesk over_files desk owner cs → OpenAgain g files owner cs

  -- the desk was closed, and these are its files
  abbrev pub IsClosed : Type 0
  IsClosed = (files : Files D) × AreOfClosed files

  -- own: the desk is closed after its work, unless it must be opened again or the close has a fault
  abbrev pub Ends : Ending → Type 0
  Ends ending = LeavesUsable ending.work → ending.closing ≡ None → IsClosed
