-- A subcommand without a desk, and at one.
use Rattle.std.specs.Prelude.{◌≡◌, ℕ, List, Result}
use Rattle.sqlite_disk.specs.declared.Disk.{Ghosts}
use Rattle.sqlite_disk.specs.declared.start.Start as start
use Rattle.sqlite_store.specs.declared.store.FileStore.{FileStore}
use Rattle.base.specs.declared.refusal.Refusal.{Refusal}
use Rattle.cli_output.specs.Endings.{unopened}
use Rattle.cli_output.specs.declared.ending.Ending.{Ending}
use Rattle.cli_output.specs.declared.ending.WorkOutcome.{WorkOutcome}
use Rattle.cli_output.specs.declared.fault.Fault.{Fault}
use Rattle.store_desk.specs.declared.desk.Desk.{Desk}
use Rattle.cli_opening.specs.Closing.{Ends}
use Rattle.cli_opening.specs.Faults.{IsOpeningRefusal}
use Rattle.cli_opening.specs.Leaving.{IsLeft, ending_of}
use Rattle.cli_opening.specs.Opening.{IsMade, IsOpened}
use Rattle.cli_opening.specs.Refusing.{IsNotOpened}
use Rattle.cli_opening.specs.declared.ended.Ended.{Ended}
use Rattle.cli_opening.specs.declared.left.Rest.{Rest}

module _ {D S : Type 0} (g : Ghosts D) (first : start.Ghosts S) where
  -- own: no desk was opened in the files that held `first`: this is the refusal, and this is left
  pub record LeavesUnopened (ending : Ending) (rest : Rest D g) : Type 0 where
    pub refusal : Refusal
    pub told : ending ≡ unopened refusal
    pub named : IsOpeningRefusal refusal
    pub why : IsNotOpened g first refusal rest

  -- the same, and something is left
  pub record IsUnopened (ending : Ending) : Type 0 where
    pub rest : Rest D g
    pub leaves : LeavesUnopened ending rest

-- the desk in the files that held `first` was opened, and there this was done
pub record AtADesk {D S : Type 0} {g : Ghosts D} (first : start.Ghosts S) (did : Desk (FileStore D g) → Type 0) : Type 0 where
  pub desk : Desk (FileStore D g)
  pub opened : IsOpened g first desk
  pub done : did desk

module _ {D : Type 0} (g : Ghosts D) where
  -- a desk over files was left so by work with this result, and then closed, and this is left of it
  pub record WorksLeaving (did : Desk (FileStore D g) → Result WorkOutcome Fault → Type 0) (ending : Ending) (rest : Rest D g) : Type 0 where
    pub left : Desk (FileStore D g)
    pub done : did left ending.work
    pub ended : Ends g left ending
    pub kept : IsLeft g left ending rest

  -- the same, and something is left
  pub record WorksAt (did : Desk (FileStore D g) → Result WorkOutcome Fault → Type 0) (ending : Ending) : Type 0 where
    pub rest : Rest D g
    pub works : WorksLeaving did ending rest

module _ {D S : Type 0} (g : Ghosts D) (first : start.Ghosts S) where
  -- the desk in the files was opened, and worked on so
  abbrev pub WorksOn : (Desk (FileStore D g) → Desk (FileStore D g) → Result WorkOutcome Fault → Type 0) → Ending → Type 0
  WorksOn did ending = AtADesk {D = D} {g = g} first (λ desk. WorksAt g (did desk) ending)

  -- the same, and this is left
  abbrev pub WorksOnLeaving : (Desk (FileStore D g) → Desk (FileStore D g) → Result WorkOutcome Fault → Type 0) → Ending → Rest D g → Type 0
  WorksOnLeaving did ending rest = AtADesk {D = D} {g = g} first (λ desk. WorksLeaving g (did desk) ending rest)

  -- a desk was made in the files, with this owner and without calls, and closed, and this is left
  pub record MakesDesk (owner : List ℕ) (end : Ended D g) : Type 0 where
    pub desk : Desk (FileStore D g)
    pub made : IsMade g first owner desk
    pub ended : Ends g desk (ending_of end)
    pub kept : IsLeft g desk (ending_of end) end.left.rest
