-- The work of answering and serving requests on a desk, and on the desk in files.
use Rattle.std.specs.Prelude.{◌≡◌, ◌⊎◌, ℕ, List, Option, Result, Ok, Err}
use Rattle.sqlite.specs.Files.{over_files}
use Rattle.sqlite_disk.specs.declared.Disk.{Ghosts}
use Rattle.sqlite_store.specs.declared.store.FileStore.{FileStore}
use Rattle.base.specs.declared.refusal.Refusal.{Refusal}
use Rattle.base.specs.declared.refusal.Refusal.TheVariants as refusals
use Rattle.http_exchange.specs.declared.served.HttpFault.{HttpFault}
use Rattle.http_exchange.specs.declared.served.Served.{Served}
use Rattle.cli_output.specs.Faults.{row_of}
use Rattle.cli_output.specs.declared.fault.Fault.{Fault}
use Rattle.http_net.specs.Served as served
use Rattle.http_net.specs.Turns.{ServesInTurn}
use Rattle.store_desk.specs.declared.desk.Desk.{Desk}
use Rattle.cli_opening.specs.Works.{WorksAt}
use Rattle.cli_requests.specs.Desks.{AnswersRequest, ServesRequest}
use Rattle.cli_requests.specs.Living.{LivesThrough, LivesThroughOne}
use Rattle.cli_output.specs.declared.ending.Ending.{Ending}
use Rattle.cli_output.specs.declared.ending.WorkOutcome.{WorkOutcome}
use Rattle.cli_output.specs.declared.ending.WorkOutcome.TheVariants.{Done}

-- own: the result of a program that serves connections, as a subcommand's work
abbrev pub work_of : Result Unit Refusal → Result WorkOutcome Fault
work_of (Ok served) = Ok Done
work_of (Err refusal) = Err (row_of refusal)

-- one connection was served so, as a subcommand's work
abbrev pub WorksOnce : {D : Type 0} → (D → D → Result Served HttpFault → Type 0) → D → D → Result WorkOutcome Fault → Type 0
WorksOnce answers old new work = (came : Result Served HttpFault) × (work ≡ work_of (served.outcome_of came)) × answers old new came

-- this many connections were served in turn, as `ServesInTurn` says; or the port couldn't be
-- opened, and the desk didn't change
abbrev pub ServesPort : {D : Type 0} → (D → D → Result Served HttpFault → Type 0) → ℕ → D → D → Result Unit Refusal → Type 0
ServesPort serves count old new told = ((told ≡ Err refusals.Read) × (new ≡ old)) ⊎ ServesInTurn serves count old new told

-- the same, as a subcommand's work
abbrev pub WorksInTurn : {D : Type 0} → (D → D → Result Served HttpFault → Type 0) → ℕ → D → D → Result WorkOutcome Fault → Type 0
WorksInTurn serves count old new work = (told : Result Unit Refusal) × (work ≡ work_of told) × ServesPort serves count old new told

module _ {D : Type 0} (g : Ghosts D) where
  -- this many connections were served by the desk, one after another, as events of its life, and it
  -- is closed
  abbrev pub Serves : (count : ℕ) (ending : Ending) (desk : Desk (FileStore D g)) → Type 0
  Serves count ending desk =
      WorksAt g (λ left work. WorksInTurn (ServesRequest over_files) count desk left work × LivesThrough over_files desk left) ending

  -- one request of an input was answered by the desk, as an event of its life, and it is closed
  abbrev pub AnswersOnce : (input before after : Option (List ℕ)) (ending : Ending) (desk : Desk (FileStore D g)) → Type 0
  AnswersOnce input before after ending desk =
      WorksAt g (λ left work. WorksOnce (AnswersRequest over_files input before after) desk left work
      × LivesThroughOne over_files desk left input before after) ending
