-- What is left of a desk over files at the end of a subcommand, and what a stop leaves of that.
use Rattle.std.specs.Prelude.{◌≡◌, ℕ, Bool, List, Option, None, Some, IsSome}
use Rattle.sqlite.specs.Files.{over_files}
use Rattle.sqlite.specs.Tree.{Trees}
use Rattle.sqlite.specs.declared.file.Leftover.{Leftover}
use Rattle.sqlite_disk.specs.declared.Disk.{Ghosts}
use Rattle.sqlite_store.specs.FileStore.{faults, is_shielded, recovers, view}
use Rattle.sqlite_store.specs.declared.store.FileStore.{FileStore}
use Rattle.sqlite_trees.specs.View.{IsClean, IsQuiet}
use Rattle.desk_history.specs.Calls.{History}
use Rattle.store_schema.specs.rows.Histories.{HoldsHistory}
use Rattle.store_desk.specs.Desks.{ShowsDesk}
use Rattle.store_desk.specs.declared.desk.Desk.{Desk}
use Rattle.cli_output.specs.declared.ending.Ending.{Ending}
use Rattle.cli_opening.specs.Closing.{AreOfClosed, FailsForGood}
use Rattle.cli_opening.specs.declared.ended.Ended.{Ended}
use Rattle.cli_opening.specs.declared.left.Rest.{Rest}
use Rattle.cli_opening.specs.declared.left.Rest.TheVariants.{Broken, Closed, Nothing, Unclosed, Unopened}

-- the end without what is left
abbrev pub ending_of : {D : Type 0} {g : Ghosts D} → Ended D g → Ending
ending_of ended = record { work = ended.work; closing = ended.closing }

-- where no connection came about: whether files were opened, or what the store had of them
abbrev pub rest_of : {D : Type 0} {g : Ghosts D} → Bool → Option (Leftover D g) → Rest D g
rest_of was_opened None = Nothing was_opened
rest_of was_opened (Some left) = Unopened left

module _ {D : Type 0} (g : Ghosts D) (desk : Desk (FileStore D g)) where
  -- The store of the desk, whose close failed: a stop leaves the tables of the history that the desk
  -- shows, and nothing that it could not have left before the close.
  pub record IsOfBroken (store : FileStore D g) : Type 0 where
    pub stopped : IsClean (view store) → (owner : List ℕ) (cs : History) → ShowsDesk over_files desk owner cs
        → (db : Trees) → recovers store db → HoldsHistory db owner cs
    pub quiet : IsQuiet view faults recovers is_shielded desk.conn.store store

  -- own: of a desk that has to be opened again its connection is left as it was; of one that couldn't
  -- be closed its store; of a closed one its files
  abbrev pub IsLeft : Ending → Rest D g → Type 0
  IsLeft ending (Nothing was_opened) = ⊥
  IsLeft ending (Unopened left) = ⊥
  IsLeft ending (Unclosed conn) = FailsForGood ending.work × (conn ≡ desk.conn)
  IsLeft ending (Broken store) = IsSome ending.closing × IsOfBroken store
  IsLeft ending (Closed files) = (ending.closing ≡ None) × AreOfClosed g desk files
