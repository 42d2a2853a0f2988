-- A run of `follow` on a desk: over any store, and over files.
use Rattle.std.specs.Prelude.{◌≡◌, ◌≢◌, ◌⊎◌, ℕ, List, [], Option, Some, Result, Err, IfErr, OnOk}
use Rattle.std.specs.Io.KnownBytes.{Appends, Keeps}
use Rattle.sqlite.specs.Files.{over_files}
use Rattle.sqlite.specs.Held.{Held, state}
use Rattle.sqlite.specs.State.{HasCleanDisk}
use Rattle.sqlite.specs.Store as store
use Rattle.sqlite_disk.specs.declared.Disk.{Ghosts}
use Rattle.sqlite_disk.specs.declared.start.Start as start
use Rattle.sqlite_store.specs.declared.store.FileStore.{FileStore}
use Rattle.base.specs.Output.{AppendsBeginning}
use Rattle.base.specs.declared.refusal.Refusal.{Refusal}
use Rattle.base.specs.declared.refusal.Refusal.TheVariants as refusals
use Rattle.store_schema.specs.rows.Histories.{LeavesHistory}
use Rattle.store_desk.specs.Desks.{ForEachShown, KeepsDesk}
use Rattle.store_desk.specs.Exports.{Writes, WritesBeginning}
use Rattle.store_desk.specs.declared.desk.Desk.{Desk}
use Rattle.store_minutes.specs.Starts.{HasFollowedAfter, Start}
use Rattle.store_minutes.specs.declared.lines.LineWatch.{LineWatch}
use Rattle.store_minutes.specs.Comparing.{Begins}
use Rattle.store_follow.specs.Runs.{HasRun, IsAhead, IsWrongLine, LeavesRun}
use Rattle.cli_output.specs.Endings.{unopened}
use Rattle.cli_output.specs.Faults.{IsRow, row_of}
use Rattle.cli_output.specs.declared.ending.WorkOutcome.{WorkOutcome}
use Rattle.cli_output.specs.declared.fault.Fault.{Fault}
use Rattle.cli_commands.specs.Faults.{IsWritingRefusal}
use Rattle.cli_audit.specs.Audits.{ForEachCounted}
use Rattle.cli_audit.specs.Faults.{wrong_line}
use Rattle.cli_audit.specs.Lines.{audit_lines}
use Rattle.cli_opening.specs.Closing.{Ends}
use Rattle.cli_opening.specs.Faults.{IsFindingRefusal}
use Rattle.cli_opening.specs.Leaving.{IsLeft, ending_of}
use Rattle.cli_opening.specs.Opening.{IsFoundOrMade}
use Rattle.cli_opening.specs.Refusing.{IsNotFound}
use Rattle.cli_opening.specs.declared.ended.Ended.{Ended}
use Rattle.cli_opening.specs.declared.left.Rest.TheVariants.{Unclosed}
use Rattle.cli_follow.specs.Faults.{IsRunRefusal, IsRunRow}

-- ---- over any store

module _ {S : Type 0} (g : store.Ghosts S) where
  -- this holds of each start at which the desk shows its earlier history and the reader has its bytes
  abbrev pub ForEachStart : Desk S → Option (List ℕ) → (Start → Type 0) → Type 0
  ForEachStart desk given told = (s : Start) → Begins g desk s given → told s

  -- The desk has followed the bytes, or shows its earlier history, and they are a beginning of its
  -- minutes. Of the history that it shows the lines of an audit were written so.
  abbrev pub HasTold : Desk S → Start → (List ℕ → Type 0) → Type 0
  HasTold desk s wrote = (calls : ℕ) ×
      (((followed : HasFollowedAfter g desk s calls (Some [])) × wrote (audit_lines s.owner followed.history))
      ⊎ (IsAhead g desk s calls × wrote (audit_lines s.owner s.earlier)))

  -- The lines of an audit of a desk of so many calls, written with this result. The desk shows what it
  -- showed, except after Store. A stop leaves that.
  pub record Tells (desk left : Desk S) (calls : ℕ) (before after : Option (List ℕ)) (work : Result WorkOutcome Fault) : Type 0 where
    pub ok : HasCleanDisk (state g left.conn) → OnOk work (ForEachCounted g desk calls (Writes before after audit_lines))
    pub unwritten : HasCleanDisk (state g left.conn) → IfErr work (λ fault. fault ≡ row_of refusals.Write → ForEachCounted g desk calls (WritesBeginning before after audit_lines))
    pub silent : IfErr work (λ fault. fault ≢ row_of refusals.Write → Keeps before after)
    pub named : IfErr work (IsRow IsWritingRefusal)
    pub same : HasCleanDisk (state g left.conn) → work ≢ Err (row_of refusals.Store) → KeepsDesk g desk left
    pub stopped : ForEachShown g desk (LeavesHistory (state g left.conn))
    pub clean : HasCleanDisk (state g left.conn) → HasCleanDisk (state g desk.conn)

  -- A run over a reader's bytes, on a desk that it left so, with this result.
  pub record Runs (desk left : Desk S) (given before after : Option (List ℕ)) (watch : LineWatch) (work : Result WorkOutcome Fault) : Type 0 where
    -- with Ok all was followed, and the lines were written
    pub followed : HasCleanDisk (state g left.conn) → OnOk work (ForEachStart desk given (λ s. HasTold left s (Appends before after)))
    -- a wrong line has its number
    pub wrong : HasCleanDisk (state g left.conn) → IfErr work (λ fault. (n : ℕ) → fault ≡ wrong_line n → ForEachStart desk given (λ s. IsWrongLine g desk left s n))
    -- with Write all was followed, and a prefix of the lines was written; with any other fault nothing
    pub unwritten : HasCleanDisk (state g left.conn) → IfErr work (λ fault. fault ≡ row_of refusals.Write → ForEachStart desk given (λ s. HasTold left s (AppendsBeginning before after)))
    pub silent : IfErr work (λ fault. fault ≢ row_of refusals.Write → Keeps before after)
    -- the faults of a run
    pub named : IfErr work (IsRunRow watch)
    -- whatever the result, a stop leaves the earlier history, or one that goes on from it and whose
    -- minutes are a beginning of the bytes
    pub stopped : ForEachStart desk given (λ s. LeavesRun (state g left.conn) s)
    -- a disk that is clean after it was clean before it
    pub clean : HasCleanDisk (state g left.conn) → HasCleanDisk (state g desk.conn)

-- ---- over files

-- own: no desk of this owner was found or made in the files that held `first`: this is the refusal,
-- and what is left
pub record IsUnfound {D S : Type 0} (g : Ghosts D) (first : start.Ghosts S) (owner : List ℕ) (ending : Ended D g) : Type 0 where
  pub refusal : Refusal
  pub told : ending_of ending ≡ unopened refusal
  pub named : IsFindingRefusal refusal
  pub why : IsNotFound g first owner refusal ending.left.rest

-- the desk in the files that held `first` was found, or made there with this owner, and there this
-- was done
pub record AtFoundOrMade {D S : Type 0} {g : Ghosts D} (first : start.Ghosts S) (owner : List ℕ) (did : Desk (FileStore D g) → Type 0) : Type 0 where
  pub desk : Desk (FileStore D g)
  pub found : IsFoundOrMade g first owner desk
  pub done : did desk

module _ {D : Type 0} (g : Ghosts D) where
  -- a run left the desk so, and it was then closed
  pub record RunsAt (desk : Desk (FileStore D g)) (given before after : Option (List ℕ)) (watch : LineWatch) (ending : Ended D g) : Type 0 where
    pub left : Desk (FileStore D g)
    pub ran : Runs over_files desk left given before after watch ending.work
    pub ended : Ends g left (ending_of ending)
    pub kept : IsLeft g left (ending_of ending) ending.left.rest

  -- A device failed a run so that the desk is lost: nothing is closed or written, and its connection is
  -- left. A stop leaves what one of a run leaves.
  pub record LosesDesk (desk : Desk (FileStore D g)) (given before after : Option (List ℕ)) (watch : LineWatch) (ending : Ended D g) : Type 0 where
    pub conn : Held (FileStore D g)
    pub refusal : Refusal
    pub told : ending_of ending ≡ unopened refusal
    pub kept : ending.left.rest ≡ Unclosed conn
    pub named : IsRunRefusal watch refusal
    pub silent : Keeps before after
    pub stopped : ForEachStart over_files desk given (λ s. LeavesRun (state over_files conn) s)
    pub clean : HasCleanDisk (state over_files conn) → HasCleanDisk (state over_files desk.conn)

  -- the desk runs over the bytes
  abbrev pub RunsOn : Desk (FileStore D g) → Option (List ℕ) → Option (List ℕ) → Option (List ℕ) → LineWatch → Ended D g → Type 0
  RunsOn desk given before after watch ending =
      RunsAt desk given before after watch ending ⊎ LosesDesk desk given before after watch ending

  -- the same, of the desk
  abbrev pub Follows : Option (List ℕ) → Option (List ℕ) → Option (List ℕ) → LineWatch → Ended D g → Desk (FileStore D g) → Type 0
  Follows given before after watch ending desk = RunsOn desk given before after watch ending
