-- A run of `follow` over the minutes in a file of some name.
use Rattle.std.specs.Prelude.{◌≡◌, ◌⊎◌, ℕ, false, true, List, Option, None, Err}
use Rattle.std.specs.Io.KnownBytes.{Keeps}
use Rattle.sqlite_disk.specs.declared.Disk.{Ghosts}
use Rattle.sqlite_disk.specs.declared.start.Start as start
use Rattle.store_minutes.specs.declared.lines.LineWatch.{LineWatch}
use Rattle.cli_output.specs.Faults.{IsFileRefusal, IsRow}
use Rattle.cli_output.specs.declared.ending.Ending.{Ending}
use Rattle.cli_output.specs.declared.fault.Fault.{Fault}
use Rattle.cli_audit.specs.Named.{is_input}
use Rattle.cli_opening.specs.Leaving.{ending_of}
use Rattle.cli_opening.specs.declared.ended.Ended.{Ended}
use Rattle.cli_follow.specs.Runs.{AtFoundOrMade, Follows, IsUnfound}

module _ {D S : Type 0} (g : Ghosts D) (first : start.Ghosts S) (owner : List ℕ) (before after : Option (List ℕ)) (ending : Ending) where
  -- the desk in the files that held `first` followed these bytes, under some watch
  pub record FollowsBytes (known : Option (List ℕ)) : Type 0 where
    pub end : Ended D g
    pub is : ending ≡ ending_of end
    pub watch : LineWatch
    pub followed : (IsUnfound g first owner end × Keeps before after)
        ⊎ AtFoundOrMade {D = D} {g = g} first owner (Follows g known before after watch end)

  -- the minutes couldn't be opened: this is the refusal, and nothing was done
  pub record HasNoMinutes : Type 0 where
    pub fault : Fault
    pub named : IsRow IsFileRefusal fault
    pub told : ending ≡ record { work = Err fault; closing = None }
    pub silent : Keeps before after

  -- own: A run over the file `-` is one over the input's bytes. Any other file couldn't be opened; or
  -- it is one over that file's bytes.
  pub record FollowsNamed (name : List ℕ) (given : Option (List ℕ)) : Type 0 where
    pub of_input : is_input name ≡ true → FollowsBytes given
    pub of_file : is_input name ≡ false → HasNoMinutes ⊎ ((known : Option (List ℕ)) × FollowsBytes known)
