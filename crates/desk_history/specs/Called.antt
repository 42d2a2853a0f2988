-- A call, by its parts.
use Rattle.std.specs.Prelude.{ℕ, List}
use Rattle.desk_types.specs.declared.caller.Caller.{Caller}
use Rattle.desk_types.specs.declared.command.Call.{Call}
use Rattle.desk_types.specs.declared.command.Command.{Command}

-- the call of a command by a caller, under a key
abbrev pub called : Caller → List ℕ → Command → Call
called caller key command = record { caller = caller; key = key; command = command }
