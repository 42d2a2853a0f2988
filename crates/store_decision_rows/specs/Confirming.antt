-- A Confirm of a proposal, whoever gives it.
use Rattle.std.specs.Prelude.{ℕ, []}
use Rattle.desk_types.specs.declared.caller.Caller.TheVariants as callers
use Rattle.desk_types.specs.declared.command.Call.{Call}
use Rattle.desk_types.specs.declared.command.Command.TheVariants as command
use Rattle.desk_history.specs.Called.{called}

-- a Confirm of the proposal of this number by nobody and under no key: no person of a desk has the
-- empty name, and no call the empty key
abbrev pub to_confirm : ℕ → Call
to_confirm k = called (callers.Person []) [] (command.Confirm k)
