-- Callers who are shown impacts.
use Rattle.std.specs.Prelude.{ℕ, Option, Some, None, Result, Ok, Err}
use Rattle.base.specs.declared.refusal.Refusal.{Refusal}
use Rattle.desk_types.specs.declared.caller.Caller.{Caller}
use Rattle.desk_types.specs.declared.caller.Caller.TheVariants as callers
use Rattle.desk_types.specs.declared.command.Person.{Person}
use Rattle.desk_history.specs.Calls.{History}
use Rattle.desk_history.specs.Shown.{officer, reader}

-- the refusal in a result, if it is one
abbrev pub refused : Result Person Refusal → Option Refusal
refused (Ok p) = None
refused (Err refusal) = Some refusal

-- why the caller isn't shown impacts, if so: the refusal of `impact_for` by the caller alone
abbrev pub refusal_to : History → Caller → Option Refusal
refusal_to cs callers.Console = None
refusal_to cs (callers.Person name) = refused (officer (reader cs (callers.Person name)))
