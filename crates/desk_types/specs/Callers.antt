-- Callers.
use Rattle.std.specs.Prelude.{ℕ, Bool, true, not, List, bytes_eq, codes}
use Rattle.desk_types.specs.declared.caller.Caller.{Caller}
use Rattle.desk_types.specs.declared.caller.Caller.TheVariants.{Console, Person}

-- own: a caller's name in the minutes
abbrev pub caller_name : Caller → List ℕ
caller_name Console = codes "console"
caller_name (Person name) = name

-- own: whether the name identifies the caller: `console` is always the console's
abbrev pub is_told_by_name : Caller → Bool
is_told_by_name Console = true
is_told_by_name (Person name) = not (bytes_eq name (codes "console"))
