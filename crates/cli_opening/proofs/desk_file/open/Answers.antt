use Rattle.std.proofs.Common.{inr, refl}
use Rattle.cli_opening.proofs.desk_file.open.Goals as goal

-- there is a file

pub returns-in-Ok-true-clause-opened : goal.returns-in-Ok-true-clause-opened
returns-in-Ok-true-clause-opened g c = c.open_there.ensures.opened

pub returns-in-Ok-true-clause-refused : goal.returns-in-Ok-true-clause-refused
returns-in-Ok-true-clause-refused g c = c.open_there.ensures.refused

pub returns-in-Ok-true-clause-named : goal.returns-in-Ok-true-clause-named
returns-in-Ok-true-clause-named g c = c.open_there.ensures.named

-- there is none, or that can't be told

pub returns-in-Ok-false-clause-refused : goal.returns-in-Ok-false-clause-refused
returns-in-Ok-false-clause-refused g c = rw c.unused.ensures (inr refl, refl)

pub returns-in-Err-clause-refused : goal.returns-in-Err-clause-refused
returns-in-Err-clause-refused g c = rw c.unused-in-Err.ensures (c.in-Err.ensures, refl)
