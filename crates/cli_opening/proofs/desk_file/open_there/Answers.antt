use Rattle.std.proofs.Common.{arith, inl}
use Rattle.sqlite.specs.Files.{over_files}
use Rattle.store_reads.specs.Failures.{IsFailure}
use Rattle.cli_opening.proofs.OpeningLemmas.{is_opened, is_refused}
use Rattle.cli_opening.specs.Refusing.{RefusesDesk}
use Rattle.cli_opening.proofs.UnopenedLemmas.{still_refused}
use Rattle.cli_opening.proofs.desk_file.open_there.Goals as goal

pub open_over-requires : goal.open_over-requires
open_over-requires g c = c.in-Ok.ensures.outside

-- the desk was opened

pub returns-in-Ok-open_over-clause-opened : goal.returns-in-Ok-open_over-clause-opened
returns-in-Ok-open_over-clause-opened g c =
    is_opened g.S.Start c.in-Ok.conn (record { outside = c.in-Ok.ensures.outside; opened = c.in-Ok.ensures.opened; found = c.in-Ok.ensures.found })
    c.in-Ok-open_over.desk c.in-Ok-open_over.ensures.opened

-- it was refused

pub returns-in-Err-open_over-clause-refused : goal.returns-in-Err-open_over-clause-refused
returns-in-Err-open_over-clause-refused g c =
    let it = c.in-Err-open_over.ensures.refused in
    rw c.unclosed.ensures (is_refused g.S.Start c.in-Ok.conn
    (record { outside = c.in-Ok.ensures.outside; opened = c.in-Ok.ensures.opened; found = c.in-Ok.ensures.found })
    (λ conn. RefusesDesk over_files conn c.in-Err-open_over.refusal c.in-Err-open_over.refused) (λ _. IsFailure c.in-Err-open_over.refusal) c.in-Err-open_over.refused it it.known
    (λ live owner cs long history. it.left live owner cs) (λ clean. omega (arith, it.stopped.clean, clean)))

-- there was no connection

pub returns-in-Err-clause-refused : goal.returns-in-Err-clause-refused
returns-in-Err-clause-refused g c = still_refused _ g.S.Start _ c.in-Err.refusal c.in-Err.left.rest c.in-Err.ensures.left

pub returns-in-Err-clause-named : goal.returns-in-Err-clause-named
returns-in-Err-clause-named g c = inl c.in-Err.ensures.named
