use Rattle.std.proofs.Common.{inl}
use Rattle.sqlite.specs.Files.{over_files}
use Rattle.cli_opening.proofs.OpeningLemmas.{is_found, is_refused}
use Rattle.cli_opening.specs.Refusing.{MayRefuse, RefusesFinding}
use Rattle.cli_opening.proofs.UnopenedLemmas.{still_refused}
use Rattle.cli_opening.proofs.desk_file.found_there.Goals as goal

pub found_or_made-requires : goal.found_or_made-requires
found_or_made-requires g c = c.in-Ok.ensures.outside

-- a desk was found or made

pub returns-in-Ok-found_or_made-clause-found : goal.returns-in-Ok-found_or_made-clause-found
returns-in-Ok-found_or_made-clause-found g c =
    is_found g.S.Start c.in-Ok.conn (record { outside = c.in-Ok.ensures.outside; opened = c.in-Ok.ensures.opened; found = c.in-Ok.ensures.found })
    c.args.owner.now c.in-Ok-found_or_made.desk c.in-Ok-found_or_made.ensures.found

-- none was

pub returns-in-Err-found_or_made-clause-refused : goal.returns-in-Err-found_or_made-clause-refused
returns-in-Err-found_or_made-clause-refused g c =
    let it = c.in-Err-found_or_made.ensures.refused in
    rw c.unclosed.ensures (is_refused g.S.Start c.in-Ok.conn
    (record { outside = c.in-Ok.ensures.outside; opened = c.in-Ok.ensures.opened; found = c.in-Ok.ensures.found })
    (λ conn. RefusesFinding over_files conn c.args.owner.now c.in-Err-found_or_made.refusal c.in-Err-found_or_made.unfound)
    (λ earlier. MayRefuse c.args.owner.now earlier c.in-Err-found_or_made.refusal) c.in-Err-found_or_made.unfound it it.known it.left it.clean)

-- there was no connection

pub returns-in-Err-clause-refused : goal.returns-in-Err-clause-refused
returns-in-Err-clause-refused g c = still_refused _ g.S.Start _ c.in-Err.refusal c.in-Err.left.rest c.in-Err.ensures.left

pub returns-in-Err-clause-named : goal.returns-in-Err-clause-named
returns-in-Err-clause-named g c = inl (inl c.in-Err.ensures.named)
