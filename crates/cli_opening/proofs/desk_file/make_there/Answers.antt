use Rattle.std.proofs.Common.{inl}
use Rattle.cli_opening.proofs.UnopenedLemmas.{still_refused}
use Rattle.cli_opening.proofs.desk_file.make_there.Goals as goal

pub make_over-requires : goal.make_over-requires
make_over-requires g c = c.in-Ok.ensures.outside

-- the desk was made

pub returns-in-Ok-make_over-clause-made : goal.returns-in-Ok-make_over-clause-made
returns-in-Ok-make_over-clause-made g c = record {
  conn = c.in-Ok.conn;
  over = record { outside = c.in-Ok.ensures.outside; opened = c.in-Ok.ensures.opened; found = c.in-Ok.ensures.found };
  makes = c.in-Ok-make_over.ensures.made;
}

-- it wasn't

pub returns-in-Err-make_over-clause-refused : goal.returns-in-Err-make_over-clause-refused
returns-in-Err-make_over-clause-refused g c = rw c.unclosed.ensures (record {
  conn = c.in-Ok.conn;
  over = record { outside = c.in-Ok.ensures.outside; opened = c.in-Ok.ensures.opened; found = c.in-Ok.ensures.found };
  refused = c.in-Err-make_over.ensures.refused;
})

-- there was no connection

pub returns-in-Err-clause-refused : goal.returns-in-Err-clause-refused
returns-in-Err-clause-refused g c = still_refused _ g.S.Start _ c.in-Err.refusal c.in-Err.left.rest c.in-Err.ensures.left

pub returns-in-Err-clause-named : goal.returns-in-Err-clause-named
returns-in-Err-clause-named g c = inl c.in-Err.ensures.named
