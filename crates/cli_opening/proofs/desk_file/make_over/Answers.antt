use Rattle.std.proofs.Common.{arith, inr}
use Rattle.cli_opening.proofs.desk_file.make_over.Goals as goal

pub returns-in-Ok-clause-made : goal.returns-in-Ok-clause-made
returns-in-Ok-clause-made g c = record {
  free = c.in-Ok.ensures.free;
  own = c.in-Ok.ensures.own;
  shows = c.in-Ok.ensures.ok;
  beside = c.in-Ok.ensures.beside;
  stopped = c.in-Ok.ensures.stopped;
  clean = λ clean. omega (arith, c.in-Ok.ensures.stopped.clean, clean);
}

pub returns-in-Err-clause-refused : goal.returns-in-Err-clause-refused
returns-in-Err-clause-refused g c = record {
  taken = c.in-Err.ensures.taken;
  kept = c.in-Err.ensures.kept;
  spares = c.in-Err.ensures.refused;
  stopped = c.in-Err.ensures.failed;
}

pub returns-in-Err-clause-named : goal.returns-in-Err-clause-named
returns-in-Err-clause-named g c = inr c.in-Err.ensures.named
