use Rattle.cli_opening.proofs.EndingLemmas.{keeps_same}
use Rattle.base.specs.declared.refusal.Refusal.TheVariants as refusals
use Rattle.cli_output.specs.Faults.{row_of}
use Rattle.cli_follow.proofs.RunLemmas.{no_fault, other_fault}
use Rattle.cli_follow.proofs.following.tell.Goals as goal

pub returns-in-Ok-clause-told : goal.returns-in-Ok-clause-told
returns-in-Ok-clause-told g c = record {
  ok = λ clean. (c.in-Ok.ensures.written clean).0;
  unwritten = λ clean. tt;
  silent = tt;
  named = tt;
  same = λ clean other. c.in-Ok.ensures.same clean (no_fault tt (row_of refusals.Store));
  stopped = c.in-Ok.ensures.left;
  clean = c.in-Ok.ensures.clean;
}

pub returns-in-Err-clause-told : goal.returns-in-Err-clause-told
returns-in-Err-clause-told g c = record {
  ok = λ clean. tt;
  unwritten = λ clean write. (c.in-Err.ensures.written clean).1;
  silent = λ other. keeps_same g.W.Write.contents c.args.writer.now c.say_told.new.writer (c.in-Err.ensures.unwritten other);
  named = c.in-Err.ensures.named;
  same = λ clean other. c.in-Err.ensures.same clean (other_fault c.in-Err.fault (row_of refusals.Store) other);
  stopped = c.in-Err.ensures.left;
  clean = c.in-Err.ensures.clean;
}
