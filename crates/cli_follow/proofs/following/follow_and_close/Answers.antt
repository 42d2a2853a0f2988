use Rattle.std.proofs.Common.{inl, inr, refl}
use Rattle.cli_opening.proofs.EndingLemmas.{keeps_same}
use Rattle.cli_follow.proofs.following.follow_and_close.Goals as goal

-- the run returned the desk

pub returns-in-Ok-clause-ran : goal.returns-in-Ok-clause-ran
returns-in-Ok-clause-ran g c = inl (record {
  left = c.in-Ok.worked.desk;
  ran = rw c.close_after.ensures.work c.in-Ok.ensures.ran;
  ended = c.close_after.ensures.closed;
  kept = c.close_after.ensures.left;
})

pub returns-in-Ok-clause-done : goal.returns-in-Ok-clause-done
returns-in-Ok-clause-done g c = rw c.close_after.ensures.work c.in-Ok.ensures.done

pub returns-in-Ok-clause-flushed : goal.returns-in-Ok-clause-flushed
returns-in-Ok-clause-flushed g c = rw c.close_after.ensures.work c.in-Ok.ensures.flushed

pub returns-in-Ok-clause-closing : goal.returns-in-Ok-clause-closing
returns-in-Ok-clause-closing g c = c.close_after.ensures.closing

pub returns-in-Ok-clause-let_go : goal.returns-in-Ok-clause-let_go
returns-in-Ok-clause-let_go g c = rw c.close_after.ensures.work c.close_after.ensures.let_go

-- it lost it

pub returns-in-Err-clause-ran : goal.returns-in-Err-clause-ran
returns-in-Err-clause-ran g c = inr (record {
  conn = c.in-Err.conn;
  refusal = c.in-Err.refusal;
  told = c.without_desk.ensures.ending;
  kept = rw c.without_desk.ensures.left c.unclosed.ensures;
  named = c.in-Err.ensures.named;
  silent = keeps_same g.W.Write.contents _ _ c.in-Err.ensures.silent;
  stopped = c.in-Err.ensures.lost;
  clean = c.in-Err.ensures.cleared;
})

pub returns-in-Err-clause-done : goal.returns-in-Err-clause-done
returns-in-Err-clause-done g c = rw c.without_desk.ensures.work tt

pub returns-in-Err-clause-flushed : goal.returns-in-Err-clause-flushed
returns-in-Err-clause-flushed g c = rw c.without_desk.ensures.work tt

pub returns-in-Err-clause-closing : goal.returns-in-Err-clause-closing
returns-in-Err-clause-closing g c = rw c.without_desk.ensures.closing tt

pub returns-in-Err-clause-let_go : goal.returns-in-Err-clause-let_go
returns-in-Err-clause-let_go g c = rw c.without_desk.ensures.work (λ lasting. c.without_desk.ensures.closing)
