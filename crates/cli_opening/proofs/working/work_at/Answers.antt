use Rattle.cli_opening.proofs.working.work_at.Goals as goal

pub returns-clause-did : goal.returns-clause-did
returns-clause-did g c = record {
  left = c.work-desk.result.desk;
  done = rw c.close_after.ensures.work c.work-desk.ensures.did;
  ended = c.close_after.ensures.closed;
  kept = c.close_after.ensures.left;
}

pub returns-clause-left : goal.returns-clause-left
returns-clause-left g c = rw c.close_after.ensures.work c.work-desk.ensures.left

pub returns-clause-named : goal.returns-clause-named
returns-clause-named g c = rw c.close_after.ensures.work c.work-desk.ensures.named

pub returns-clause-closing : goal.returns-clause-closing
returns-clause-closing g c = c.close_after.ensures.closing

pub returns-clause-let_go : goal.returns-clause-let_go
returns-clause-let_go g c = rw c.close_after.ensures.work c.close_after.ensures.let_go

pub returns-clause-apart : goal.returns-clause-apart
returns-clause-apart g c = rw c.close_after.ensures.work c.work-desk.ensures.apart
