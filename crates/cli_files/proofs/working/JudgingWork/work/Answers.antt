use Rattle.cli_files.proofs.ServingLemmas.{judging_apart}
use Rattle.cli_files.proofs.working.JudgingWork.work.Goals as goal

pub returns-clause-did : goal.returns-clause-did
returns-clause-did g c = (
  (c.judge_file-work.ensures.same, (λ owner cs was. c.judge_file-work.ensures.spares), c.judge_file-work.ensures.clean),
  c.judge_file-work.ensures.told,
  c.judge_file-work.ensures.stopped,
)

pub returns-clause-left : goal.returns-clause-left
returns-clause-left g c = c.judge_file-work.ensures.flushed

pub returns-clause-apart : goal.returns-clause-apart
returns-clause-apart g c = judging_apart c.judge_file-work.result c.judge_file-work.ensures.named
