use Rattle.cli_files.proofs.ServingLemmas.{judging_unwritten}
use Rattle.cli_files.proofs.WorkLemmas.{judged, stopped, unread}
use Rattle.cli_files.proofs.working.judge_file.Goals as goal

pub returns-in-Ok-clause-told : goal.returns-in-Ok-clause-told
returns-in-Ok-clause-told g c = judged g.S.Store _ _ _ _ _ c.in-Ok.found c.in-Ok.ensures.found c.judge.ensures.told

pub returns-in-Ok-clause-stopped : goal.returns-in-Ok-clause-stopped
returns-in-Ok-clause-stopped g c =
    stopped g.S.Store _ _ g.W.Write.contents c.args.writer.now c.judge.new.writer _ c.in-Ok.found c.in-Ok.ensures.found c.judge.ensures.unwritten c.judge.ensures.beginning

pub returns-in-Err-clause-stopped : goal.returns-in-Err-clause-stopped
returns-in-Err-clause-stopped g c = unread g.S.Store _ _ _ c.in-Err.fault

pub returns-in-Ok-clause-named : goal.returns-in-Ok-clause-named
returns-in-Ok-clause-named g c = judging_unwritten c.judge.result c.judge.ensures.named
