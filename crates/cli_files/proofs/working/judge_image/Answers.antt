use Rattle.cli_opening.proofs.EndingLemmas.{first_keeps, unopened_keeps}
use Rattle.cli_files.proofs.working.judge_image.Goals as goal

pub returns-clause-judged : goal.returns-clause-judged
returns-clause-judged g c = unopened_keeps g.W.Write.contents _ _ c.on_desk.ensures.did

pub returns-clause-first : goal.returns-clause-first
returns-clause-first g c = first_keeps g.W.Write.contents _ _ _ c.on_desk.result.work c.on_desk.ensures.first
