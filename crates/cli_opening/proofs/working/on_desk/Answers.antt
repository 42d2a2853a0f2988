use Rattle.cli_opening.proofs.EndingLemmas.{some_rest}
use Rattle.cli_opening.proofs.working.on_desk.Goals as goal

pub returns-clause-did : goal.returns-clause-did
returns-clause-did g c = rw c.ending.ensures (some_rest g.S.Start _ _ _ _ c.work_on_desk.ensures.did)

pub returns-clause-left : goal.returns-clause-left
returns-clause-left g c = rw c.ending.ensures c.work_on_desk.ensures.left

pub returns-clause-named : goal.returns-clause-named
returns-clause-named g c = rw c.ending.ensures c.work_on_desk.ensures.named

pub returns-clause-first : goal.returns-clause-first
returns-clause-first g c = rw c.ending.ensures c.work_on_desk.ensures.first

pub returns-clause-closing : goal.returns-clause-closing
returns-clause-closing g c = rw c.ending.ensures c.work_on_desk.ensures.closing

pub returns-clause-let_go : goal.returns-clause-let_go
returns-clause-let_go g c = rw c.ending.ensures c.work_on_desk.ensures.let_go
