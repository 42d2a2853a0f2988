use Rattle.std.proofs.Common.{inl, inr, refl}
use Rattle.cli_output.specs.Faults.{IsRow}
use Rattle.cli_opening.specs.Faults.{IsOpeningRefusal}
use Rattle.cli_opening.proofs.EndingLemmas.{also, never_of_opening}
use Rattle.cli_opening.proofs.working.work_on_desk.Goals as goal

-- the desk was opened

pub returns-in-Ok-clause-did : goal.returns-in-Ok-clause-did
returns-in-Ok-clause-did g c =
    inr (record { desk = c.in-Ok.desk; opened = c.in-Ok.ensures.opened; done = c.work_at.ensures.did })

pub returns-in-Ok-clause-left : goal.returns-in-Ok-clause-left
returns-in-Ok-clause-left g c = c.work_at.ensures.left

pub returns-in-Ok-clause-named : goal.returns-in-Ok-clause-named
returns-in-Ok-clause-named g c = also (IsRow IsOpeningRefusal) _ c.work_at.result.work c.work_at.ensures.named

pub returns-in-Ok-clause-first : goal.returns-in-Ok-clause-first
returns-in-Ok-clause-first g c = never_of_opening _ c.work_at.result.work c.work_at.ensures.apart

pub returns-in-Ok-clause-closing : goal.returns-in-Ok-clause-closing
returns-in-Ok-clause-closing g c = c.work_at.ensures.closing

pub returns-in-Ok-clause-let_go : goal.returns-in-Ok-clause-let_go
returns-in-Ok-clause-let_go g c = c.work_at.ensures.let_go

-- no desk was opened

pub returns-in-Err-clause-did : goal.returns-in-Err-clause-did
returns-in-Err-clause-did g c = inl (
  record {
    refusal = c.in-Err.refusal;
    told = c.without_desk.ensures.ending;
    named = c.in-Err.ensures.named;
    why = rw c.without_desk.ensures.left c.in-Err.ensures.refused;
  },
  refl,
)

pub returns-in-Err-clause-left : goal.returns-in-Err-clause-left
returns-in-Err-clause-left g c = rw c.without_desk.ensures.work tt

pub returns-in-Err-clause-named : goal.returns-in-Err-clause-named
returns-in-Err-clause-named g c =
    rw c.without_desk.ensures.work (inl (refl, c.in-Err.ensures.named))

pub returns-in-Err-clause-first : goal.returns-in-Err-clause-first
returns-in-Err-clause-first g c = rw c.without_desk.ensures.work (λ opening. (c.without_desk.ensures.closing, refl))

pub returns-in-Err-clause-closing : goal.returns-in-Err-clause-closing
returns-in-Err-clause-closing g c = rw c.without_desk.ensures.closing tt

pub returns-in-Err-clause-let_go : goal.returns-in-Err-clause-let_go
returns-in-Err-clause-let_go g c = rw c.without_desk.ensures.work (λ lasting. c.without_desk.ensures.closing)
