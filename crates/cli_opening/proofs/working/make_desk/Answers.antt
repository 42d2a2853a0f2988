use Rattle.std.proofs.Common.{refl}
use Rattle.cli_opening.proofs.EndingLemmas.{made_desk}
use Rattle.cli_opening.proofs.working.make_desk.Goals as goal

-- the desk was made

pub returns-in-Ok-clause-made : goal.returns-in-Ok-clause-made
returns-in-Ok-clause-made g c =
    made_desk c.args.owner.now c.close_after.result c.in-Ok.desk c.in-Ok.ensures.made c.close_after.ensures.closed c.close_after.ensures.left

pub returns-in-Ok-clause-done : goal.returns-in-Ok-clause-done
returns-in-Ok-clause-done g c = rw c.close_after.ensures.work refl

pub returns-in-Ok-clause-named : goal.returns-in-Ok-clause-named
returns-in-Ok-clause-named g c = rw c.close_after.ensures.work tt

pub returns-in-Ok-clause-unmade : goal.returns-in-Ok-clause-unmade
returns-in-Ok-clause-unmade g c = rw c.close_after.ensures.work tt

pub returns-in-Ok-clause-first : goal.returns-in-Ok-clause-first
returns-in-Ok-clause-first g c = rw c.close_after.ensures.work tt

pub returns-in-Ok-clause-closing : goal.returns-in-Ok-clause-closing
returns-in-Ok-clause-closing g c = c.close_after.ensures.closing

-- no desk was made

pub returns-in-Err-clause-made : goal.returns-in-Err-clause-made
returns-in-Err-clause-made g c = rw c.without_desk.ensures.work tt

pub returns-in-Err-clause-done : goal.returns-in-Err-clause-done
returns-in-Err-clause-done g c = rw c.without_desk.ensures.work tt

pub returns-in-Err-clause-named : goal.returns-in-Err-clause-named
returns-in-Err-clause-named g c =
    rw c.without_desk.ensures.work (refl, c.in-Err.ensures.named)

pub returns-in-Err-clause-unmade : goal.returns-in-Err-clause-unmade
returns-in-Err-clause-unmade g c =
    rw (c.without_desk.ensures.work, c.without_desk.ensures.left) c.in-Err.ensures.refused

pub returns-in-Err-clause-first : goal.returns-in-Err-clause-first
returns-in-Err-clause-first g c =
    rw c.without_desk.ensures.work c.without_desk.ensures.closing

pub returns-in-Err-clause-closing : goal.returns-in-Err-clause-closing
returns-in-Err-clause-closing g c = rw c.without_desk.ensures.closing tt
