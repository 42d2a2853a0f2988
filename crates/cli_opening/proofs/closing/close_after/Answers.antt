use Rattle.std.proofs.Common.{refl}
use Rattle.cli_opening.proofs.EndingLemmas.{never_both, not_lasting, nothing_told}
use Rattle.cli_opening.proofs.closing.close_after.Goals as goal

-- the desk has to be opened again

pub returns-then-needs_reopening-clause-closed : goal.returns-then-needs_reopening-clause-closed
returns-then-needs_reopening-clause-closed g c = λ usable none.
    never_both c.args.work (c.needs_reopening.ensures.only c.if-needs_reopening.true) usable

pub returns-then-needs_reopening-clause-left : goal.returns-then-needs_reopening-clause-left
returns-then-needs_reopening-clause-left g c =
    rw c.unclosed.ensures (c.needs_reopening.ensures.only c.if-needs_reopening.true, c.release.ensures)

pub returns-then-needs_reopening-clause-let_go : goal.returns-then-needs_reopening-clause-let_go
returns-then-needs_reopening-clause-let_go g c = nothing_told c.args.work

-- it was closed

pub returns-in-Ok-clause-closed : goal.returns-in-Ok-clause-closed
returns-in-Ok-clause-closed g c = λ usable none. (c.in-Ok.files, c.in-Ok.ensures.closed)

pub returns-in-Ok-clause-left : goal.returns-in-Ok-clause-left
returns-in-Ok-clause-left g c = rw c.closed.ensures (refl, c.in-Ok.ensures.closed)

pub returns-in-Ok-clause-let_go : goal.returns-in-Ok-clause-let_go
returns-in-Ok-clause-let_go g c = nothing_told c.args.work

-- the close failed

pub returns-in-Err-clause-closed : goal.returns-in-Err-clause-closed
returns-in-Err-clause-closed g c = λ usable none. absurd (cc)

pub returns-in-Err-clause-left : goal.returns-in-Err-clause-left
returns-in-Err-clause-left g c = rw c.broken.ensures (refl, c.in-Err.ensures.broken)

pub returns-in-Err-clause-closing : goal.returns-in-Err-clause-closing
returns-in-Err-clause-closing g c = rw c.from.ensures (refl, c.in-Err.ensures.named)

pub returns-in-Err-clause-let_go : goal.returns-in-Err-clause-let_go
returns-in-Err-clause-let_go g c =
    not_lasting c.args.work c.needs_reopening.result _ c.if-needs_reopening.false c.needs_reopening.ensures.lasting
