use Rattle.std.proofs.Common.{arith}
use Rattle.desk_inputs.proofs.FirstLineLemmas.{PassesTokens-read, first_line-last, first_line-read}
use Rattle.desk_inputs.proofs.token.read_first_line.Goals as goal

pub returns-in-None-clause-line : goal.returns-in-None-clause-line
returns-in-None-clause-line g c =
    let end = rw c.in-None.is at c.in_ok-next_byte.ensures.end in
    first_line-last _ _ _ c.loop-reader.line.items c.loop-reader.invariant.taken end c.loop-reader.invariant.plain

pub returns-in-Some-eq10-clause-line : goal.returns-in-Some-eq10-clause-line
returns-in-Some-eq10-clause-line g c =
    let byte = rw c.in-Some-eq10.is at c.in_ok-next_byte.ensures.byte in
    first_line-read _ _ _ c.loop-reader.line.items c.without_cr.result.items c.in-Some-eq10.field-0 c.loop-reader.invariant.taken byte
    c.in-Some-eq10.field-0-test c.loop-reader.invariant.plain c.without_cr.ensures

pub returns-clause-long : goal.returns-clause-long
returns-clause-long g c = λ _.
    PassesTokens-read _ _ c.loop-reader.line.items c.loop-reader.invariant.taken c.loop-reader.invariant.plain (omega arith)
