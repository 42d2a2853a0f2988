use Rattle.std.proofs.Common.{arith}
use Rattle.desk_inputs.proofs.FirstWordLemmas.{PassesDigits-read, first_word-ended, first_word-last, first_word-read}
use Rattle.desk_inputs.proofs.given_token.read_first_word.Goals as goal

pub returns-in-None-clause-word : goal.returns-in-None-clause-word
returns-in-None-clause-word g c =
    let end = rw c.in-None.is at c.in_ok-next_byte.ensures.end in
    first_word-last _ _ _ c.loop-reader.word.items c.loop-reader.invariant.taken end c.loop-reader.invariant.plain c.loop-reader.invariant.whole

pub returns-in-Some-eq10-clause-word : goal.returns-in-Some-eq10-clause-word
returns-in-Some-eq10-clause-word g c =
    let byte = rw c.in-Some-eq10.is at c.in_ok-next_byte.ensures.byte in
    first_word-ended _ _ _ c.loop-reader.word.items c.without_cr.result.items c.in-Some-eq10.field-0 c.loop-reader.invariant.taken byte
    c.in-Some-eq10.field-0-test c.loop-reader.invariant.plain c.loop-reader.invariant.whole c.without_cr.ensures

pub returns-in-Some-eq32-clause-word : goal.returns-in-Some-eq32-clause-word
returns-in-Some-eq32-clause-word g c =
    let byte = rw c.in-Some-eq32.is at c.in_ok-next_byte.ensures.byte in
    first_word-read _ _ _ c.loop-reader.word.items c.in-Some-eq32.field-0 c.loop-reader.invariant.taken byte
    c.in-Some-eq32.field-0-test c.loop-reader.invariant.plain c.loop-reader.invariant.whole

pub returns-clause-long : goal.returns-clause-long
returns-clause-long g c = λ _.
    PassesDigits-read _ _ c.loop-reader.word.items c.loop-reader.invariant.taken c.loop-reader.invariant.plain c.loop-reader.invariant.whole (omega arith)
