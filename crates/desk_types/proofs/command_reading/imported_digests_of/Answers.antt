use Rattle.std.proofs.Common.{length, arith, ap}
use Rattle.desk_types.proofs.FactsReadingLemmas.{digests_same}
use Rattle.desk_types.proofs.command_reading.imported_digests_of.Goals as goal

pub returns-in-None-clause-only : goal.returns-in-None-clause-only
returns-in-None-clause-only c = λ fault ds forms few same.
    let found = c.in_ok-digests.ensures.found in
    let one = digests_same c.args.text.now c.in_ok-digests.digests.items ds found.0 forms found.1 same in
    omega (arith, ap length one, c.in-None.ensures)
