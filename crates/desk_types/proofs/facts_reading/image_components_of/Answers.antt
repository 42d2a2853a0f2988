use Rattle.std.proofs.Common.{length, arith, ap}
use Rattle.desk_types.proofs.FactsReadingLemmas.{components_same}
use Rattle.desk_types.proofs.facts_reading.image_components_of.Goals as goal

pub returns-in-None-clause-only : goal.returns-in-None-clause-only
returns-in-None-clause-only c = λ fault cs forms few same.
    let found = c.in_ok-components.ensures.found in
    let one = components_same c.args.text.now c.in_ok-components.components.items cs found.0 forms found.1 same in
    omega (arith, ap length one, c.in-None.ensures)
