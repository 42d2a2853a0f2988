use Rattle.std.proofs.Common.{length, inl, inr, arith, ap, ◌∙◌}
use Rattle.desk_types.specs.Raising.{names_no_sbat}
use Rattle.desk_types.proofs.FactsReadingLemmas.{components_same}
use Rattle.desk_types.proofs.NumberLemmas.{some_false}
use Rattle.desk_types.proofs.command_reading.imported_components_of.Goals as goal

pub returns-in-None-clause-only : goal.returns-in-None-clause-only
returns-in-None-clause-only c = λ fault cs forms few clean same.
    let found = c.in_ok-components.ensures.found in
    let one = components_same c.args.text.now c.in_ok-components.components.items cs found.0 forms found.1 same in
    elim c.in-None.ensures [
      | inl many ↦ omega (arith, ap length one, many)
      | inr named ↦ some_false (names_no_sbat c.in_ok-components.components.items) (ap names_no_sbat one ∙ clean) named
    ]
