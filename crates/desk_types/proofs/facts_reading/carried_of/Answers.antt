use Rattle.std.proofs.Common.{length, arith, subst, sym, ap, ◌∙◌}
use Rattle.base.specs.Digests.{IsAscending}
use Rattle.desk_types.proofs.FactsReadingLemmas.{digests_same, refuted}
use Rattle.desk_types.proofs.facts_reading.carried_of.Goals as goal

pub returns-then-len-gt-MOST_CERTIFICATES-clause-only : goal.returns-then-len-gt-MOST_CERTIFICATES-clause-only
returns-then-len-gt-MOST_CERTIFICATES-clause-only c = λ fault ds forms up few same.
    let found = c.in_ok-digests.ensures.found in
    let one = digests_same c.args.text.now c.in_ok-digests.digests.items ds found.0 forms found.1 same in
    omega (arith, ap length one)

pub returns-then-not-is_ascending-clause-only : goal.returns-then-not-is_ascending-clause-only
returns-then-not-is_ascending-clause-only c = λ fault ds forms up few same.
    let found = c.in_ok-digests.ensures.found in
    let one = digests_same c.args.text.now c.in_ok-digests.digests.items ds found.0 forms found.1 same in
    refuted c.is_ascending.result _ c.is_ascending.ensures c.if-not-is_ascending.true (subst IsAscending (sym (c.deref.ensures.value ∙ one)) up)
