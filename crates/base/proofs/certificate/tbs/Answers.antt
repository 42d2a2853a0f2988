use Rattle.std.proofs.Common.{◌≡◌, ◌≢◌, true, false, eqb, ℕ, List, [], length, sym, ap, ◌∙◌, arith}
use Rattle.std.proofs.lemmas.Bool.Decides.{nat_tests}
use Rattle.std.proofs.lemmas.List.{nil_from_length}
use Rattle.base.specs.Parts.{part_of}
use Rattle.base.proofs.ElementLemmas.{no_outer, outer_is, no_inner, inner_is, certificate_of}
use Rattle.base.proofs.certificate.tbs.Goals as goal

empty : (r : List ℕ) → true ≡ eqb (length r) 0 → r ≡ []
empty r e = nil_from_length r (grind (arith, nat_tests, e))

not_empty : (r : List ℕ) → false ≡ eqb (length r) 0 → r ≢ []
not_empty r e n = let z = ap length n in grind (arith, nat_tests, e)

pub returns-in_default-clause-only : goal.returns-in_default-clause-only
returns-in_default-clause-only c = λ t h. no_outer c.args.bytes.now t h c.in_default.ensures.exact

pub returns-then-outer-ne-SEQUENCE-clause-only : goal.returns-then-outer-ne-SEQUENCE-clause-only
returns-then-outer-ne-SEQUENCE-clause-only c = λ t h.
    let outer = outer_is c.args.bytes.now t (part_of c.in-Ok.outer c.in-Ok.rest.now) h c.in-Ok.ensures.exact in
    c.if-outer-ne-SEQUENCE.true outer.tag

pub returns-then-not-is_empty-clause-only : goal.returns-then-not-is_empty-clause-only
returns-then-not-is_empty-clause-only c = λ t h.
    let outer = outer_is c.args.bytes.now t (part_of c.in-Ok.outer c.in-Ok.rest.now) h c.in-Ok.ensures.exact in
    not_empty c.in-Ok.rest.now (sym c.if-not-is_empty.true ∙ c.is_empty.ensures) outer.rest

pub returns-in_default-element-clause-only : goal.returns-in_default-element-clause-only
returns-in_default-element-clause-only c = λ t h.
    no_inner c.args.bytes.now t (part_of c.in-Ok.outer c.in-Ok.rest.now) h c.in-Ok.ensures.exact c.in_default-element.ensures.exact

pub returns-then-first-ne-SEQUENCE-clause-only : goal.returns-then-first-ne-SEQUENCE-clause-only
returns-then-first-ne-SEQUENCE-clause-only c = λ t h.
    let inner = inner_is c.args.bytes.now t (part_of c.in-Ok.outer c.in-Ok.rest.now) (part_of c.in-Ok-element.first c.in-Ok-element.field-0-1.now)
    h c.in-Ok.ensures.exact c.in-Ok-element.ensures.exact in
    c.if-first-ne-SEQUENCE.true inner.0

pub returns-clause-found : goal.returns-clause-found
returns-clause-found c =
    certificate_of c.args.bytes.now (part_of c.in-Ok.outer c.in-Ok.rest.now) (part_of c.in-Ok-element.first c.in-Ok-element.field-0-1.now)
    c.in-Ok.ensures.exact (omega (arith, c.if-outer-ne-SEQUENCE.false)) (empty _ (sym c.if-not-is_empty.false ∙ c.is_empty.ensures))
    c.in-Ok-element.ensures.exact (omega (arith, c.if-first-ne-SEQUENCE.false))
