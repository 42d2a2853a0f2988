use Rattle.std.proofs.Common.{◌≡◌, ◌∙◌, length, subst, sym, rules}
use Rattle.pe_image.specs.Passes.{first_pass_of}
use Rattle.pe_image.specs.Spans.{StandBetween}
use Rattle.pe_image.proofs.PassesLemmas.{first-between, first-gapless}
use Rattle.pe_image.proofs.passes.first_pass.Goals as goal

pub returns-then-gap-eq0-clause-ascending : goal.returns-then-gap-eq0-clause-ascending
returns-then-gap-eq0-clause-ascending c = λ f layout.
    let exact = c.ranges-all.ensures.exact ∙ first-gapless c.args.layout.now (search rules) in
    subst (StandBetween 0 (length f)) (sym exact) (first-between f c.args.layout.now layout)

pub returns-else-gap-eq0-clause-ascending : goal.returns-else-gap-eq0-clause-ascending
returns-else-gap-eq0-clause-ascending c = λ f layout.
    let exact : c.but_last.result ≡ first_pass_of c.args.layout.now = search rules in
    subst (StandBetween 0 (length f)) (sym exact) (first-between f c.args.layout.now layout)
