use Rattle.std.proofs.Common.{◌≡◌, ◌+◌, ◌-◌, ◌∷◌, take, ap, sym, ◌∙◌, eq-eqb, arith}
use Rattle.std.proofs.lemmas.Bool.Decides.{nat_tests}
use Rattle.std.proofs.lemmas.List.{take_rest}
use Rattle.base.specs.Lines.{lines_of, numbered_from}
use Rattle.base.proofs.LineLemmas.{lines_of-last, numbered_from-last, HasNoLf-none, lines_of-at_lf, lines_of-at_crlf}
use Rattle.base.proofs.line.first_line.Goals as goal

pub returns-in-None-clause-lines : goal.returns-in-None-clause-lines
returns-in-None-clause-lines c = λ n.
    ap (numbered_from n) (lines_of-last c.args.text.now (HasNoLf-none _ c.in-None.ensures)) ∙ numbered_from-last n c.args.text.now

pub returns-then-text-end-eq13-clause-lines : goal.returns-then-text-end-eq13-clause-lines
returns-then-text-end-eq13-clause-lines c = λ n.
    let t = c.args.text.now in
    let end = c.in-Some.end in
    let rest = take_rest t (end + 1) in
    ap (numbered_from n) (lines_of-at_crlf t end c.in-Some.ensures (omega arith) (eq-eqb _ 13 c.if-text-end-eq13.true) ∙ ap (λ r. take (end - 1) t ∷ lines_of r) (sym rest))

pub returns-else-text-end-eq13-clause-lines : goal.returns-else-text-end-eq13-clause-lines
returns-else-text-end-eq13-clause-lines c = λ n.
    let t = c.args.text.now in
    let end = c.in-Some.end in
    let rest = take_rest t (end + 1) in
    ap (numbered_from n) (lines_of-at_lf t end c.in-Some.ensures (λ k e. let at : k ≡ end - 1 = omega arith in rw at (grind (arith, nat_tests))) ∙ ap (λ r. take end t ∷ lines_of r) (sym rest))
