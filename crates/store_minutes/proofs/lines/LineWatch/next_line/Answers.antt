use Rattle.std.proofs.Common.{◌≡◌, ◌<◌, length, subst, ◌∙◌, arith}
use Rattle.std.proofs.lemmas.Grind.{common_steps}
use Rattle.store_minutes.specs.Lines.{TakesPiece}
use Rattle.store_minutes.proofs.LineLemmas.{at_the_end, line_taken, no_refusal, pieces_taken, unbroken}
use Rattle.store_minutes.proofs.lines.LineWatch.next_line.Goals as goal

pub returns-in-Ok-true-clause-some : goal.returns-in-Ok-true-clause-some
returns-in-Ok-true-clause-some g c = λ more.
    let at = c.loop-self in
    let before = at.line.items in
    let after = c.append.new.line.items in
    let mid = g.R.Read.remaining at.reader in
    let last = g.R.Read.remaining c.append.new.reader in
    let some : 0 < length after = grind (arith, common_steps) in
    line_taken (g.R.Read.remaining c.args.reader.now) mid last before after at.invariant.1 at.invariant.2
    (subst (TakesPiece mid last before after) c.in-Ok-true.field-0-test c.in-Ok-true.ensures.taken) some

pub returns-in-Ok-true-clause-end : goal.returns-in-Ok-true-clause-end
returns-in-Ok-true-clause-end g c = λ none_left.
    let at = c.loop-self in
    let before = at.line.items in
    let after = c.append.new.line.items in
    let mid = g.R.Read.remaining at.reader in
    let last = g.R.Read.remaining c.append.new.reader in
    let none : length after ≡ 0 = grind (arith, common_steps) in
    at_the_end (g.R.Read.remaining c.args.reader.now) mid last before after at.invariant.1
    (subst (TakesPiece mid last before after) c.in-Ok-true.field-0-test c.in-Ok-true.ensures.taken) none

pub loop-self-preserved : goal.loop-self-preserved
loop-self-preserved g c =
    let at = c.loop-self in
    let before = at.line.items in
    let after = c.append.new.line.items in
    let mid = g.R.Read.remaining at.reader in
    let last = g.R.Read.remaining c.append.new.reader in
    let piece = subst (TakesPiece mid last before after) c.in-Ok-false.field-0-test c.in-Ok-false.ensures.taken in (
      c.in-Ok-false.ensures.steady (no_refusal c.in-Ok-false.field-0) ∙ at.invariant.0,
      pieces_taken (g.R.Read.remaining c.args.reader.now) mid last before after at.invariant.1 piece,
      unbroken mid last before after at.invariant.2 piece,
    )
