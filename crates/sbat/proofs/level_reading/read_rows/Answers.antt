use Rattle.std.proofs.Common.{◌≤◌, arith, rules}
use Rattle.std.specs.FinMap.{len}
use Rattle.std.proofs.lemmas.Bool.Decides.{nat_tests}
use Rattle.base.specs.Lines.{line_of}
use Rattle.sbat.specs.Refusals.{most_names}
use Rattle.sbat.proofs.LevelLemmas.{Raising-begins, Raising-ends, Raising-long, Raising-next}
use Rattle.sbat.proofs.level_reading.read_rows.Goals as goal

pub loop-line-preserved : goal.loop-line-preserved
loop-line-preserved c =
    Raising-next _ _ _ (line_of c.in-Some.line) _ _ _ _ (search rules) c.loop-line.invariant c.in-Some.ensures.steps c.in-Ok.ensures.ok

pub loop-line-init : goal.loop-line-init
loop-line-init c = Raising-begins _ _ _ _ c.new-level.ensures (search rules)

pub returns-then-len-gt-MOST_NAMES-clause-first : goal.returns-then-len-gt-MOST_NAMES-clause-first
returns-then-len-gt-MOST_NAMES-clause-first c =
    Raising-long _ _ _ _ c.loop-line.invariant c.in-None.ensures.steps.0 (grind (arith, nat_tests, c.len.ensures.exact, c.if-len-gt-MOST_NAMES.true))

pub returns-clause-exact : goal.returns-clause-exact
returns-clause-exact c =
    let room : len c.loop-line.level.generations ≤ most_names = grind (arith, nat_tests, c.len.ensures.exact, c.if-len-gt-MOST_NAMES.false) in
    (Raising-ends _ _ _ _ c.loop-line.invariant c.in-None.ensures.steps.0 room, room)
