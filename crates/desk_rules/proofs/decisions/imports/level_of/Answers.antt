use Rattle.std.proofs.Common.{◌∙◌, ap}
use Rattle.std.specs.FinMap.{get, get-empty}
use Rattle.desk_rules.proofs.ImportLemmas.{rows_more}
use Rattle.desk_rules.proofs.decisions.imports.level_of.Goals as goal

pub loop-row-preserved : goal.loop-row-preserved
loop-row-preserved c q other =
    rows_more c.args.rows.now c.loop-row.row-index c.row-item.result (get c.loop-row.level.generations q) (get c.take_row.new.level.generations q) q c.loop-row-test.true c.row-item.is
    (c.loop-row.invariant q other) (c.in_ok-take_row.ensures.ok q other)

pub loop-row-init : goal.loop-row-init
loop-row-init c q other = ap (λ l. get l.generations q) c.new-level.ensures ∙ get-empty _ q
