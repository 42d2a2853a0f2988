use Rattle.std.proofs.Common.{rules, ◌∙◌, ap}
use Rattle.std.specs.FinMap.{get}
use Rattle.desk_rules.proofs.ImportLemmas.{row_taken}
use Rattle.desk_rules.proofs.decisions.imports.take_row.Goals as goal

pub returns-clause-ok : goal.returns-clause-ok
returns-clause-ok c q other =
    ap (λ l. get l.generations q) c.in_ok-raise.ensures.ok ∙ row_taken c.args.level.now.generations c.args.row.now (search rules) q
