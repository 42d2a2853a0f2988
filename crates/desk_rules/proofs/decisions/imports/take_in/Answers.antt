use Rattle.std.proofs.Common.{rules, ap}
use Rattle.desk_rules.proofs.ImportLemmas.{takes_above, takes_below}
use Rattle.desk_rules.proofs.decisions.imports.take_in.Goals as goal

pub returns-then-not-is_above-clause-ok : goal.returns-then-not-is_above-clause-ok
returns-then-not-is_above-clause-ok c asked old seen is_asked was before =
    takes_below asked old seen c.args.component.now c.args.so_far.now is_asked before (search rules)

pub returns-clause-ok : goal.returns-clause-ok
returns-clause-ok c asked old seen is_asked was before =
    takes_above asked old seen c.args.component.now c.args.so_far.now is_asked before c.args.before.now.generations was (search rules) _
    (ap (λ l. l.generations) c.in_ok-raise.ensures.ok) (search rules) (search rules)
