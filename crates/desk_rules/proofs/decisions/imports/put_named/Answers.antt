use Rattle.std.proofs.Common.{rules, inl}
use Rattle.desk_rules.proofs.EnforcingLemmas.{puts_named}
use Rattle.desk_rules.proofs.ForeseenRefusals.{force_foreseen}
use Rattle.desk_rules.proofs.decisions.imports.put_named.Goals as goal

pub returns-in-Some-clause-err : goal.returns-in-Some-clause-err
returns-in-Some-clause-err c = inl (record { so_far = c.in_ok-so_far.so_far; taken = c.in_ok-so_far.ensures.ok; refused = search rules })

pub returns-in-Some-clause-only : goal.returns-in-Some-clause-only
returns-in-Some-clause-only c =
    force_foreseen c.args.view.now c.args.kind c.args.named.now c.in_ok-so_far.so_far.names c.in-Some.refusal (search rules)

pub returns-clause-ok : goal.returns-clause-ok
returns-clause-ok c =
    puts_named c.args.view.now c.args.kind c.args.named.now c.in_ok-so_far.so_far c.in_ok-so_far.ensures.ok (search rules) c.put_entries.result c.put_entries.ensures.ok
