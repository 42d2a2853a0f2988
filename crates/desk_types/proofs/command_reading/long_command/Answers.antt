use Rattle.std.proofs.Common.{◌++◌, ap, ◌∙◌}
use Rattle.std.specs.Prelude.{codes}
use Rattle.desk_types.proofs.SpaceLemmas.{stripped}
use Rattle.desk_types.proofs.command_reading.long_command.Goals as goal

pub returns-in-Some-strip_prefix-2-clause-found : goal.returns-in-Some-strip_prefix-2-clause-found
returns-in-Some-strip_prefix-2-clause-found c =
    let word = c.as_slice-3.result.now in
    let rest = c.in-Some-strip_prefix-2.rest in
    stripped c.args.text.now word rest c.in-Some-strip_prefix-2.ensures.cases ∙ ap (λ w. w ++ rest.now) c.as_slice-3.ensures
    ∙ ap (λ r. codes "review " ++ r) c.in_ok-ballot_of.ensures.found

pub returns-in-Some-strip_prefix-4-clause-found : goal.returns-in-Some-strip_prefix-4-clause-found
returns-in-Some-strip_prefix-4-clause-found c =
    let word = c.as_slice-5.result.now in
    let rest = c.in-Some-strip_prefix-4.rest in
    stripped c.args.text.now word rest c.in-Some-strip_prefix-4.ensures.cases ∙ ap (λ w. w ++ rest.now) c.as_slice-5.ensures
    ∙ ap (λ r. codes "list-certificate " ++ r) c.in_ok-certificate_of.ensures.found
