use Rattle.std.proofs.Common.{sym, ◌∙◌}
use Rattle.desk_types.proofs.SpaceLemmas.{none_fact, parted_found, parted_none}
use Rattle.desk_types.proofs.forms.parted_at_space.Goals as goal

pub returns-in_err-end-clause-only : goal.returns-in_err-end-clause-only
returns-in_err-end-clause-only c = none_fact _ (parted_none c.args.text.now (sym c.first_space.ensures ∙ c.in_err-end.was))

pub returns-clause-found : goal.returns-clause-found
returns-clause-found c = parted_found c.args.text.now c.in_ok-end.end (sym c.first_space.ensures ∙ c.in_ok-end.was)
