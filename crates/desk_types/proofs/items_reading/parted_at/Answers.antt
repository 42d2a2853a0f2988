use Rattle.std.proofs.Common.{sym, ◌∙◌}
use Rattle.desk_types.proofs.SpaceLemmas.{cut_found, cut_none, none_fact}
use Rattle.desk_types.proofs.items_reading.parted_at.Goals as goal

pub returns-in_err-end-clause-only : goal.returns-in_err-end-clause-only
returns-in_err-end-clause-only c = none_fact _ (cut_none c.args.byte c.args.text.now (sym c.first_at.ensures ∙ c.in_err-end.was))

pub returns-clause-found : goal.returns-clause-found
returns-clause-found c = cut_found c.args.byte c.args.text.now c.in_ok-end.end (sym c.first_at.ensures ∙ c.in_ok-end.was)
