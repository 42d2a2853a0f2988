use Rattle.std.proofs.Common.{sym, ◌∙◌}
use Rattle.desk_types.proofs.SpaceLemmas.{cut_found, cut_none, none_fact}
use Rattle.desk_minutes.proofs.fields.parted_at.Goals as goal

pub returns-in_err-place-clause-only : goal.returns-in_err-place-clause-only
returns-in_err-place-clause-only c = none_fact _ (cut_none c.args.end c.args.text.now (sym c.first_place.ensures ∙ c.in_err-place.was))

pub returns-clause-found : goal.returns-clause-found
returns-clause-found c = cut_found c.args.end c.args.text.now c.in_ok-place.place (sym c.first_place.ensures ∙ c.in_ok-place.was)
