use Rattle.desk_history.proofs.ImpactLemmas as lemmas
use Rattle.desk_history.proofs.impact_laws.each_rule_bars.Goals as goal

pub returns : goal.returns
returns c = lemmas.each_rule_bars
