use Rattle.desk_rules.proofs.StandingLemmas.{says_verdict}
use Rattle.desk_rules.proofs.list_view.verdict.Goals as goal

pub returns : goal.returns
returns c = says_verdict c.args.view.now c.args.facts.now c.verdict_of.result c.verdict_of.ensures
