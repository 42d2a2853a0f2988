use Rattle.http_responses.proofs.VerdictLemmas.{each_verdict}
use Rattle.http_responses.proofs.json.laws.each_verdict_is_said.Goals as goal

pub returns : goal.returns
returns c = each_verdict
