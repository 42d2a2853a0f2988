use Rattle.std.proofs.Common.{rules}
use Rattle.http_responses.proofs.refused_texts.refused_value.Goals as goal

pub returns : goal.returns
returns c = search rules
