use Rattle.std.proofs.Common.{rules}
use Rattle.http_requests.proofs.TextLemmas.{data_of-text, data_of-no_text}
use Rattle.http_requests.proofs.bodies.values.parse.Goals as goal

pub returns-in_default-clause-err : goal.returns-in_default-clause-err
returns-in_default-clause-err c = data_of-no_text c.args.body.now (search rules)

pub returns-in-Ok-from_str-clause-ok : goal.returns-in-Ok-from_str-clause-ok
returns-in-Ok-from_str-clause-ok c = search (rules, data_of-text)
