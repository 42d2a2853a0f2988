use Rattle.std.proofs.Common.{rules, refl}
use Rattle.http_requests.proofs.NumberLemmas.{number_found, number_only}
use Rattle.http_requests.proofs.asking.number.Goals as goal

pub returns-in_default : goal.returns-in_default
returns-in_default c = λ differ. (number_only c.args.wanted.now.part.now (search rules), refl)

pub returns : goal.returns
returns c = number_found c.args.wanted.now.part.now c.in-Some.number c.value.ensures.form c.in-Some.ensures.found
