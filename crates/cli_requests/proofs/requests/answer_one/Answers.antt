use Rattle.std.proofs.Common.{◌∙◌, Err, ap, refl}
use Rattle.cli_requests.specs.Works.{work_of}
use Rattle.cli_requests.proofs.requests.answer_one.Goals as goal

pub returns-in-Ok-clause-answered : goal.returns-in-Ok-clause-answered
returns-in-Ok-clause-answered g c = (
  c.answer_connection.result,
  ap work_of c.in-Ok.ensures.value,
  c.answer_connection.ensures.serves,
)

pub returns-in-Ok-clause-done : goal.returns-in-Ok-clause-done
returns-in-Ok-clause-done g c = refl

pub returns-in-Err-clause-answered : goal.returns-in-Err-clause-answered
returns-in-Err-clause-answered g c = (
  c.answer_connection.result,
  ap Err c.from.ensures ∙ ap work_of c.in-Err.ensures.value,
  c.answer_connection.ensures.serves,
)

pub returns-in-Err-clause-named : goal.returns-in-Err-clause-named
returns-in-Err-clause-named g c = rw c.from.ensures (refl, c.in-Err.ensures.named)
