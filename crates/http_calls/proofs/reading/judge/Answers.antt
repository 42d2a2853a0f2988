use Rattle.std.proofs.Common.{refl}
use Rattle.http_calls.proofs.AnswerLemmas.{closed_image}
use Rattle.http_calls.proofs.reading.judge.Goals as goal

pub returns-in-Ok-Err-clause-closed : goal.returns-in-Ok-Err-clause-closed
returns-in-Ok-Err-clause-closed g c was = (closed_image c.args.image c.read_facts.result c.in-Ok-Err.refused (rw c.in-Ok-Err.field-0-is at c.in-Ok-Err.is) c.read_facts.ensures.reads, refl)
