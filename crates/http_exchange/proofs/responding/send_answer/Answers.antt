use Rattle.std.proofs.Common.{refl, inl, ◌∙◌}
use Rattle.http_calls.specs.declared.answers.TaskAnswer.TheVariants.{Unavailable}
use Rattle.http_exchange.proofs.SendLemmas.{sends_response}
use Rattle.http_exchange.proofs.responding.send_answer.Goals as goal

pub returns-in-Ok : goal.returns-in-Ok
returns-in-Ok g c = (
  c.args.answer,
  inl refl,
  sends_response (g.W.Write.contents c.args.writer.now) (g.W.Write.contents c.send.new.writer) c.args.answer c.deref.result.now c.of-says.result
      c.send.result c.of-says.ensures (c.deref.ensures.value ∙ c.in-Ok.ensures) c.send.ensures,
)

pub returns-in-Err : goal.returns-in-Err
returns-in-Err g c = (Unavailable c.in-Err.outage, c.in-Err.ensures, c.send_outage.ensures)
