use Rattle.std.proofs.Common.{refl}
use Rattle.http_exchange.specs.declared.served.HttpFault.TheVariants as fault
use Rattle.http_exchange.proofs.GivenLemmas.{fault_answers}
use Rattle.http_net.proofs.connection.answer_connection.Goals as goal

-- no memory for the reader: the desk and the writer are as they were
pub returns-in_default-clause-serves : goal.returns-in_default-clause-serves
returns-in_default-clause-serves g c =
    fault_answers g.D.AnswersCalls.shows g.D.AnswersCalls.clean g.D.AnswersCalls.failed g.D.AnswersCalls.leaves (g.R.Read.remaining c.args.reader)
    (g.W.Write.contents c.args.writer.now) c.args.desk.now c.args.desk.now (λ is owner cs shown. shown) (λ was. refl) (λ is. is)
    (g.met.D.AnswersCalls.rests c.args.desk.now) fault.NoMemory (λ e. cc)
