use Rattle.http_calls.specs.Answers.{AnswersTask, ShowsAsked}
use Rattle.http_calls.specs.Given.{IsCallOfTask}
use Rattle.http_calls.proofs.AnswerLemmas.{closed_as, closed_read, serves_as, serves_read}
use Rattle.http_calls.proofs.GivenLemmas.{gives_as, gives_body, gives_read, gives_whole, shows_no_reply}
use Rattle.http_calls.proofs.serving.answer_task.Goals as goal

pub returns-in-Read-clause-served : goal.returns-in-Read-clause-served
returns-in-Read-clause-served g c clean owner cs was =
    serves_as (g.D.AnswersCalls.shows c.show.new.desk owner) (g.D.AnswersCalls.failed c.show.new.desk) cs (λ t. AnswersTask owner cs c.args.person t) c.args.task _ c.show.result c.in-Read.is
    (c.show.ensures.served clean owner cs was)

pub returns-in-Image-clause-served : goal.returns-in-Image-clause-served
returns-in-Image-clause-served g c clean owner cs was =
    serves_as (g.D.AnswersCalls.shows c.answer_image.new.desk owner) (g.D.AnswersCalls.failed c.answer_image.new.desk) cs (λ t. AnswersTask owner cs c.args.person t) c.args.task _ c.answer_image.result c.in-Image.is
    (c.answer_image.ensures.served clean owner cs was)

pub returns-in-Command-clause-served : goal.returns-in-Command-clause-served
returns-in-Command-clause-served g c clean owner cs was =
    serves_as (g.D.AnswersCalls.shows c.take.new.desk owner) (g.D.AnswersCalls.failed c.take.new.desk) cs (λ t. AnswersTask owner cs c.args.person t) c.args.task _ c.take.result c.in-Command.is
    (c.take.ensures.served clean owner cs was)

pub returns-in-Bytes-clause-served : goal.returns-in-Bytes-clause-served
returns-in-Bytes-clause-served g c clean owner cs was =
    serves_as (g.D.AnswersCalls.shows c.take-in-Bytes.new.desk owner) (g.D.AnswersCalls.failed c.take-in-Bytes.new.desk) cs (λ t. AnswersTask owner cs c.args.person t) c.args.task _ c.take-in-Bytes.result c.in-Bytes.is
    (serves_read (g.D.AnswersCalls.shows c.take-in-Bytes.new.desk owner) (g.D.AnswersCalls.failed c.take-in-Bytes.new.desk) cs c.args.person.name c.in-Bytes.key _ _ c.take-in-Bytes.result c.command_of.ensures.reads
    (c.take-in-Bytes.ensures.served clean owner cs was))

pub returns-in-Read-clause-closed : goal.returns-in-Read-clause-closed
returns-in-Read-clause-closed g c was =
    let shut = c.show.ensures.closed was in
    (closed_as (λ t owner cs. AnswersTask owner cs c.args.person t) c.args.task _ c.show.result c.in-Read.is shut.0, shut.1)

pub returns-in-Image-clause-closed : goal.returns-in-Image-clause-closed
returns-in-Image-clause-closed g c was =
    let shut = c.answer_image.ensures.closed was in
    (closed_as (λ t owner cs. AnswersTask owner cs c.args.person t) c.args.task _ c.answer_image.result c.in-Image.is shut.0, shut.1)

pub returns-in-Command-clause-closed : goal.returns-in-Command-clause-closed
returns-in-Command-clause-closed g c was =
    let shut = c.take.ensures.closed was in
    (closed_as (λ t owner cs. AnswersTask owner cs c.args.person t) c.args.task _ c.take.result c.in-Command.is shut.0, shut.1)

pub returns-in-Bytes-clause-closed : goal.returns-in-Bytes-clause-closed
returns-in-Bytes-clause-closed g c was =
    let shut = c.take-in-Bytes.ensures.closed was in
    (closed_as (λ t owner cs. AnswersTask owner cs c.args.person t) c.args.task _ c.take-in-Bytes.result c.in-Bytes.is (closed_read c.args.person.name c.in-Bytes.key _ _ c.take-in-Bytes.result c.command_of.ensures.reads shut.0), shut.1)

pub returns-in-Read-clause-gives : goal.returns-in-Read-clause-gives
returns-in-Read-clause-gives g c clean owner cs was =
    gives_as (g.D.AnswersCalls.shows c.show.new.desk owner) (g.D.AnswersCalls.failed c.show.new.desk) (g.D.AnswersCalls.leaves c.show.new.desk owner) cs (λ t. IsCallOfTask c.args.person t) c.args.task _ c.show.result c.in-Read.is
    (gives_read (g.D.AnswersCalls.shows c.show.new.desk owner) (g.D.AnswersCalls.failed c.show.new.desk) (g.D.AnswersCalls.leaves c.show.new.desk owner) cs _ (ShowsAsked owner cs c.args.person c.in-Read.reading) c.show.result
    (shows_no_reply owner cs c.args.person c.in-Read.reading) (c.show.ensures.served clean owner cs was) (c.show.ensures.stopped clean owner cs was))

pub returns-in-Image-clause-gives : goal.returns-in-Image-clause-gives
returns-in-Image-clause-gives g c clean owner cs was =
    gives_as (g.D.AnswersCalls.shows c.answer_image.new.desk owner) (g.D.AnswersCalls.failed c.answer_image.new.desk) (g.D.AnswersCalls.leaves c.answer_image.new.desk owner) cs (λ t. IsCallOfTask c.args.person t) c.args.task _ c.answer_image.result c.in-Image.is
    (c.answer_image.ensures.gives clean owner cs was)

pub returns-in-Command-clause-gives : goal.returns-in-Command-clause-gives
returns-in-Command-clause-gives g c clean owner cs was =
    gives_as (g.D.AnswersCalls.shows c.take.new.desk owner) (g.D.AnswersCalls.failed c.take.new.desk) (g.D.AnswersCalls.leaves c.take.new.desk owner) cs (λ t. IsCallOfTask c.args.person t) c.args.task _ c.take.result c.in-Command.is
    (gives_whole (g.D.AnswersCalls.shows c.take.new.desk owner) (g.D.AnswersCalls.failed c.take.new.desk) (g.D.AnswersCalls.leaves c.take.new.desk owner) cs c.args.person.name c.in-Command.key c.in-Command.command c.take.result
    (c.take.ensures.gives clean owner cs was))

pub returns-in-Bytes-clause-gives : goal.returns-in-Bytes-clause-gives
returns-in-Bytes-clause-gives g c clean owner cs was =
    gives_as (g.D.AnswersCalls.shows c.take-in-Bytes.new.desk owner) (g.D.AnswersCalls.failed c.take-in-Bytes.new.desk) (g.D.AnswersCalls.leaves c.take-in-Bytes.new.desk owner) cs (λ t. IsCallOfTask c.args.person t) c.args.task _ c.take-in-Bytes.result c.in-Bytes.is
    (gives_body (g.D.AnswersCalls.shows c.take-in-Bytes.new.desk owner) (g.D.AnswersCalls.failed c.take-in-Bytes.new.desk) (g.D.AnswersCalls.leaves c.take-in-Bytes.new.desk owner) cs c.args.person.name c.in-Bytes.key _ _ c.take-in-Bytes.result c.command_of.ensures.reads
    (c.take-in-Bytes.ensures.gives clean owner cs was))
