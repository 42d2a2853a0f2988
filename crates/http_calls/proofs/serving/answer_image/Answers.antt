use Rattle.std.proofs.Common.{refl}
use Rattle.http_calls.specs.Answers.{AnswersImage, Judges, TellsFacts}
use Rattle.http_calls.specs.Given.{IsCallOfImage}
use Rattle.http_calls.proofs.AnswerLemmas.{closed_as, closed_read, closed_told, serves_as, serves_read, serves_told}
use Rattle.http_calls.proofs.GivenLemmas.{gives_as, gives_body, gives_read, gives_told, judges_no_reply, tells_no_reply}
use Rattle.http_calls.proofs.serving.answer_image.Goals as goal

pub returns-in-Submit-clause-served : goal.returns-in-Submit-clause-served
returns-in-Submit-clause-served g c clean owner cs was =
    serves_as (g.D.AnswersCalls.shows c.take.new.desk owner) (g.D.AnswersCalls.failed c.take.new.desk) cs (λ x. AnswersImage cs c.args.name x c.args.image) c.args.asked _ c.take.result c.in-Submit.is
    (serves_read (g.D.AnswersCalls.shows c.take.new.desk owner) (g.D.AnswersCalls.failed c.take.new.desk) cs c.args.name c.in-Submit.key _ _ c.take.result c.submission.ensures.reads
    (c.take.ensures.served clean owner cs was))

pub returns-in-Return-clause-served : goal.returns-in-Return-clause-served
returns-in-Return-clause-served g c clean owner cs was =
    serves_as (g.D.AnswersCalls.shows c.take-in-Return.new.desk owner) (g.D.AnswersCalls.failed c.take-in-Return.new.desk) cs (λ x. AnswersImage cs c.args.name x c.args.image) c.args.asked _ c.take-in-Return.result c.in-Return.is
    (serves_read (g.D.AnswersCalls.shows c.take-in-Return.new.desk owner) (g.D.AnswersCalls.failed c.take-in-Return.new.desk) cs c.args.name c.in-Return.key _ _ c.take-in-Return.result c.returned_file.ensures.reads
    (c.take-in-Return.ensures.served clean owner cs was))

pub returns-in-Verdict-clause-served : goal.returns-in-Verdict-clause-served
returns-in-Verdict-clause-served g c clean owner cs was =
    serves_as (g.D.AnswersCalls.shows c.judge.new.desk owner) (g.D.AnswersCalls.failed c.judge.new.desk) cs (λ x. AnswersImage cs c.args.name x c.args.image) c.args.asked _ c.judge.result c.in-Verdict.is
    (c.judge.ensures.served clean owner cs was)

pub returns-in-Facts-clause-served : goal.returns-in-Facts-clause-served
returns-in-Facts-clause-served g c clean owner cs was =
    let shows = g.D.AnswersCalls.shows c.args.desk.now owner in
    let failed = g.D.AnswersCalls.failed c.args.desk.now in
    serves_as shows failed cs (λ x. AnswersImage cs c.args.name x c.args.image) c.args.asked _ c.tell.result c.in-Facts.is
    (serves_told shows failed cs (TellsFacts c.args.image) c.tell.result c.tell.ensures.told was)

pub returns-in-Submit-clause-closed : goal.returns-in-Submit-clause-closed
returns-in-Submit-clause-closed g c was =
    let shut = c.take.ensures.closed was in
    (closed_as (λ x owner cs. AnswersImage cs c.args.name x c.args.image) c.args.asked _ c.take.result c.in-Submit.is (closed_read c.args.name c.in-Submit.key _ _ c.take.result c.submission.ensures.reads shut.0), shut.1)

pub returns-in-Return-clause-closed : goal.returns-in-Return-clause-closed
returns-in-Return-clause-closed g c was =
    let shut = c.take-in-Return.ensures.closed was in
    (closed_as (λ x owner cs. AnswersImage cs c.args.name x c.args.image) c.args.asked _ c.take-in-Return.result c.in-Return.is (closed_read c.args.name c.in-Return.key _ _ c.take-in-Return.result c.returned_file.ensures.reads shut.0), shut.1)

pub returns-in-Verdict-clause-closed : goal.returns-in-Verdict-clause-closed
returns-in-Verdict-clause-closed g c was =
    let shut = c.judge.ensures.closed was in
    (closed_as (λ x owner cs. AnswersImage cs c.args.name x c.args.image) c.args.asked _ c.judge.result c.in-Verdict.is shut.0, shut.1)

pub returns-in-Facts-clause-closed : goal.returns-in-Facts-clause-closed
returns-in-Facts-clause-closed g c was =
    (closed_as (λ x owner cs. AnswersImage cs c.args.name x c.args.image) c.args.asked _ c.tell.result c.in-Facts.is (closed_told (TellsFacts c.args.image) c.tell.result c.tell.ensures.told), refl)

pub returns-in-Submit-clause-gives : goal.returns-in-Submit-clause-gives
returns-in-Submit-clause-gives g c clean owner cs was =
    gives_as (g.D.AnswersCalls.shows c.take.new.desk owner) (g.D.AnswersCalls.failed c.take.new.desk) (g.D.AnswersCalls.leaves c.take.new.desk owner) cs (λ x. IsCallOfImage c.args.name x c.args.image) c.args.asked _ c.take.result c.in-Submit.is
    (gives_body (g.D.AnswersCalls.shows c.take.new.desk owner) (g.D.AnswersCalls.failed c.take.new.desk) (g.D.AnswersCalls.leaves c.take.new.desk owner) cs c.args.name c.in-Submit.key _ _ c.take.result c.submission.ensures.reads
    (c.take.ensures.gives clean owner cs was))

pub returns-in-Return-clause-gives : goal.returns-in-Return-clause-gives
returns-in-Return-clause-gives g c clean owner cs was =
    gives_as (g.D.AnswersCalls.shows c.take-in-Return.new.desk owner) (g.D.AnswersCalls.failed c.take-in-Return.new.desk) (g.D.AnswersCalls.leaves c.take-in-Return.new.desk owner) cs (λ x. IsCallOfImage c.args.name x c.args.image) c.args.asked _ c.take-in-Return.result c.in-Return.is
    (gives_body (g.D.AnswersCalls.shows c.take-in-Return.new.desk owner) (g.D.AnswersCalls.failed c.take-in-Return.new.desk) (g.D.AnswersCalls.leaves c.take-in-Return.new.desk owner) cs c.args.name c.in-Return.key _ _ c.take-in-Return.result c.returned_file.ensures.reads
    (c.take-in-Return.ensures.gives clean owner cs was))

pub returns-in-Verdict-clause-gives : goal.returns-in-Verdict-clause-gives
returns-in-Verdict-clause-gives g c clean owner cs was =
    gives_as (g.D.AnswersCalls.shows c.judge.new.desk owner) (g.D.AnswersCalls.failed c.judge.new.desk) (g.D.AnswersCalls.leaves c.judge.new.desk owner) cs (λ x. IsCallOfImage c.args.name x c.args.image) c.args.asked _ c.judge.result c.in-Verdict.is
    (gives_read (g.D.AnswersCalls.shows c.judge.new.desk owner) (g.D.AnswersCalls.failed c.judge.new.desk) (g.D.AnswersCalls.leaves c.judge.new.desk owner) cs _ (Judges cs c.args.image) c.judge.result (judges_no_reply cs c.args.image)
    (c.judge.ensures.served clean owner cs was) (c.judge.ensures.stopped clean owner cs was))

pub returns-in-Facts-clause-gives : goal.returns-in-Facts-clause-gives
returns-in-Facts-clause-gives g c clean owner cs was =
    gives_as (g.D.AnswersCalls.shows c.args.desk.now owner) (g.D.AnswersCalls.failed c.args.desk.now) (g.D.AnswersCalls.leaves c.args.desk.now owner) cs (λ x. IsCallOfImage c.args.name x c.args.image) c.args.asked _ c.tell.result c.in-Facts.is
    (gives_told (g.D.AnswersCalls.shows c.args.desk.now owner) (g.D.AnswersCalls.failed c.args.desk.now) (g.D.AnswersCalls.leaves c.args.desk.now owner) cs _ (TellsFacts c.args.image) c.tell.result (tells_no_reply c.args.image)
    c.tell.ensures.told was (g.met.D.AnswersCalls.rests c.args.desk.now owner cs was))
