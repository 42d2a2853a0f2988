use Rattle.std.proofs.Common.{◌≡◌, Err, Ok, ap, refl, sym}
use Rattle.http_calls.specs.Answers.{IsTaken, call_of}
use Rattle.http_calls.specs.Given.{IsReadCall}
use Rattle.http_calls.specs.declared.answers.TaskAnswer.TheVariants.{Reply}
use Rattle.http_calls.proofs.AnswerLemmas.{serves_refusal, serves_reply, serves_same, taken_refusal}
use Rattle.http_calls.proofs.GivenLemmas.{gives_refusal, gives_reply}
use Rattle.http_calls.proofs.taking.take.Goals as goal

pub returns-in-Ok-clause-served : goal.returns-in-Ok-clause-served
returns-in-Ok-clause-served g c clean owner cs was =
    let after = g.D.AnswersCalls.shows c.apply.new.self owner in
    let failed = g.D.AnswersCalls.failed c.apply.new.self in
    let given = c.in-Ok.ensures.given clean owner cs was in
    serves_same after failed cs c.args.name c.args.key.now _ c.args.read (Reply c.in-Ok.reply) (sym (rw c.in-Ok-Ok.field-0-is at c.in-Ok-Ok.is))
    (serves_reply after failed cs c.args.name c.args.key.now c.in-Ok-Ok.command c.in-Ok.reply given.0 given.1)

pub returns-clause-served : goal.returns-clause-served
returns-clause-served g c clean owner cs was =
    let after = g.D.AnswersCalls.shows c.apply.new.self owner in
    let failed = g.D.AnswersCalls.failed c.apply.new.self in
    let refusal = c.in-Err-apply.refusal in
    let given = c.in-Err-apply.ensures in
    serves_same after failed cs c.args.name c.args.key.now _ c.args.read c.refuse.result (sym (rw c.in-Ok-Ok.field-0-is at c.in-Ok-Ok.is))
    (serves_refusal after failed cs (IsTaken cs c.args.name c.args.key.now (Ok c.in-Ok-Ok.command)) refusal c.refuse.result c.refuse.ensures
    (λ no. given.same clean no owner cs was)
    (λ is. given.fails.poisons (ap Err is))
    (λ no_memory no_store told. taken_refusal cs c.args.name c.args.key.now c.in-Ok-Ok.command refusal c.refuse.result
    (given.refused clean no_memory no_store owner cs was) told))

pub returns-in-Ok-clause-gives : goal.returns-in-Ok-clause-gives
returns-in-Ok-clause-gives g c clean owner cs was =
    let given = c.in-Ok.ensures.given clean owner cs was in
    gives_reply (g.D.AnswersCalls.shows c.apply.new.self owner) (g.D.AnswersCalls.failed c.apply.new.self) (g.D.AnswersCalls.leaves c.apply.new.self owner) cs
    (IsReadCall c.args.name c.args.key.now (λ r. c.args.read ≡ Ok r)) (call_of c.args.name c.args.key.now c.in-Ok-Ok.command) c.in-Ok.reply
    c.call_is_formed.ensures (c.in-Ok-Ok.command, rw c.in-Ok-Ok.field-0-is at c.in-Ok-Ok.is, refl) given.0 given.1 (c.in-Ok.ensures.stopped owner cs was)

pub returns-clause-gives : goal.returns-clause-gives
returns-clause-gives g c clean owner cs was =
    let given = c.in-Err-apply.ensures in
    gives_refusal (g.D.AnswersCalls.shows c.apply.new.self owner) (g.D.AnswersCalls.failed c.apply.new.self) (g.D.AnswersCalls.leaves c.apply.new.self owner) cs
    (IsReadCall c.args.name c.args.key.now (λ r. c.args.read ≡ Ok r)) (call_of c.args.name c.args.key.now c.in-Ok-Ok.command) c.in-Err-apply.refusal c.refuse.result c.refuse.ensures
    c.call_is_formed.ensures (c.in-Ok-Ok.command, rw c.in-Ok-Ok.field-0-is at c.in-Ok-Ok.is, refl)
    (λ no. given.same clean no owner cs was) (λ is. given.fails.poisons (ap Err is)) (given.stopped owner cs was)
