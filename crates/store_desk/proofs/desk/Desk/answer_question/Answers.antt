use Rattle.std.proofs.Common.{◌≡◌, ◌≢◌, Err, false, rules, refl, ap}
use Rattle.base.specs.declared.refusal.Refusal.TheVariants as refusals
use Rattle.store_desk.specs.declared.desk.Desk.{Desk}
use Rattle.store_desk.proofs.DeskLemmas.{reads_shown}
use Rattle.store_desk.proofs.desk.Desk.answer_question.Goals as goal

pub returns-in-Ok-clause-shown : goal.returns-in-Ok-clause-shown
returns-in-Ok-clause-shown g c clean owner cs was = c.in-Ok.ensures.ok clean owner cs was.history was.shows

pub returns-in-Ok-clause-reads : goal.returns-in-Ok-clause-reads
returns-in-Ok-clause-reads g c =
    let old = c.args.self.now in
    let new : Desk _ = record c.args.self.now { conn = c.ask.new.conn } in
    record {
      same = λ clean other owner cs was. reads_shown g.S.Store old new c.in-Ok.ensures.survives was.usable (c.in-Ok.ensures.same clean) refl refl owner cs was;
      spares = c.in-Ok.ensures.survives;
      poisons = search rules;
      steady = λ other. refl;
      closed = search rules;
      named = λ usable. tt;
    }

pub returns-in-Err-clause-reads : goal.returns-in-Err-clause-reads
returns-in-Err-clause-reads g c =
    let old = c.args.self.now in
    let new : Desk _ = record c.args.self.now { conn = c.ask.new.conn; needs_reopening = c.eq-self.result } in
    record {
      same = λ clean other owner cs was.
          let differs : c.in-Err.failure ≢ refusals.Store = λ is. other (ap Err is) in
          let usable : c.eq-self.result ≡ false = (let e = c.eq-self.ensures in search (rules, e, differs)) in
          reads_shown g.S.Store old new c.in-Err.ensures.survives usable (c.in-Err.ensures.same clean) refl refl owner cs was;
      spares = c.in-Err.ensures.survives;
      poisons = search rules;
      steady = search rules;
      closed = search rules;
      named = λ usable. c.in-Err.ensures.failed;
    }
