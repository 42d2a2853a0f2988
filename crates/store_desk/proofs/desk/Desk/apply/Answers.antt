use Rattle.std.proofs.Common.{◌≢◌, ◌∙◌, inl, inr, ap, subst}
use Rattle.std.proofs.lemmas.Result.{IfErr-weaker, IfOk-weaker}
use Rattle.base.specs.declared.refusal.Refusal.TheVariants as refusals
use Rattle.desk_history.specs.Calls.{History}
use Rattle.desk_history.specs.Runs.{is_accepted, reply_in}
use Rattle.desk_history.specs.Called.{called}
use Rattle.store_sql.specs.States.{Spares}
use Rattle.store_desk.specs.Desks.{Refuses, Replies, ShowsDesk}
use Rattle.store_desk.proofs.ActingLemmas.{next_same}
use Rattle.store_desk.proofs.desk.Desk.apply.Goals as goal

-- the answer is a reply or a refusal

pub returns-in-Ok-clause-ok : goal.returns-in-Ok-clause-ok
returns-in-Ok-clause-ok g c clean =
    let call = called c.args.caller.now c.args.key.now c.args.command.now in
    IfOk-weaker c.result_of.result _ (Replies g.S.Store c.args.self.now c.answer.new.self call) (λ reply is owner cs was.
    let it = c.in-Ok.ensures.ok clean owner cs was in
    (ap reply_in it.0 ∙ is, it.1)) c.result_of.ensures.ok

pub returns-in-Ok-clause-refused : goal.returns-in-Ok-clause-refused
returns-in-Ok-clause-refused g c clean =
    let call = called c.args.caller.now c.args.key.now c.args.command.now in
    IfErr-weaker c.result_of.result _ (Refuses g.S.Store c.args.self.now c.answer.new.self call) (λ refusal is no_store owner cs was.
    let it = c.in-Ok.ensures.ok clean owner cs was in
    let exact = it.0 ∙ is in
    (λ _. exact, subst (λ (h : History). ShowsDesk g.S.Store c.answer.new.self owner h) (next_same cs call (ap is_accepted exact)) it.1)) c.result_of.ensures.err

pub returns-in-Err-clause-refused : goal.returns-in-Err-clause-refused
returns-in-Err-clause-refused g c clean no_store owner cs was = (
  λ no_memory. elim (c.in-Err.ensures.named was.usable) [ inl memory ↦ absurd (no_memory memory) | inr store ↦ absurd (no_store store) ],
  c.in-Err.ensures.failed clean no_store owner cs was,
)

pub returns-in-Ok-clause-unwritten : goal.returns-in-Ok-clause-unwritten
returns-in-Ok-clause-unwritten g c =
    IfErr-weaker c.result_of.result _ (λ e. e ≢ refusals.Store → Spares g.S.Store c.args.self.now.conn c.answer.new.self.conn)
    (λ refusal is no_store. c.in-Ok.ensures.idle (ap is_accepted is)) c.result_of.ensures.err
