use Rattle.std.proofs.Common.{◌≡◌, ◌≢◌, Ok, Err, inl, inr, Result, length, rules, ap, ◌∙◌, arith}
use Rattle.base.specs.declared.refusal.Refusal.TheVariants as refusals
use Rattle.desk_history.specs.Runs.{answer, is_accepted}
use Rattle.store_minutes.proofs.FollowingLemmas.{desk_failed, no_store, none_due, reply_is_due}
use Rattle.store_minutes.proofs.applying.reply_due.Goals as goal

pub returns-in-Err-clause-named : goal.returns-in-Err-clause-named
returns-in-Err-clause-named g c =
    desk_failed c.args.desk.now.needs_reopening c.in-Err.refusal c.in-Err.ensures.reads.named
    (λ closed. (let e = (c.in-Err.ensures.reads.closed closed).0 in let same : c.in-Err.refusal ≡ refusals.Reopen = cc in same))

pub returns-then-is_empty-clause-none : goal.returns-then-is_empty-clause-none
returns-then-is_empty-clause-none g c clean owner cs was =
    let none : length c.in-Ok-decide.changes.writes.items ≡ 0 = (let e = c.is_empty.ensures in let h = c.if-is_empty.true in search (rules, e, h)) in
    none_due c.in-Ok-decide.changes owner cs c.args.call.now none (c.in-Ok-decide.ensures.exact owner cs was.history.legal (c.in-Ok.ensures.shown clean owner cs was))

pub returns-then-is_empty-clause-same : goal.returns-then-is_empty-clause-same
returns-then-is_empty-clause-same g c clean = c.in-Ok.ensures.reads.same clean (no_store c.in-Ok.view)

pub returns-in-Ok-decide-clause-due : goal.returns-in-Ok-decide-clause-due
returns-in-Ok-decide-clause-due g c clean owner cs was =
    let some : length c.in-Ok-decide.changes.writes.items ≢ 0 = (let e = c.is_empty.ensures in let h = c.if-is_empty.false in search (rules, e, h)) in
    reply_is_due c.in-Ok-decide.changes owner cs c.args.call.now some (c.in-Ok-decide.ensures.exact owner cs was.history.legal (c.in-Ok.ensures.shown clean owner cs was))

pub returns-clause-none : goal.returns-clause-none
returns-clause-none g c clean owner cs was =
    let other : c.in-Err-decide.refusal ≢ refusals.NoMemory = (let e = c.eq.ensures in let h = c.if-eq.false in search (rules, e, h)) in
    elim (c.in-Err-decide.ensures.exact owner cs was.history.legal (c.in-Ok.ensures.shown clean owner cs was)) [
      | inl is ↦ ap is_accepted is
      | inr memory ↦ absurd (other memory)
    ]
