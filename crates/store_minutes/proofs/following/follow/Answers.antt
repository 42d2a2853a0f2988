use Rattle.std.proofs.Common.{◌≡◌, Err, IfSome, ap, false, true, inl, refl, rules, sym, subst, arith, ◌∙◌}
use Rattle.sqlite.specs.Held.{state}
use Rattle.sqlite.specs.State.{HasCleanDisk}
use Rattle.base.specs.declared.refusal.Refusal.TheVariants as refusals
use Rattle.desk_history.specs.Calls.{Second, item}
use Rattle.desk_history.specs.Runs.{answer}
use Rattle.desk_minutes.proofs.LineLemmas.{fault_is}
use Rattle.store_schema.specs.rows.Histories.{HoldsHistory}
use Rattle.store_desk.specs.Desks.{ShowsDesk}
use Rattle.store_minutes.specs.Following.{IsDue}
use Rattle.store_minutes.proofs.FollowingLemmas.{accepted_next, accepted_reply, by_reply, desk_failed, either, either_as, may_join, none_as, none_read, none_read_as, not_accepted, only_by, read_is, spelt_as, still_leaves}
use Rattle.store_minutes.proofs.following.follow.Goals as goal

-- a line that isn't read

pub returns-in-Err-clause-wrong : goal.returns-in-Err-clause-wrong
returns-in-Err-clause-wrong g c = λ clean fault. (
  λ owner cs shown is d. none_read cs c.args.line.now c.args.number shown.history is (c.in-Err.ensures.only (ap Err (fault_is _ _ fault))) (item d),
  λ owner cs shown. shown,
)

pub returns-in-Err-clause-stopped : goal.returns-in-Err-clause-stopped
returns-in-Err-clause-stopped g c = λ owner cs shown is clean db may. inl (shown.left clean db may)

-- a device failed before the decision

pub returns-in-Err-reply_due-clause-stopped : goal.returns-in-Err-reply_due-clause-stopped
returns-in-Err-reply_due-clause-stopped g c = λ owner cs shown is clean db may.
    inl (still_leaves (λ t. HoldsHistory t owner cs) (state g.S.Store c.args.desk.now.conn) (state g.S.Store c.reply_due.new.desk.conn) c.in-Err-reply_due.ensures.spares shown.left clean db may)

pub returns-in-Err-reply_due-clause-clean : goal.returns-in-Err-reply_due-clause-clean
returns-in-Err-reply_due-clause-clean g c = λ clean. omega (arith, c.in-Err-reply_due.ensures.spares.clean, clean)

-- the rules refuse the call, or give another reply

pub returns-then-not-is_due-clause-wrong : goal.returns-then-not-is_due-clause-wrong
returns-then-not-is_due-clause-wrong g c = λ clean fault. (
  λ owner cs shown is.
      let read = c.in-Ok.read in
      let found = c.in-Ok.ensures.found in
      let differs : c.is_due.result ≡ false = search (rules, c.if-not-is_due.true) in
      only_by cs c.args.line.now c.args.number read.call read.reply shown.history c.ranges.number.fits is found.0 found.1 Second (λ may due.
      by_reply (IsDue g.S.Store c.args.desk.now read.call) c.in-Ok-reply_due.due read.reply
      (c.in-Ok-reply_due.ensures.none clean) (c.in-Ok-reply_due.ensures.due clean) (c.is_due.ensures.differ differs)
      (λ refused. not_accepted (answer cs read.call) _ (refused owner cs shown) may)
      (λ reply said differ. differ (sym (accepted_reply cs (item read.call) reply (said owner cs shown)) ∙ due))),
  c.in-Ok-reply_due.ensures.same clean,
)

pub returns-then-not-is_due-clause-stopped : goal.returns-then-not-is_due-clause-stopped
returns-then-not-is_due-clause-stopped g c = λ owner cs shown is clean db may.
    inl (still_leaves (λ t. HoldsHistory t owner cs) (state g.S.Store c.args.desk.now.conn) (state g.S.Store c.reply_due.new.desk.conn) c.in-Ok-reply_due.ensures.spares shown.left clean db may)

pub returns-then-not-is_due-clause-clean : goal.returns-then-not-is_due-clause-clean
returns-then-not-is_due-clause-clean g c = λ clean. omega (arith, c.in-Ok-reply_due.ensures.spares.clean, clean)

-- the call is given

pub returns-in-Ok-answer-clause-ok : goal.returns-in-Ok-answer-clause-ok
returns-in-Ok-answer-clause-ok g c = λ clean owner cs shown is.
    let read = c.in-Ok.read in
    let found = c.in-Ok.ensures.found in
    let mid : HasCleanDisk (state g.S.Store c.reply_due.new.desk.conn) = c.in-Ok-answer.ensures.clean clean in
    let due : c.is_due.result ≡ true = search (rules, c.if-not-is_due.false) in
    let accepted = subst (λ o. IfSome o (IsDue g.S.Store c.args.desk.now read.call)) (c.is_due.ensures.same due) (c.in-Ok-reply_due.ensures.due mid) owner cs shown in
    let said = c.in-Ok-answer.ensures.ok clean owner cs (c.in-Ok-reply_due.ensures.same mid owner cs shown) in
    record {
      call = read.call;
      formed = found.0.call;
      accepted = may_join cs (item read.call) read.reply accepted refl;
      is = read_is cs c.args.line.now c.args.number (item read.call) read.reply is found.1 accepted;
      shows = subst (ShowsDesk g.S.Store c.answer.new.self owner) (accepted_next cs read.call read.reply accepted) said.1;
    }

pub returns-in-Ok-answer-clause-stopped : goal.returns-in-Ok-answer-clause-stopped
returns-in-Ok-answer-clause-stopped g c = λ owner cs shown is clean db may.
    let read = c.in-Ok.read in
    let found = c.in-Ok.ensures.found in
    let mid : HasCleanDisk (state g.S.Store c.reply_due.new.desk.conn) = c.in-Ok-answer.ensures.clean clean in
    let due : c.is_due.result ≡ true = search (rules, c.if-not-is_due.false) in
    let accepted = subst (λ o. IfSome o (IsDue g.S.Store c.args.desk.now read.call)) (c.is_due.ensures.same due) (c.in-Ok-reply_due.ensures.due mid) owner cs shown in
    let left = c.in-Ok-answer.ensures.stopped owner cs (c.in-Ok-reply_due.ensures.same mid owner cs shown) clean db may in
    either (HoldsHistory db owner) cs read.call read.reply c.args.line.now accepted found.0.call
    (read_is cs c.args.line.now c.args.number (item read.call) read.reply is found.1 accepted) left.0 left.1 left.2

pub returns-clause-stopped : goal.returns-clause-stopped
returns-clause-stopped g c = λ owner cs shown is clean db may.
    let read = c.in-Ok.read in
    let found = c.in-Ok.ensures.found in
    let mid : HasCleanDisk (state g.S.Store c.reply_due.new.desk.conn) = c.in-Err-answer.ensures.clean clean in
    let due : c.is_due.result ≡ true = search (rules, c.if-not-is_due.false) in
    let accepted = subst (λ o. IfSome o (IsDue g.S.Store c.args.desk.now read.call)) (c.is_due.ensures.same due) (c.in-Ok-reply_due.ensures.due mid) owner cs shown in
    let left = c.in-Err-answer.ensures.stopped owner cs (c.in-Ok-reply_due.ensures.same mid owner cs shown) clean db may in
    either (HoldsHistory db owner) cs read.call read.reply c.args.line.now accepted found.0.call
    (read_is cs c.args.line.now c.args.number (item read.call) read.reply is found.1 accepted) left.0 left.1 left.2

pub returns-in-Ok-answer-clause-clean : goal.returns-in-Ok-answer-clause-clean
returns-in-Ok-answer-clause-clean g c = λ clean. omega (arith, c.in-Ok-reply_due.ensures.spares.clean, c.in-Ok-answer.ensures.clean clean)

pub returns-clause-clean : goal.returns-clause-clean
returns-clause-clean g c = λ clean. omega (arith, c.in-Ok-reply_due.ensures.spares.clean, c.in-Err-answer.ensures.clean clean)

pub returns-clause-named : goal.returns-clause-named
returns-clause-named g c =
    desk_failed c.reply_due.new.desk.needs_reopening c.in-Err-answer.refusal c.in-Err-answer.ensures.named
    (λ closed. (let e = (c.in-Err-answer.ensures.closed closed).0 in let same : c.in-Err-answer.refusal ≡ refusals.Reopen = cc in same))

-- ---- the same whatever the number

pub returns-in-Err-clause-ends : goal.returns-in-Err-clause-ends
returns-in-Err-clause-ends g c = λ clean fault owner cs shown.
    none_read_as cs c.args.line.now c.args.number shown.history (c.in-Err.ensures.only (ap Err (fault_is _ _ fault)))

pub returns-in-Err-clause-leaves : goal.returns-in-Err-clause-leaves
returns-in-Err-clause-leaves g c = λ owner cs shown clean db may. inl (shown.left clean db may)

pub returns-in-Err-reply_due-clause-leaves : goal.returns-in-Err-reply_due-clause-leaves
returns-in-Err-reply_due-clause-leaves g c = λ owner cs shown clean db may.
    inl (still_leaves (λ t. HoldsHistory t owner cs) (state g.S.Store c.args.desk.now.conn) (state g.S.Store c.reply_due.new.desk.conn) c.in-Err-reply_due.ensures.spares shown.left clean db may)

pub returns-then-not-is_due-clause-ends : goal.returns-then-not-is_due-clause-ends
returns-then-not-is_due-clause-ends g c = λ clean fault owner cs shown.
    let read = c.in-Ok.read in
    let found = c.in-Ok.ensures.found in
    let differs : c.is_due.result ≡ false = search (rules, c.if-not-is_due.true) in
    none_as cs c.args.line.now c.args.number shown.history read.call read.reply c.ranges.number.fits found.0 found.1 (λ may due.
    by_reply (IsDue g.S.Store c.args.desk.now read.call) c.in-Ok-reply_due.due read.reply
    (c.in-Ok-reply_due.ensures.none clean) (c.in-Ok-reply_due.ensures.due clean) (c.is_due.ensures.differ differs)
    (λ refused. not_accepted (answer cs read.call) _ (refused owner cs shown) may)
    (λ reply said differ. differ (sym (accepted_reply cs (item read.call) reply (said owner cs shown)) ∙ due)))

pub returns-then-not-is_due-clause-leaves : goal.returns-then-not-is_due-clause-leaves
returns-then-not-is_due-clause-leaves g c = λ owner cs shown clean db may.
    inl (still_leaves (λ t. HoldsHistory t owner cs) (state g.S.Store c.args.desk.now.conn) (state g.S.Store c.reply_due.new.desk.conn) c.in-Ok-reply_due.ensures.spares shown.left clean db may)

pub returns-in-Ok-answer-clause-goes_on : goal.returns-in-Ok-answer-clause-goes_on
returns-in-Ok-answer-clause-goes_on g c = λ clean owner cs shown.
    let read = c.in-Ok.read in
    let found = c.in-Ok.ensures.found in
    let mid : HasCleanDisk (state g.S.Store c.reply_due.new.desk.conn) = c.in-Ok-answer.ensures.clean clean in
    let due : c.is_due.result ≡ true = search (rules, c.if-not-is_due.false) in
    let accepted = subst (λ o. IfSome o (IsDue g.S.Store c.args.desk.now read.call)) (c.is_due.ensures.same due) (c.in-Ok-reply_due.ensures.due mid) owner cs shown in
    let said = c.in-Ok-answer.ensures.ok clean owner cs (c.in-Ok-reply_due.ensures.same mid owner cs shown) in
    record {
      call = read.call;
      formed = found.0.call;
      accepted = may_join cs (item read.call) read.reply accepted refl;
      is = spelt_as cs c.args.line.now c.args.number (item read.call) read.reply found.1 accepted;
      shows = subst (ShowsDesk g.S.Store c.answer.new.self owner) (accepted_next cs read.call read.reply accepted) said.1;
    }

pub returns-in-Ok-answer-clause-leaves : goal.returns-in-Ok-answer-clause-leaves
returns-in-Ok-answer-clause-leaves g c = λ owner cs shown clean db may.
    let read = c.in-Ok.read in
    let found = c.in-Ok.ensures.found in
    let mid : HasCleanDisk (state g.S.Store c.reply_due.new.desk.conn) = c.in-Ok-answer.ensures.clean clean in
    let due : c.is_due.result ≡ true = search (rules, c.if-not-is_due.false) in
    let accepted = subst (λ o. IfSome o (IsDue g.S.Store c.args.desk.now read.call)) (c.is_due.ensures.same due) (c.in-Ok-reply_due.ensures.due mid) owner cs shown in
    let left = c.in-Ok-answer.ensures.stopped owner cs (c.in-Ok-reply_due.ensures.same mid owner cs shown) clean db may in
    either_as (HoldsHistory db owner) cs read.call read.reply c.args.line.now c.args.number accepted found.0.call found.1 left.0 left.1 left.2

pub returns-clause-leaves : goal.returns-clause-leaves
returns-clause-leaves g c = λ owner cs shown clean db may.
    let read = c.in-Ok.read in
    let found = c.in-Ok.ensures.found in
    let mid : HasCleanDisk (state g.S.Store c.reply_due.new.desk.conn) = c.in-Err-answer.ensures.clean clean in
    let due : c.is_due.result ≡ true = search (rules, c.if-not-is_due.false) in
    let accepted = subst (λ o. IfSome o (IsDue g.S.Store c.args.desk.now read.call)) (c.is_due.ensures.same due) (c.in-Ok-reply_due.ensures.due mid) owner cs shown in
    let left = c.in-Err-answer.ensures.stopped owner cs (c.in-Ok-reply_due.ensures.same mid owner cs shown) clean db may in
    either_as (HoldsHistory db owner) cs read.call read.reply c.args.line.now c.args.number accepted found.0.call found.1 left.0 left.1 left.2
