use Rattle.std.proofs.Common.{Err, ap, inl, refl, sym, ◌∙◌}
use Rattle.desk_history.specs.Calls.{First, under}
use Rattle.desk_minutes.proofs.LineLemmas.{fault_is}
use Rattle.store_schema.specs.rows.Histories.{HoldsHistory}
use Rattle.store_audit.proofs.BeginningLemmas.{accepted_with, either_first, none_first}
use Rattle.store_minutes.proofs.FollowingLemmas.{may_join, none_read, only_by, read_is}
use Rattle.store_audit.proofs.beginning.follow_first.Goals as goal

-- a line that isn't read

pub returns-in-Err-clause-wrong : goal.returns-in-Err-clause-wrong
returns-in-Err-clause-wrong g c = λ clean fault. (
  λ owner cs shown is. none_read cs c.args.line.now c.args.number shown.history is (c.in-Err.ensures.only (ap Err (fault_is _ _ fault))),
  λ owner cs shown. shown,
)

pub returns-in-Err-clause-stopped : goal.returns-in-Err-clause-stopped
returns-in-Err-clause-stopped g c = λ owner cs shown is clean db may. inl (shown.left clean db may)

-- a reply that only the second rules give

pub returns-then-needs_second-clause-second : goal.returns-then-needs_second-clause-second
returns-then-needs_second-clause-second g c = λ _. (
  refl,
  record {
    call = c.in-Ok.read.call;
    reply = c.in-Ok.read.reply;
    told = c.in-Ok.ensures.found.0;
    is = c.in-Ok.ensures.found.1;
    second = sym c.needs_second.ensures ∙ c.if-needs_second.true;
  },
)

pub returns-then-needs_second-clause-stopped : goal.returns-then-needs_second-clause-stopped
returns-then-needs_second-clause-stopped g c = λ owner cs shown is clean db may. inl (shown.left clean db may)

-- the call is followed

pub returns-in-Ok-true-clause-joined : goal.returns-in-Ok-true-clause-joined
returns-in-Ok-true-clause-joined g c = λ clean step owner cs shown is.
    let read = c.in-Ok.read in
    let found = c.in-Ok.ensures.found in
    let joins = c.in-Ok-true.ensures.joined clean c.in-Ok-true.field-0-test owner cs shown in
    record {
      call = read.call;
      formed = found.0.call;
      accepted = may_join cs (under First read.call) read.reply joins.0 shown.first;
      is = read_is cs c.args.line.now c.args.number (under First read.call) read.reply is found.1 joins.0;
      shows = joins.1;
    }

pub returns-in-Ok-true-clause-stopped : goal.returns-in-Ok-true-clause-stopped
returns-in-Ok-true-clause-stopped g c = λ owner cs shown is clean db may.
    let read = c.in-Ok.read in
    let found = c.in-Ok.ensures.found in
    either_first (HoldsHistory db owner) cs read.call read.reply c.args.line.now shown.first found.0.call
    (λ accepted. read_is cs c.args.line.now c.args.number (under First read.call) read.reply is found.1 accepted)
    (c.in-Ok-true.ensures.stopped owner cs shown clean db may)

-- it isn't

pub returns-in-Ok-false-clause-wrong : goal.returns-in-Ok-false-clause-wrong
returns-in-Ok-false-clause-wrong g c = λ clean fault.
    let read = c.in-Ok.read in
    let found = c.in-Ok.ensures.found in
    let other = c.in-Ok-false.ensures.other clean c.in-Ok-false.field-0-test in (
      λ owner cs shown is.
          none_first cs c.args.line.now c.args.number read.call read.reply shown.history c.ranges.number.fits is found.0 found.1 shown.first (sym c.needs_second.ensures ∙ c.if-needs_second.false)
          (only_by cs c.args.line.now c.args.number read.call read.reply shown.history c.ranges.number.fits is found.0 found.1 First (λ may due.
          other.0 owner cs shown (accepted_with cs (under First read.call) read.reply may due))),
      other.1,
    )

pub returns-in-Ok-false-clause-stopped : goal.returns-in-Ok-false-clause-stopped
returns-in-Ok-false-clause-stopped g c = λ owner cs shown is clean db may.
    let read = c.in-Ok.read in
    let found = c.in-Ok.ensures.found in
    either_first (HoldsHistory db owner) cs read.call read.reply c.args.line.now shown.first found.0.call
    (λ accepted. read_is cs c.args.line.now c.args.number (under First read.call) read.reply is found.1 accepted)
    (c.in-Ok-false.ensures.stopped owner cs shown clean db may)

pub returns-clause-stopped : goal.returns-clause-stopped
returns-clause-stopped g c = λ owner cs shown is clean db may.
    let read = c.in-Ok.read in
    let found = c.in-Ok.ensures.found in
    either_first (HoldsHistory db owner) cs read.call read.reply c.args.line.now shown.first found.0.call
    (λ accepted. read_is cs c.args.line.now c.args.number (under First read.call) read.reply is found.1 accepted)
    (c.in-Err-follow.ensures.stopped owner cs shown clean db may)
