use Rattle.std.proofs.Common.{inl, inr, refl}
use Rattle.base.specs.declared.refusal.Refusal.TheVariants as refusals
use Rattle.cli_audit.proofs.AuditLemmas.{buffered}
use Rattle.cli_follow.proofs.EndLemmas.{at_desk, follow_first, follow_named, run_unowned}
use Rattle.cli_follow.proofs.following.follow_input.Goals as goal

-- memory for the reader was refused

pub returns-in-Err-clause-followed : goal.returns-in-Err-clause-followed
returns-in-Err-clause-followed g c = inl (
  record {
    refusal = refusals.NoMemory;
    told = c.without_desk.ensures.ending;
    named = inl (inl (inl refl));
    why = rw (c.without_desk.ensures.left, c.unused.ensures) (inl refl, refl);
  },
  refl,
  refl,
)

pub returns-in-Err-clause-done : goal.returns-in-Err-clause-done
returns-in-Err-clause-done g c = rw c.without_desk.ensures.work tt

pub returns-in-Err-clause-flushed : goal.returns-in-Err-clause-flushed
returns-in-Err-clause-flushed g c = rw c.without_desk.ensures.work tt

pub returns-in-Err-clause-named : goal.returns-in-Err-clause-named
returns-in-Err-clause-named g c = rw c.without_desk.ensures.work (inl (refl, inl (inl (inl refl))))

pub returns-in-Err-clause-first : goal.returns-in-Err-clause-first
returns-in-Err-clause-first g c = rw c.without_desk.ensures.work (λ finding. (c.without_desk.ensures.closing, refl, refl))

pub returns-in-Err-clause-owner : goal.returns-in-Err-clause-owner
returns-in-Err-clause-owner g c = rw c.without_desk.ensures.work (λ owner. (refl, refl))

pub returns-in-Err-clause-closing : goal.returns-in-Err-clause-closing
returns-in-Err-clause-closing g c = rw c.without_desk.ensures.closing tt

pub returns-in-Err-clause-let_go : goal.returns-in-Err-clause-let_go
returns-in-Err-clause-let_go g c = rw c.without_desk.ensures.work (λ lasting. c.without_desk.ensures.closing)

-- a desk was found or made

pub returns-in-Ok-open_or_make-clause-followed : goal.returns-in-Ok-open_or_make-clause-followed
returns-in-Ok-open_or_make-clause-followed g c =
    inr (at_desk c.args.owner.now _ _ _ _ c.follow_and_close.new.watch c.follow_and_close.result c.in-Ok-open_or_make.desk
    (buffered g.R.Read.remaining c.in-Ok.reader c.args.reader c.in-Ok.ensures.inner c.in-Ok.ensures.empty c.in-Ok.ensures.capacity)
    c.in-Ok-open_or_make.ensures.found c.follow_and_close.ensures.ran)

pub returns-in-Ok-open_or_make-clause-done : goal.returns-in-Ok-open_or_make-clause-done
returns-in-Ok-open_or_make-clause-done g c = c.follow_and_close.ensures.done

pub returns-in-Ok-open_or_make-clause-flushed : goal.returns-in-Ok-open_or_make-clause-flushed
returns-in-Ok-open_or_make-clause-flushed g c = c.follow_and_close.ensures.flushed

pub returns-in-Ok-open_or_make-clause-named : goal.returns-in-Ok-open_or_make-clause-named
returns-in-Ok-open_or_make-clause-named g c =
    follow_named _ _ _ c.follow_and_close.new.watch c.follow_and_close.result c.in-Ok-open_or_make.desk c.follow_and_close.ensures.ran

pub returns-in-Ok-open_or_make-clause-first : goal.returns-in-Ok-open_or_make-clause-first
returns-in-Ok-open_or_make-clause-first g c =
    follow_first _ _ _ c.follow_and_close.new.watch c.follow_and_close.result c.in-Ok-open_or_make.desk c.follow_and_close.ensures.ran _

pub returns-in-Ok-open_or_make-clause-owner : goal.returns-in-Ok-open_or_make-clause-owner
returns-in-Ok-open_or_make-clause-owner g c = run_unowned _ _ _ _ c.follow_and_close.new.watch c.follow_and_close.result c.in-Ok-open_or_make.desk _ c.follow_and_close.ensures.ran

pub returns-in-Ok-open_or_make-clause-closing : goal.returns-in-Ok-open_or_make-clause-closing
returns-in-Ok-open_or_make-clause-closing g c = c.follow_and_close.ensures.closing

pub returns-in-Ok-open_or_make-clause-let_go : goal.returns-in-Ok-open_or_make-clause-let_go
returns-in-Ok-open_or_make-clause-let_go g c = c.follow_and_close.ensures.let_go

-- none was

pub returns-clause-followed : goal.returns-clause-followed
returns-clause-followed g c = inl (
  record {
    refusal = c.in-Err-open_or_make.refusal;
    told = c.without_desk-in-Err-open_or_make.ensures.ending;
    named = c.in-Err-open_or_make.ensures.named;
    why = rw c.without_desk-in-Err-open_or_make.ensures.left c.in-Err-open_or_make.ensures.refused;
  },
  refl,
  refl,
)

pub returns-clause-done : goal.returns-clause-done
returns-clause-done g c = rw c.without_desk-in-Err-open_or_make.ensures.work tt

pub returns-clause-flushed : goal.returns-clause-flushed
returns-clause-flushed g c = rw c.without_desk-in-Err-open_or_make.ensures.work tt

pub returns-clause-named : goal.returns-clause-named
returns-clause-named g c = rw c.without_desk-in-Err-open_or_make.ensures.work (inl (refl, c.in-Err-open_or_make.ensures.named))

pub returns-clause-first : goal.returns-clause-first
returns-clause-first g c = rw c.without_desk-in-Err-open_or_make.ensures.work (λ finding. (c.without_desk-in-Err-open_or_make.ensures.closing, refl, refl))

pub returns-clause-owner : goal.returns-clause-owner
returns-clause-owner g c = rw c.without_desk-in-Err-open_or_make.ensures.work (λ owner. (refl, refl))

pub returns-clause-closing : goal.returns-clause-closing
returns-clause-closing g c = rw c.without_desk-in-Err-open_or_make.ensures.closing tt

pub returns-clause-let_go : goal.returns-clause-let_go
returns-clause-let_go g c = rw c.without_desk-in-Err-open_or_make.ensures.work (λ lasting. c.without_desk-in-Err-open_or_make.ensures.closing)
