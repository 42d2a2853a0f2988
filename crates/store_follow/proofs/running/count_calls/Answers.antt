use Rattle.base.specs.declared.refusal.Refusal.TheVariants as refusals
use Rattle.std.proofs.Common.{◌≡◌, sym}
use Rattle.store_minutes.proofs.FollowingLemmas.{desk_failed, no_store}
use Rattle.store_follow.proofs.running.count_calls.Goals as goal

pub returns-in-Ok-clause-exact : goal.returns-in-Ok-clause-exact
returns-in-Ok-clause-exact g c clean owner cs shown = sym (c.in-Ok.ensures.shown clean owner cs shown).calls

pub returns-in-Ok-clause-same : goal.returns-in-Ok-clause-same
returns-in-Ok-clause-same g c clean = c.in-Ok.ensures.reads.same clean (no_store c.in-Ok.counts)

pub returns-in-Err-clause-named : goal.returns-in-Err-clause-named
returns-in-Err-clause-named g c =
    desk_failed c.args.desk.now.needs_reopening c.in-Err.refusal c.in-Err.ensures.reads.named
    (λ closed. (let e = (c.in-Err.ensures.reads.closed closed).0 in let same : c.in-Err.refusal ≡ refusals.Reopen = cc in same))
