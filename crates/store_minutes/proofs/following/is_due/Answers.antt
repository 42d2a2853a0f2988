use Rattle.std.proofs.Common.{Some, ap, ◌∙◌}
use Rattle.store_minutes.proofs.following.is_due.Goals as goal

-- the reply that is due is the one that the line tells
pub returns-in-Some-clause-same : goal.returns-in-Some-clause-same
returns-in-Some-clause-same c = λ same. c.in-Some.is ∙ ap Some (c.is_same_reply.ensures.same same)
