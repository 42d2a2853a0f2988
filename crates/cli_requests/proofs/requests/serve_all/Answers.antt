use Rattle.std.proofs.Common.{Err, ap, inl, inr, refl}
use Rattle.cli_requests.proofs.requests.serve_all.Goals as goal

pub returns-in-Ok-serve-clause-in_turn : goal.returns-in-Ok-serve-clause-in_turn
returns-in-Ok-serve-clause-in_turn g c = (c.serve.result, rw c.in-Ok-serve.is refl, inr c.serve.ensures.in_turn)

pub returns-in-Ok-serve-clause-done : goal.returns-in-Ok-serve-clause-done
returns-in-Ok-serve-clause-done g c = refl

pub returns-in-Err-clause-in_turn : goal.returns-in-Err-clause-in_turn
returns-in-Err-clause-in_turn g c = (Err c.in-Err.refusal, ap Err c.from.ensures, inl (ap Err c.in-Err.ensures, refl))

pub returns-in-Err-clause-named : goal.returns-in-Err-clause-named
returns-in-Err-clause-named g c = rw c.from.ensures (refl, inr c.in-Err.ensures)

pub returns-clause-in_turn : goal.returns-clause-in_turn
returns-clause-in_turn g c =
    (c.serve.result, rw c.in-Err-serve.is (ap Err c.from-in-Err-serve.ensures), inr c.serve.ensures.in_turn)

pub returns-clause-named : goal.returns-clause-named
returns-clause-named g c = rw c.from-in-Err-serve.ensures (refl, c.in-Err-serve.ensures.named)
