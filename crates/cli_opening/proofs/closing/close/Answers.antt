use Rattle.cli_opening.proofs.EndingLemmas.{closing_refusal}
use Rattle.cli_opening.proofs.closing.close.Goals as goal

pub returns-in-Ok-clause-closed : goal.returns-in-Ok-clause-closed
returns-in-Ok-clause-closed g c = record { copied = c.in-Ok.ensures.copied; found = c.in-Ok.ensures.found }

pub returns-in-Err-clause-broken : goal.returns-in-Err-clause-broken
returns-in-Err-clause-broken g c = record { stopped = c.in-Err.ensures.stopped; quiet = c.in-Err.ensures.quiet }

pub returns-in-Err-clause-named : goal.returns-in-Err-clause-named
returns-in-Err-clause-named g c =
    closing_refusal c.args.desk.needs_reopening c.in-Err.refusal c.in-Err.ensures.closed c.in-Err.ensures.named
