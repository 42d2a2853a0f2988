use Rattle.http_exchange.proofs.asking.ask.Goals as goal

pub returns-in-Get-clause-cause : goal.returns-in-Get-clause-cause
returns-in-Get-clause-cause g c = c.ask_to_read.ensures.cause c.args.intake.now
