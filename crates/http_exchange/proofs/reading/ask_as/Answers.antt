use Rattle.http_exchange.proofs.reading.ask_as.Goals as goal

pub returns-in-Err-clause-cause : goal.returns-in-Err-clause-cause
returns-in-Err-clause-cause g c = c.in-Err.ensures.cause c.args.intake.now
