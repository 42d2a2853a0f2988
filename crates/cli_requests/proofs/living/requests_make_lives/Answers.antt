use Rattle.cli_requests.proofs.LivingLemmas.{connections_make_lives, requests_make_lives}
use Rattle.cli_requests.proofs.living.requests_make_lives.Goals as goal

pub returns-clause-connections : goal.returns-clause-connections
returns-clause-connections g c = connections_make_lives g.S.Store c.args.old.now c.args.new.now

pub returns-clause-one : goal.returns-clause-one
returns-clause-one g c = requests_make_lives g.S.Store c.args.old.now c.args.new.now
