use Rattle.matchit.specs.Route.{parse_route}
use Rattle.http_requests.specs.Paths.{added}
use Rattle.http_requests.proofs.RouteLemmas.{inserted}
use Rattle.http_requests.proofs.routing.add.Goals as goal

pub returns : goal.returns
unfolding added
returns c = inserted (parse_route c.args.path.now) c.args.resource c.args.router.now c.insert.new.self c.insert.result c.insert.ensures
