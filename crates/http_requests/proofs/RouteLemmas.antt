-- The rows of a router after a route was put in.
use Rattle.std.proofs.Common.{◌≡◌, Result, Ok, Err, OnOk}
use Rattle.matchit.specs.Rows.{RowsOf}
use Rattle.matchit.specs.Route.{Scan}
use Rattle.matchit.specs.Router.{RouteOf, InsertsRead}
use Rattle.matchit.specs.declared.error.InsertError.{InsertError}
use Rattle.http_requests.specs.Paths.{with_read}
use Rattle.http_requests.specs.declared.resource.Resource.{Resource}

-- where the insert succeeded, the rows have the route
pub inserted : (x : Result Scan InsertError) (resource : Resource) (old new : RowsOf (RouteOf Resource)) (r : Result (Unit {0}) InsertError)
    → InsertsRead x resource old new r → OnOk r (new ≡ with_read x resource old)
inserted (Ok s) resource old new (Ok u) h = h.1
inserted (Ok s) resource old new (Err e) h = tt
inserted (Err f) resource old new (Ok u) h = h.0
inserted (Err f) resource old new (Err e) h = tt
