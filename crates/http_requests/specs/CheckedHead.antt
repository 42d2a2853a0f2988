-- own: the request of a head, or the first of the checks on it that fails.
use Rattle.std.specs.Prelude.{◌≡◌, ℕ, List, Option, Some, None, Result, Ok, Err, nat_le, ◌==◌, if◌then◌else◌}
use Rattle.http_requests.specs.heads.Fields.{Occurrence, Parts, occurrence}
use Rattle.http_requests.specs.Fields.{Values, fields_of, bytes_of}
use Rattle.http_requests.specs.Paths.{resource_of}
use Rattle.http_requests.specs.Routes.{route_of, methods_of, limit_of, part_of}
use Rattle.http_requests.specs.declared.resource.Resource.{Resource}
use Rattle.http_requests.specs.declared.route.Route.{Route}
use Rattle.http_requests.specs.declared.route.Route.TheVariants.{Get, Post}
use Rattle.http_requests.specs.declared.want.CheckedHead.{CheckedHead}
use Rattle.http_requests.specs.declared.fault.WantedFault.{WantedFault}
use Rattle.http_requests.specs.declared.fault.WantedFault.TheVariants.{BadField, NoRoute, BadMethod, LengthNeeded, TooLarge}

-- the request of a head: a route, the length of the body, and the fields unchanged
pub record Want : Type 0 where
  pub route : Route
  pub size : ℕ
  pub part : List ℕ
  pub token : Option (List ℕ)
  pub key : Option (List ℕ)
  pub title : Option (List ℕ)
  pub stamp : Option (List ℕ)
  pub if_match : Occurrence

-- the length of a route's body, for the announced one: GET has none, POST must announce one within
-- the limit
abbrev pub size_of : Route → Option ℕ → Result ℕ WantedFault
size_of (Get r) None = Ok 0
size_of (Get r) (Some n) = if n == 0 then Ok 0 else Err BadField
size_of (Post r) None = Err LengthNeeded
size_of (Post r) (Some n) = if nat_le n (limit_of r) then Ok n else Err TooLarge

-- the request at a route with a body of that length
abbrev pub of_size : Parts → Values → Route → Result ℕ WantedFault → Result Want WantedFault
of_size p values route (Err fault) = Err fault
of_size p values route (Ok size) = Ok (record {
  route = route;
  size = size;
  part = part_of route p.target;
  token = values.token;
  key = values.key;
  title = values.title;
  stamp = values.stamp;
  if_match = p.if_match;
})

-- the request to a resource, if its method has this route
abbrev pub of_route : Parts → Values → Resource → Option Route → Result Want WantedFault
of_route p values resource None = Err (BadMethod (methods_of resource))
of_route p values resource (Some route) = of_size p values route (size_of route values.length)

-- the request to the resource at the target, if there is one
abbrev pub of_resource : Parts → Values → Option Resource → Result Want WantedFault
of_resource p values None = Err NoRoute
of_resource p values (Some resource) = of_route p values resource (route_of resource p.method)

-- the request, if these are the fields
abbrev pub of_fields : Parts → Result Values WantedFault → Result Want WantedFault
of_fields p (Err fault) = Err fault
of_fields p (Ok values) = of_resource p values (resource_of p.target)

-- the request of a head: its fields are checked first, then path, method and length
abbrev pub wanted_of : Parts → Result Want WantedFault
wanted_of p = of_fields p (fields_of p)

-- the request of a checked head in the code
abbrev pub shown : CheckedHead → Want
shown w = record {
  route = w.route;
  size = w.size;
  part = w.part.now;
  token = bytes_of w.token;
  key = bytes_of w.key;
  title = bytes_of w.title;
  stamp = bytes_of w.stamp;
  if_match = occurrence w.if_match;
}

-- the code returns this
abbrev pub Gives : Result Want WantedFault → Result CheckedHead WantedFault → Type 0
Gives want (Ok given) = want ≡ Ok (shown given)
Gives want (Err fault) = want ≡ Err fault
