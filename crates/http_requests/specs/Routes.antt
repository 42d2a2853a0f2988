-- own: the route of each method of a path.
use Rattle.std.specs.Prelude.{ℕ, List, Bool, true, codes, bytes_eq, if◌then◌else◌, Option, Some, None, is_some}
use Rattle.base.specs.Digests.{digest_of}
use Rattle.base.specs.Limits.{longest_image}
use Rattle.http_requests.specs.Targets.{minute_number, second_part, third_part}
use Rattle.http_requests.specs.declared.resource.Resource.{Resource}
use Rattle.http_requests.specs.declared.resource.Resource.TheVariants as resource
use Rattle.http_requests.specs.declared.resource.Methods.{Methods}
use Rattle.http_requests.specs.declared.resource.Methods.TheVariants as methods
use Rattle.http_requests.specs.declared.route.Route.{Route}
use Rattle.http_requests.specs.declared.route.Route.TheVariants as route
use Rattle.http_requests.specs.declared.route.GetRoute.{GetRoute}
use Rattle.http_requests.specs.declared.route.GetRoute.TheVariants as read
use Rattle.http_requests.specs.declared.route.PostRoute.{PostRoute}
use Rattle.http_requests.specs.declared.route.PostRoute.TheVariants as posts

-- the route of GET
abbrev pub got : Resource → Option Route
got (resource.Get r) = Some (route.Get r)
got (resource.Post r) = None
got (resource.GetAndPost r s) = Some (route.Get r)

-- the route of POST
abbrev pub posted : Resource → Option Route
posted (resource.Get r) = None
posted (resource.Post r) = Some (route.Post r)
posted (resource.GetAndPost r s) = Some (route.Post s)

-- the route of a method; methods are case-sensitive (RFC 9110, section 9.1)
abbrev pub route_of : Resource → List ℕ → Option Route
route_of r method =
    if bytes_eq method (codes "GET") then got r
    else (if bytes_eq method (codes "POST") then posted r else None)

-- the methods that a resource has
abbrev pub methods_of : Resource → Methods
methods_of (resource.Get r) = methods.Get
methods_of (resource.Post r) = methods.Post
methods_of (resource.GetAndPost r s) = methods.GetAndPost

-- their names, as the field Allow lists them (RFC 9110, section 10.2.1)
abbrev pub methods_text : Methods → List ℕ
methods_text methods.Get = codes "GET"
methods_text methods.Post = codes "POST"
methods_text methods.GetAndPost = codes "GET, POST"

-- own: the most bytes of a body; an image's has more
abbrev pub limit_of : PostRoute → ℕ
limit_of (posts.Image r) = longest_image
limit_of (posts.Command r) = 4194304

-- the part of a target that {no} or {digest} stands for where the path of this route of GET has it
abbrev pub part_read : GetRoute → List ℕ → List ℕ
part_read read.RequestsFrom target = third_part target
part_read read.RequestsWith target = third_part target
part_read read.ProposalsFrom target = third_part target
part_read _ target = second_part target

-- the part of a target that {no} or {digest} stands for where the route's path has it
abbrev pub part_of : Route → List ℕ → List ℕ
part_of (route.Get r) target = part_read r target
part_of (route.Post r) target = second_part target

-- own: whether the path of this route of GET is found with a part: the minutes and the parts of
-- lists need a number to read from, and a digest must be one; the others are found with any
abbrev pub takes : GetRoute → List ℕ → Bool
takes read.RequestsFrom part = is_some (minute_number part)
takes read.RequestsWith part = is_some (digest_of part)
takes read.ProposalsFrom part = is_some (minute_number part)
takes read.Minutes part = is_some (minute_number part)
takes _ part = true
