-- own: the paths of the desk, as a router of `matchit` keeps them.
use Rattle.std.specs.Prelude.{ℕ, List, [], if◌then◌else◌, codes, Option, Some, None, option_map, option_and_then, Result, Ok, Err}
use Rattle.matchit.specs.Rows.{RowsOf}
use Rattle.matchit.specs.Route.{Scan, parse_route}
use Rattle.matchit.specs.Order.{placed}
use Rattle.matchit.specs.Seek.{first}
use Rattle.matchit.specs.Router.{RouteOf, route_from}
use Rattle.matchit.specs.declared.error.InsertError.{InsertError}
use Rattle.http_requests.specs.Routes.{part_read, takes}
use Rattle.http_requests.specs.declared.resource.Resource.{Resource}
use Rattle.http_requests.specs.declared.resource.Resource.TheVariants.{Get, Post, GetAndPost}
use Rattle.http_requests.specs.declared.route.GetRoute.{GetRoute}
use Rattle.http_requests.specs.declared.route.GetRoute.TheVariants as read
use Rattle.http_requests.specs.declared.route.PostRoute.TheVariants.{Image, Command}
use Rattle.http_requests.specs.declared.route.ImageRoute.{ImageRoute}
use Rattle.http_requests.specs.declared.route.ImageRoute.TheVariants as image
use Rattle.http_requests.specs.declared.route.CommandRoute.{CommandRoute}
use Rattle.http_requests.specs.declared.route.CommandRoute.TheVariants as command

-- a resource with GET only
abbrev pub get : GetRoute → Resource
get r = Get r

-- a resource with POST only, with an image
abbrev pub post_image : ImageRoute → Resource
post_image r = Post (Image r)

-- a resource with POST only, of a command
abbrev pub post_command : CommandRoute → Resource
post_command r = Post (Command r)

-- the rows of a router
abbrev pub Table : Type 0
Table = RowsOf (RouteOf Resource)

-- the rows and one path more, if its text reads as one
abbrev pub with_read : Result Scan InsertError → Resource → Table → Table
with_read (Ok scan) resource rows = placed (scan.pattern, route_from scan resource) rows
with_read (Err fault) resource rows = rows

-- the rows and the path of this text
unfoldable pub added : List ℕ → Resource → Table → Table
added path resource rows = with_read (parse_route path) resource rows

-- the rows and the paths of requests
unfoldable pub with_requests : Table → Table
with_requests rows =
    added (codes "/requests/{no}/return") (post_image image.Return)
    (added (codes "/requests/{no}/withdraw") (post_command command.Withdraw)
    (added (codes "/requests/{no}/review") (post_command command.Review)
    (added (codes "/requests/{no}") (get read.Request)
    (added (codes "/requests") (GetAndPost read.Requests (Image image.Submit)) rows))))

-- the rows and the paths of images that no request has
unfoldable pub with_images : Table → Table
with_images rows =
    added (codes "/facts") (post_image image.Facts)
    (added (codes "/verdict") (post_image image.Verdict) rows)

-- the rows and the paths of proposals
unfoldable pub with_proposals : Table → Table
with_proposals rows =
    added (codes "/proposals/{no}/explain") (post_command command.Explain)
    (added (codes "/proposals/{no}/drop") (post_command command.Drop)
    (added (codes "/proposals/{no}/confirm") (post_command command.Confirm)
    (added (codes "/proposals/{no}/impact") (get read.Impact)
    (added (codes "/proposals/{no}") (get read.Proposal)
    (added (codes "/proposals") (get read.Proposals) rows)))))

-- the rows and the paths of the lists
unfoldable pub with_lists : Table → Table
with_lists rows =
    added (codes "/dbx/digests") (post_command command.RevokeDigest)
    (added (codes "/dbx") (get read.Dbx)
    (added (codes "/db/unlist") (post_command command.Unlist)
    (added (codes "/db/digests") (post_command command.ListDigest)
    (added (codes "/db/certificates") (post_command command.ListCertificate)
    (added (codes "/db") (get read.Db) rows)))))

-- the rows and all other paths
unfoldable pub with_rest : Table → Table
with_rest rows =
    added (codes "/report") (get read.Report)
    (added (codes "/imports/level") (post_command command.ImportLevel)
    (added (codes "/imports/csv") (post_command command.ImportCsv)
    (added (codes "/imports/dbx") (post_command command.ImportDbx)
    (added (codes "/level") (GetAndPost read.Level (Command command.RaiseLevel))
    (added (codes "/dbx/certificates") (post_command command.RevokeCertificate) rows)))))

-- the rows and the paths of the minutes, of people and of the caller
unfoldable pub with_records : Table → Table
with_records rows =
    added (codes "/me") (get read.Me)
    (added (codes "/people") (get read.People)
    (added (codes "/minutes/{no}") (get read.Minutes) rows))

-- the rows and the paths of parts of lists, of requests by a digest, of what waits and of the
-- number of changes
unfoldable pub with_parts : Table → Table
with_parts rows =
    added (codes "/changes") (get read.Changes)
    (added (codes "/waiting") (get read.Waiting)
    (added (codes "/proposals/from/{no}") (get read.ProposalsFrom)
    (added (codes "/requests/with/{digest}") (get read.RequestsWith)
    (added (codes "/requests/from/{no}") (get read.RequestsFrom) rows))))

-- the table
unfoldable pub table : Table
table = with_parts (with_records (with_rest (with_lists (with_proposals (with_images (with_requests []))))))

-- the resource at a target in the table, by the definition of `matchit`
unfoldable pub listed_at : List ℕ → Option Resource
listed_at target = option_map (λ route. route.value) (first table target)

-- a route of GET at a target, if it takes the target's part
abbrev pub read_if_taken : List ℕ → GetRoute → Option Resource
read_if_taken target route = if takes route (part_read route target) then Some (get route) else None

-- a resource at a target; one of GET alone must take the target's part
abbrev pub if_taken : List ℕ → Resource → Option Resource
if_taken target (Get route) = read_if_taken target route
if_taken target resource = Some resource

-- the resource at a request's target
abbrev pub resource_of : List ℕ → Option Resource
resource_of target = option_and_then (if_taken target) (listed_at target)
