-- Images in commands, before the history gives them a request.
use Rattle.std.specs.Prelude.{ℕ, ◌+◌, Option, option_map, is_some, unwrap_or, if◌then◌else◌}
use Rattle.desk_types.specs.Naming.{facts_brought, request_named}
use Rattle.desk_types.specs.declared.command.Command.{Command}
use Rattle.desk_history.specs.Images.{Image}
use Rattle.desk_history.specs.declared.impact.WhichFile.{WhichFile}
use Rattle.desk_history.specs.declared.impact.WhichFile.TheVariants as files
use Rattle.store_impacts.specs.declared.passed.BroughtImage.{BroughtImage}

-- the image that the command brings, and the request that it names: a Return names one, a Submit
-- none
abbrev pub passed_by : Command → Option BroughtImage
passed_by c = option_map (λ facts. record { named = request_named c; facts = facts }) (facts_brought c)

-- which file it is
abbrev pub file_of : BroughtImage → WhichFile
file_of p = if is_some p.named then files.Returned else files.Submitted

-- its request after n requests: the one that is named, or else the next
abbrev pub request_after : ℕ → BroughtImage → ℕ
request_after n p = unwrap_or p.named (n + 1)

-- the number of requests with it
abbrev pub requests_after : ℕ → BroughtImage → ℕ
requests_after n p = if is_some p.named then n else n + 1

-- the image, after n requests
abbrev pub image_after : ℕ → BroughtImage → Image
image_after n p = record { request = request_after n p; file = file_of p; facts = p.facts }
