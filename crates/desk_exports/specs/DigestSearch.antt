-- The requests that have a digest, as people see them.
use Rattle.std.specs.Prelude.{ℕ, Bool, false, ◌||◌, List, filter, take, Option, Some, None, Result, bytes_eq}
use Rattle.std.specs.Result.{result_map_both}
use Rattle.base.specs.declared.refusal.Refusal.{Refusal}
use Rattle.desk_types.specs.declared.caller.Caller.{Caller}
use Rattle.desk_types.specs.declared.facts.Facts.{Facts}
use Rattle.desk_history.specs.Calls.{History, is_among}
use Rattle.desk_history.specs.Requests.{Returned}
use Rattle.desk_history.specs.Shown.{Whole, requests_for}
use Rattle.desk_exports.specs.ListParts.{most_of_part}

-- the digest is the SHA-256 of the file, one of its image's two digests, or that of a certificate that
-- it carries
abbrev pub is_of_facts : List ℕ → Facts → Bool
is_of_facts d x = bytes_eq d x.file || bytes_eq d x.digest || bytes_eq d x.signing || is_among x.carried d

-- the digest is the SHA-256 of the returned file, or its image's
abbrev pub is_of_returned : List ℕ → Option Returned → Bool
is_of_returned d None = false
is_of_returned d (Some r) = bytes_eq d r.facts.file || bytes_eq d r.facts.digest

-- the request has the digest: one of those that it is shown with
abbrev pub has_digest : List ℕ → Whole → Bool
has_digest d w = is_of_facts d w.request.facts || is_of_returned d w.returned

-- own: the first of the requests that have it, as many as a part has at most
abbrev pub first_with : List ℕ → List Whole → List Whole
first_with d ws = take most_of_part (filter (has_digest d) ws)

-- the answer to a caller about the requests that have a digest, ascending by number
abbrev pub requests_with : History → Caller → List ℕ → Result (List Whole) Refusal
requests_with cs c d = result_map_both (first_with d) (λ refusal. refusal) (requests_for cs c)
