-- own: a request in JSON, the keys of each object ascending.
use Rattle.std.specs.Prelude.{List, [], ◌∷◌, Option, Some, None, codes, map}
use Rattle.serde_json.specs.Data.{Data, array, null, string}
use Rattle.serde_json.specs.View.{items_of}
use Rattle.desk_types.specs.Words.{state_text, vote_text}
use Rattle.desk_types.specs.declared.shown.ShownRequest.{ShownRequest}
use Rattle.desk_types.specs.declared.shown.ShownReturn.{ShownReturn}
use Rattle.desk_types.specs.declared.shown.ShownVote.{ShownVote}
use Rattle.http_responses.specs.json.Values.{object_from, whole, digest_data, digests_data, components_data}

-- a vote
abbrev pub vote_data : ShownVote → Data
vote_data v = object_from (
    (codes "note", string v.note)
    ∷ (codes "reviewer", string v.reviewer)
    ∷ (codes "vote", string (vote_text v.vote))
    ∷ [])

-- votes, in their order
abbrev pub votes_data : List ShownVote → Data
votes_data votes = array (items_of (map vote_data votes))

-- the SHA-256 of the whole file that was returned, or null
abbrev pub returned_data : Option ShownReturn → Data
returned_data None = null
returned_data (Some returned) = digest_data returned.file

-- a request
abbrev pub request_data : ShownRequest → Data
request_data r = object_from (
    (codes "carried", digests_data r.facts.carried)
    ∷ (codes "components", components_data r.facts.components)
    ∷ (codes "digest", digest_data r.facts.digest)
    ∷ (codes "file", digest_data r.facts.file)
    ∷ (codes "gap", whole r.facts.extent.gap)
    ∷ (codes "length", whole r.facts.extent.length)
    ∷ (codes "number", whole r.number)
    ∷ (codes "returned", returned_data r.returned)
    ∷ (codes "signing", digest_data r.facts.signing)
    ∷ (codes "state", string (state_text r.state))
    ∷ (codes "submitter", string r.submitter)
    ∷ (codes "title", string r.title)
    ∷ (codes "votes", votes_data r.votes)
    ∷ [])

-- requests, in their order
abbrev pub requests_data : List ShownRequest → Data
requests_data requests = array (items_of (map request_data requests))
