-- own: the values in the JSON bodies of requests.
use Rattle.std.specs.Prelude.{◌≡◌, ℕ, ⊤, List, codes, if◌then◌else◌, Option, Some, None, option_and_then}
use Rattle.std.specs.Str.{is_utf8}
use Rattle.serde_json.specs.Data.{Data}
use Rattle.serde_json.specs.Read.{read}
use Rattle.base.specs.declared.refusal.Refusal.{Refusal}
use Rattle.base.specs.declared.refusal.Refusal.TheVariants as refusal
use Rattle.desk_types.specs.declared.command.Ballot.{Ballot}
use Rattle.desk_types.specs.declared.command.Explanation.{Explanation}
use Rattle.desk_types.specs.declared.command.Listing.{Listing}
use Rattle.desk_types.specs.declared.command.Raise.{Raise}
use Rattle.desk_types.specs.declared.vote.Vote.{Vote}
use Rattle.desk_types.specs.declared.kind.ListedKind.{ListedKind}
use Rattle.http_requests.specs.bodies.Forms.{digest_in, vote_in, kind_in, note_in, reason_in, name_in, generation_in, stamp_in}
use Rattle.http_requests.specs.bodies.Members.{one_of, two_of, three_of}
use Rattle.http_requests.specs.declared.bodies.fault.BodyFault.{BodyFault}
use Rattle.http_requests.specs.declared.bodies.fault.BodyFault.TheVariants.{BadBody, NoMemory}

-- the value of a body that is JSON text in UTF-8 (RFC 8259), as serde_json reads it
abbrev pub data_of : List ℕ → Option Data
data_of body = if is_utf8 body then read body else None

-- a review of these parts
abbrev pub review_by : ℕ → Option (List ℕ) → Option Vote → Option Ballot
review_by request (Some note) (Some vote) = Some (record { request = request; vote = vote; note = note })
review_by request _ _ = None

-- the review in two values
abbrev pub review_from : ℕ → Option (Data × Data) → Option Ballot
review_from request None = None
review_from request (Some values) = review_by request (note_in values.0) (vote_in values.1)

-- {"note":TEXT,"vote":"yes" or "no"}
abbrev pub review_in : ℕ → Data → Option Ballot
review_in request d = review_from request (two_of (codes "note") (codes "vote") d)

-- {"digest":HEX}
abbrev pub digest_object : Data → Option (List ℕ)
digest_object d = option_and_then digest_in (one_of (codes "digest") d)

-- the entry, of these parts, that is to be taken off the list
abbrev pub unlist_by : Option (List ℕ) → Option ListedKind → Option Listing
unlist_by (Some digest) (Some kind) = Some (record { kind = kind; digest = digest })
unlist_by _ _ = None

-- the entry in two values
abbrev pub unlist_from : Option (Data × Data) → Option Listing
unlist_from None = None
unlist_from (Some values) = unlist_by (digest_in values.0) (kind_in values.1)

-- {"digest":HEX,"kind":"digest" or "certificate"}
abbrev pub unlist_in : Data → Option Listing
unlist_in d = unlist_from (two_of (codes "digest") (codes "kind") d)

-- the raise of the level, of these parts
abbrev pub level_by : Option (List ℕ) → Option ℕ → Option ℕ → Option Raise
level_by (Some component) (Some generation) (Some stamp) =
    Some (record { component = record { name = component; generation = generation }; stamp = stamp })
level_by _ _ _ = None

-- the raise in three values
abbrev pub level_from : Option (Data × Data × Data) → Option Raise
level_from None = None
level_from (Some values) = level_by (name_in values.0) (generation_in values.1) (stamp_in values.2)

-- {"component":NAME,"generation":N,"stamp":N}
abbrev pub level_in : Data → Option Raise
level_in d = level_from (three_of (codes "component") (codes "generation") (codes "stamp") d)

-- the explanation of a proposal, with this reason
abbrev pub explanation_by : ℕ → Option (List ℕ) → Option Explanation
explanation_by proposal None = None
explanation_by proposal (Some reason) = Some (record { proposal = proposal; reason = reason })

-- {"text":TEXT}
abbrev pub explanation_in : ℕ → Data → Option Explanation
explanation_in proposal d = explanation_by proposal (option_and_then reason_in (one_of (codes "text") d))

-- the review of a request in a body
abbrev pub review_of : ℕ → List ℕ → Option Ballot
review_of request body = option_and_then (review_in request) (data_of body)

-- the digest in a body
abbrev pub named_digest : List ℕ → Option (List ℕ)
named_digest body = option_and_then digest_object (data_of body)

-- the entry, in a body, that is to be taken off the list
abbrev pub unlist_of : List ℕ → Option Listing
unlist_of body = option_and_then unlist_in (data_of body)

-- the raise of the level in a body
abbrev pub level_of : List ℕ → Option Raise
level_of body = option_and_then level_in (data_of body)

-- the explanation of a proposal in a body
abbrev pub explanation_of : ℕ → List ℕ → Option Explanation
explanation_of proposal body = option_and_then (explanation_in proposal) (data_of body)

-- its row in the table of refusals
abbrev pub refusal_of : BodyFault → Refusal
refusal_of BadBody = refusal.BadBody
refusal_of NoMemory = refusal.NoMemory

-- BadBody comes only if there is no value; NoMemory may come at any time
abbrev pub Refuses : {A : Type 0} → Option A → BodyFault → Type 0
Refuses value BadBody = value ≡ None
Refuses value NoMemory = ⊤
