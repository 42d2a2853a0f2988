-- The members of a request, added to an object one after another.
use Rattle.std.specs.Prelude.{codes}
use Rattle.serde_json.specs.Data.{Members, put, string}
use Rattle.desk_types.specs.Words.{state_text}
use Rattle.desk_types.specs.declared.facts.Facts.{Facts}
use Rattle.desk_types.specs.declared.shown.ShownRequest.{ShownRequest}
use Rattle.http_responses.specs.json.Values.{whole, digest_data, digests_data, components_data}
use Rattle.http_responses.specs.json.Requests.{returned_data, votes_data}

-- the members of an image
unfoldable pub with_facts : Facts → Members → Members
with_facts x ms =
    put (codes "signing") (digest_data x.signing) (
    put (codes "length") (whole x.extent.length) (
    put (codes "gap") (whole x.extent.gap) (
    put (codes "file") (digest_data x.file) (
    put (codes "digest") (digest_data x.digest) (
    put (codes "components") (components_data x.components) (
    put (codes "carried") (digests_data x.carried) ms))))))

-- the members of a request's outcome
unfoldable pub with_state : ShownRequest → Members → Members
with_state r ms =
    put (codes "votes") (votes_data r.votes) (
    put (codes "title") (string r.title) (
    put (codes "submitter") (string r.submitter) (
    put (codes "state") (string (state_text r.state)) (
    put (codes "returned") (returned_data r.returned) (
    put (codes "number") (whole r.number) ms)))))
