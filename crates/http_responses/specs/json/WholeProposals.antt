-- own: a proposal in JSON with all that it names, the keys ascending.
use Rattle.std.specs.Prelude.{ℕ, [], ◌∷◌, Option, Some, None, codes}
use Rattle.serde_json.specs.Data.{Data, null, string}
use Rattle.desk_types.specs.Words.{proposal_kind_text, proposal_state_text}
use Rattle.desk_history.specs.declared.rows.ProposalRow.{ProposalRow}
use Rattle.desk_exports.specs.Tags.{tag_of}
use Rattle.http_responses.specs.json.Values.{components_data, digest_data, digests_data, object_from, whole}

-- the stamp of a level, or null
abbrev pub stamp_data : Option ℕ → Data
stamp_data None = null
stamp_data (Some stamp) = whole stamp

-- a proposal: what it names, in the command's order, its kind, its officer, its state and its tag
abbrev pub whole_proposal_data : ProposalRow → Data
whole_proposal_data p = object_from (
    (codes "certificates", digests_data p.named.certificates)
    ∷ (codes "components", components_data p.named.components)
    ∷ (codes "digests", digests_data p.named.digests)
    ∷ (codes "kind", string (proposal_kind_text p.kind))
    ∷ (codes "number", whole p.number)
    ∷ (codes "officer", string p.officer)
    ∷ (codes "passed", whole p.named.passed)
    ∷ (codes "stamp", stamp_data p.named.stamp)
    ∷ (codes "state", string (proposal_state_text p.state))
    ∷ (codes "tag", digest_data (tag_of p.named))
    ∷ [])
