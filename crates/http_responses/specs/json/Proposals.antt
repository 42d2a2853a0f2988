-- own: a proposal in JSON, the keys ascending.
use Rattle.std.specs.Prelude.{List, [], ◌∷◌, codes, map}
use Rattle.serde_json.specs.Data.{Data, array, string}
use Rattle.serde_json.specs.View.{items_of}
use Rattle.desk_types.specs.Words.{proposal_state_text}
use Rattle.desk_types.specs.declared.proposal.Proposal.{Proposal}
use Rattle.http_responses.specs.json.Values.{object_from, whole}

-- a proposal: how many entries of each kind it names, its officer and its state
abbrev pub proposal_data : Proposal → Data
proposal_data p = object_from (
    (codes "certificates", whole p.certificates)
    ∷ (codes "components", whole p.components)
    ∷ (codes "digests", whole p.digests)
    ∷ (codes "number", whole p.number)
    ∷ (codes "officer", string p.officer)
    ∷ (codes "state", string (proposal_state_text p.state))
    ∷ [])

-- proposals, in their order
abbrev pub proposals_data : List Proposal → Data
proposals_data proposals = array (items_of (map proposal_data proposals))
