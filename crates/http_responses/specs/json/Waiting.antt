-- own: what waits for a person in JSON, the requests first.
use Rattle.std.specs.Prelude.{List, [], ◌∷◌, codes}
use Rattle.serde_json.specs.Data.{Data}
use Rattle.desk_types.specs.declared.proposal.Proposal.{Proposal}
use Rattle.desk_types.specs.declared.shown.ShownRequest.{ShownRequest}
use Rattle.http_responses.specs.json.Proposals.{proposals_data}
use Rattle.http_responses.specs.json.Requests.{requests_data}
use Rattle.http_responses.specs.json.Values.{object_from}

-- what waits, in the forms of both lists
abbrev pub waiting_data : List ShownRequest → List Proposal → Data
waiting_data requests proposals = object_from (
    (codes "requests", requests_data requests)
    ∷ (codes "proposals", proposals_data proposals)
    ∷ [])
