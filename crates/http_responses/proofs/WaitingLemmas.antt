-- The text of what waits is its pieces.
use Rattle.std.proofs.Common.{◌≡◌, ◌∙◌, ℕ, List, ◌++◌, codes, refl, append_assoc}
use Rattle.serde_json.proofs.OnLiterals.{serde_json_on_literals}
use Rattle.serde_json.specs.Written.{compact_text}
use Rattle.desk_types.specs.declared.proposal.Proposal.{Proposal}
use Rattle.desk_types.specs.declared.shown.ShownRequest.{ShownRequest}
use Rattle.http_responses.specs.json.Proposals.{proposals_data}
use Rattle.http_responses.specs.json.Requests.{requests_data}
use Rattle.http_responses.specs.json.Waiting.{waiting_data}

-- a text in its pieces
in_pieces : (front requests between proposals end : List ℕ) → front ++ (((requests ++ between) ++ proposals) ++ end) ≡ front ++ (requests ++ (between ++ (proposals ++ end)))
in_pieces front requests between proposals end = simp append_assoc

-- the requests, the proposals, and what stands before, between and after them
pub waiting_text : (requests : List ShownRequest) (proposals : List Proposal)
    → codes "{\"requests\":" ++ (((compact_text (requests_data requests) ++ codes ",\"proposals\":") ++ compact_text (proposals_data proposals)) ++ codes "}")
    ≡ compact_text (waiting_data requests proposals)
unfolding serde_json_on_literals
waiting_text requests proposals =
    in_pieces (codes "{\"requests\":") (compact_text (requests_data requests)) (codes ",\"proposals\":") (compact_text (proposals_data proposals)) (codes "}")
    ∙ refl
