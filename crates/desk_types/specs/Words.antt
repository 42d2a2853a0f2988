-- own: the words for roles, votes, states and kinds.
use Rattle.std.specs.Prelude.{ℕ, List, codes}
use Rattle.desk_types.specs.declared.role.Role.{Role}
use Rattle.desk_types.specs.declared.role.Role.TheVariants.{Submitter, Reviewer, Officer, Signer}
use Rattle.desk_types.specs.declared.vote.Vote.{Vote}
use Rattle.desk_types.specs.declared.vote.Vote.TheVariants.{Yes, No}
use Rattle.desk_types.specs.declared.state.State.{State}
use Rattle.desk_types.specs.declared.state.State.TheVariants.{Open, Approved, Rejected, Withdrawn, Signed}
use Rattle.desk_types.specs.declared.kind.ListedKind.{ListedKind}
use Rattle.desk_types.specs.declared.kind.ListedKind.TheVariants.{Digest, Certificate}
use Rattle.desk_types.specs.declared.proposal.ItemKind.{ItemKind}
use Rattle.desk_types.specs.declared.proposal.ItemKind.TheVariants as items
use Rattle.desk_types.specs.declared.proposal.ProposalKind.{ProposalKind}
use Rattle.desk_types.specs.declared.proposal.ProposalKind.TheVariants as kinds
use Rattle.desk_types.specs.declared.proposal.ProposalState.{ProposalState}
use Rattle.desk_types.specs.declared.proposal.ProposalState.TheVariants as states

-- own: the word of a role
abbrev pub role_text : Role → List ℕ
role_text Submitter = codes "submitter"
role_text Reviewer = codes "reviewer"
role_text Officer = codes "officer"
role_text Signer = codes "signer"

-- own: the word of a vote
abbrev pub vote_text : Vote → List ℕ
vote_text Yes = codes "yes"
vote_text No = codes "no"

-- own: the word of a state
abbrev pub state_text : State → List ℕ
state_text Open = codes "open"
state_text Approved = codes "approved"
state_text Rejected = codes "rejected"
state_text Withdrawn = codes "withdrawn"
state_text Signed = codes "signed"

-- own: the word of a kind of listed things
abbrev pub kind_text : ListedKind → List ℕ
kind_text Digest = codes "digest"
kind_text Certificate = codes "certificate"

-- own: the word of a kind of proposals
abbrev pub proposal_kind_text : ProposalKind → List ℕ
proposal_kind_text kinds.Digest = codes "digest"
proposal_kind_text kinds.Certificate = codes "certificate"
proposal_kind_text kinds.Level = codes "level"
proposal_kind_text kinds.Import = codes "import"

-- own: the word of a state of proposals
abbrev pub proposal_state_text : ProposalState → List ℕ
proposal_state_text states.Open = codes "open"
proposal_state_text states.Confirmed = codes "confirmed"
proposal_state_text states.Dropped = codes "dropped"

-- own: the word of a kind of items of proposals
abbrev pub item_kind_text : ItemKind → List ℕ
item_kind_text items.Digest = codes "digest"
item_kind_text items.Certificate = codes "certificate"
item_kind_text items.Component = codes "component"
