-- What waits for a person.
use Rattle.std.specs.Prelude.{Bool, true, false, not, ◌&&◌, if◌then◌else◌, List, [], filter, Result, Ok, Err, bytes_eq}
use Rattle.std.specs.List.{list_any}
use Rattle.std.specs.Result.{result_map_both}
use Rattle.base.specs.declared.refusal.Refusal.{Refusal}
use Rattle.desk_types.specs.declared.caller.Caller.{Caller}
use Rattle.desk_types.specs.declared.command.Person.{Person}
use Rattle.desk_types.specs.declared.role.Role.{Role}
use Rattle.desk_types.specs.declared.role.Role.TheVariants as roles
use Rattle.desk_types.specs.declared.state.State.{State}
use Rattle.desk_types.specs.declared.state.State.TheVariants as states
use Rattle.desk_history.specs.Calls.{History}
use Rattle.desk_history.specs.Proposals.{Proposal, proposal_state}
use Rattle.desk_history.specs.Refusals.{is_closed}
use Rattle.desk_history.specs.Requests.{is_state, is_vote_of}
use Rattle.desk_history.specs.Shown.{Whole, proposals_for, reader, requests_for}

-- something may still become of a request in this state: it is open or approved
abbrev pub is_under_way : State → Bool
is_under_way states.Open = true
is_under_way states.Approved = true
is_under_way states.Rejected = false
is_under_way states.Withdrawn = false
is_under_way states.Signed = false

-- own: by its state and by whose it is, a request waits for a person of this role: whoever submits
-- follows the own ones that are under way; a reviewer votes on the open ones of others, unless that is
-- done; a signer returns files for the approved ones; and no request waits for an officer
abbrev pub may_wait : Role → Bool → State → Bool
may_wait roles.Submitter is_own s = is_own && is_under_way s
may_wait roles.Reviewer is_own s = if is_own then is_under_way s else is_state states.Open s
may_wait roles.Officer is_own s = false
may_wait roles.Signer is_own s = is_state states.Approved s

-- the person voted on the request
abbrev pub has_voted : Person → Whole → Bool
has_voted p w = list_any (is_vote_of p.name) w.votes

-- the request waits for the person. own: one that the person voted on waits no more
abbrev pub waits_for : Person → Whole → Bool
waits_for p w = may_wait p.role (bytes_eq p.name w.request.submitter) w.state && not (has_voted p w)

-- the proposal waits for the officer: it is open and another officer's
abbrev pub awaits : History → Person → Proposal → Bool
awaits cs p x = not (is_closed (proposal_state cs x.number)) && not (bytes_eq p.name x.officer)

-- What waits for a person, each ascending by number.
pub record Waiting : Type 0 where
  pub requests : List Whole
  pub proposals : List Proposal

-- what is given, and nothing in the place of a refusal
abbrev pub or_nothing : {X : Type 0} → Result (List X) Refusal → List X
or_nothing (Ok xs) = xs
or_nothing (Err refusal) = []

-- what waits for a person who is shown these requests and these proposals
abbrev pub waiting : History → Result (List Whole) Refusal → Result (List Proposal) Refusal → Person → Waiting
waiting cs ws ps p = record {
  requests = filter (waits_for p) (or_nothing ws);
  proposals = filter (awaits cs p) (or_nothing ps);
}

-- the answer to a caller about what waits: of the requests that the caller is shown those that wait,
-- and of the proposals, which only officers are shown
abbrev pub waiting_for : History → Caller → Result Waiting Refusal
waiting_for cs c = result_map_both (waiting cs (requests_for cs c) (proposals_for cs c)) (λ refusal. refusal) (reader cs c)
