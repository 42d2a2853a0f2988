-- Requests and proposals as people see them.
use Rattle.std.specs.Prelude.{◌≡◌, ℕ, ◌==◌, Bool, true, if◌then◌else◌, List, length, map, filter, find, reverse, Option, Some, option_map, ok_or, Result, Ok, Err, bytes_eq}
use Rattle.std.specs.List.{AllZip}
use Rattle.std.specs.List.Sorted.{IsPermutation, IsStrictlySortedBy}
use Rattle.std.specs.Cmp.Lexicographic.{slice_cmp}
use Rattle.std.specs.Ordering.{nat_cmp}
use Rattle.std.specs.Result.{result_map_both}
use Rattle.base.specs.declared.refusal.Refusal.{Refusal}
use Rattle.base.specs.declared.refusal.Refusal.TheVariants as refusals
use Rattle.desk_types.specs.declared.caller.Caller.{Caller}
use Rattle.desk_types.specs.declared.caller.Caller.TheVariants as callers
use Rattle.desk_types.specs.declared.command.Person.{Person}
use Rattle.desk_types.specs.declared.proposal.Proposal.{Proposal as ShownProposal}
use Rattle.desk_types.specs.declared.role.Role.{Role}
use Rattle.desk_types.specs.declared.role.Role.TheVariants as roles
use Rattle.desk_types.specs.declared.shown.ShownRequest.{ShownRequest}
use Rattle.desk_types.specs.declared.shown.ShownReturn.{ShownReturn}
use Rattle.desk_types.specs.declared.shown.ShownVote.{ShownVote}
use Rattle.desk_types.specs.declared.state.State.{State}
use Rattle.desk_history.specs.Calls.{History}
use Rattle.desk_history.specs.People.{person}
use Rattle.desk_history.specs.Proposals.{Proposal, proposal_state, proposals}
use Rattle.desk_history.specs.Requests.{Request, Returned, requests, returns, state, votes, votes_on}
use Rattle.desk_history.specs.Roles.{is_officer}
use Rattle.desk_history.specs.declared.rows.VoteRow.{VoteRow}

-- the file that was returned for a request
abbrev pub returned : History → ℕ → Option Returned
returned cs k = find (λ r. k == r.request) (returns cs)

-- All of a request: its submission, its state, the votes on it, and the returned file.
pub record Whole : Type 0 where
  pub request : Request
  pub state : State
  pub votes : List VoteRow
  pub returned : Option Returned

-- all of this request
abbrev pub whole : History → Request → Whole
whole cs r = record { request = r; state = state cs r.number; votes = votes_on (votes cs) r.number; returned = returned cs r.number }

-- all of each request, the newest first
abbrev pub wholes : History → List Whole
wholes cs = map (whole cs) (requests cs)

-- ---- as shown

-- a vote, as it is shown
abbrev pub shown_vote : VoteRow → ShownVote
shown_vote v = record { reviewer = v.reviewer; vote = v.vote; note = v.note }

-- a returned file, as it is shown
abbrev pub shown_return : Returned → ShownReturn
shown_return r = record { length = r.facts.extent.length; file = r.facts.file; digest = r.facts.digest }

-- votes in the order of their reviewers: the names ascend byte by byte, and nobody has two votes
abbrev pub AscendByReviewer : List ShownVote → Type 0
AscendByReviewer shown = IsStrictlySortedBy (λ one other. slice_cmp nat_cmp one.reviewer other.reviewer) shown

-- All of the request is shown, and nothing else. Its votes are in the order of their reviewers.
pub record IsShown (w : Whole) (s : ShownRequest) : Type 0 where
  pub number : s.number ≡ w.request.number
  pub submitter : s.submitter ≡ w.request.submitter
  pub title : s.title ≡ w.request.title
  pub facts : s.facts ≡ w.request.facts
  pub state : s.state ≡ w.state
  pub votes : IsPermutation (map shown_vote w.votes) s.votes
  pub order : AscendByReviewer s.votes
  pub returned : s.returned ≡ option_map shown_return w.returned

-- the same for each request, in order
abbrev pub AreShown : List Whole → List ShownRequest → Type 0
AreShown ws shown = AllZip IsShown ws shown

-- ---- readers

-- own: a submitter is shown only own requests, everybody else all of them
abbrev pub sees : Role → Bool → Bool
sees roles.Submitter is_own = is_own
sees roles.Reviewer is_own = true
sees roles.Officer is_own = true
sees roles.Signer is_own = true

-- the person is shown the request
abbrev pub is_shown_to : Person → Whole → Bool
is_shown_to p w = sees p.role (bytes_eq p.name w.request.submitter)

-- the reader. own: the console is shown neither requests nor proposals
abbrev pub reader : History → Caller → Result Person Refusal
reader cs callers.Console = Err refusals.NotYourRole
reader cs (callers.Person name) = ok_or (person cs name) refusals.UnknownCaller

-- the requests that a caller is shown, the newest first
abbrev pub shown_to : History → Caller → Result (List Whole) Refusal
shown_to cs c = result_map_both (λ p. filter (λ w. is_shown_to p w) (wholes cs)) (λ refusal. refusal) (reader cs c)

-- the request has this number
abbrev pub is_numbered : ℕ → Whole → Bool
is_numbered k w = k == w.request.number

-- the request of this number among them
abbrev pub found_among : ℕ → Result (List Whole) Refusal → Result Whole Refusal
found_among k (Ok ws) = ok_or (find (is_numbered k) ws) refusals.NoSuchRequest
found_among k (Err refusal) = Err refusal

-- the answer to a caller about one request. own: for the caller, a request that the caller isn't
-- shown doesn't exist
abbrev pub request_for : History → Caller → ℕ → Result Whole Refusal
request_for cs c k = found_among k (shown_to cs c)

-- the answer to a caller about all requests, ascending by number
abbrev pub requests_for : History → Caller → Result (List Whole) Refusal
requests_for cs c = result_map_both reverse (λ refusal. refusal) (shown_to cs c)

-- ---- answers

-- the due result is shown, or the due refusal is given
abbrev pub IsGiven : {A B : Type 0} → Result A Refusal → Result B Refusal → (A → B → Type 0) → Type 0
IsGiven (Ok due) (Ok given) shows = shows due given
IsGiven (Ok due) (Err refusal) shows = ⊥
IsGiven (Err refusal) (Ok given) shows = ⊥
IsGiven (Err refusal) (Err given) shows = given ≡ refusal

-- the answer to a caller about this request
abbrev pub GivesRequest : History → Caller → ℕ → Result ShownRequest Refusal → Type 0
GivesRequest cs c k given = IsGiven (request_for cs c k) given IsShown

-- ---- proposals

-- own: only officers are shown proposals
abbrev pub officer : Result Person Refusal → Result Person Refusal
officer (Ok p) = if is_officer p.role then Ok p else Err refusals.NotYourRole
officer (Err refusal) = Err refusal

-- the answer to a caller about the proposals, ascending by number
abbrev pub proposals_for : History → Caller → Result (List Proposal) Refusal
proposals_for cs c = result_map_both (λ p. reverse (proposals cs)) (λ refusal. refusal) (officer (reader cs c))

-- a proposal, as it is shown: how many entries of each kind it names, repeats included
abbrev pub shown_proposal : History → Proposal → ShownProposal
shown_proposal cs p = record {
  number = p.number;
  officer = p.officer;
  state = proposal_state cs p.number;
  digests = length p.named.entries.digests;
  certificates = length p.named.entries.certificates;
  components = length p.named.entries.components;
}

-- ---- what a submitter can learn

-- the requests that a person submitted, the newest first
abbrev pub own : History → List ℕ → List Whole
own cs name = filter (λ w. bytes_eq name w.request.submitter) (wholes cs)

-- the role of a name
abbrev pub role_of : History → List ℕ → Option Role
role_of cs name = option_map (λ p. p.role) (person cs name)

-- the caller gets the same answers from both histories
pub record TellAlike (one other : History) (c : Caller) : Type 0 where
  pub each : (k : ℕ) → request_for one c k ≡ request_for other c k
  pub all : requests_for one c ≡ requests_for other c

-- A submitter's answer depends only on the submitter's own requests: it is the same for all
-- histories that have the same ones.
abbrev pub SubmittersSeeOwn : Type 0
SubmittersSeeOwn =
    (one other : History) (name : List ℕ) → role_of one name ≡ Some roles.Submitter → role_of other name ≡ Some roles.Submitter
    → own one name ≡ own other name → TellAlike one other (callers.Person name)
