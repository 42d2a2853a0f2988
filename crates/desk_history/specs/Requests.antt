-- Requests to sign an image, their votes, their states, and the files that are returned.
use Rattle.std.specs.Prelude.{ℕ, ◌+◌, ◌==◌, Bool, true, false, not, nat_le, if◌then◌else◌, List, [], ◌∷◌, length, filter, filter_map, find, count_by, Option, Some, None, option_map, bytes_eq}
use Rattle.std.specs.List.{list_any}
use Rattle.desk_types.specs.declared.caller.Caller.{Caller}
use Rattle.desk_types.specs.declared.command.Command.{Command}
use Rattle.desk_types.specs.declared.command.Command.TheVariants as command
use Rattle.desk_types.specs.declared.facts.Facts.{Facts}
use Rattle.desk_history.specs.declared.rows.VoteRow.{VoteRow}
use Rattle.desk_types.specs.declared.state.State.{State}
use Rattle.desk_types.specs.declared.state.State.TheVariants as states
use Rattle.desk_types.specs.declared.command.Submission.{Submission}
use Rattle.desk_types.specs.declared.vote.Vote.TheVariants as vote
use Rattle.desk_types.specs.Callers.{caller_name}
use Rattle.desk_history.specs.Calls.{History}

-- a request to sign the image of these facts
pub record Request : Type 0 where
  pub number : ℕ
  pub submitter : List ℕ
  pub title : List ℕ
  pub facts : Facts

-- the request of this number that a caller submitted
abbrev pub request_of : ℕ → Caller → Submission → Request
request_of number caller s = record {
  number = number;
  submitter = caller_name caller;
  title = s.title;
  facts = s.facts;
}

-- a command's submission
abbrev pub submission_of : Command → Option Submission
submission_of (command.Submit submission) = Some submission
submission_of (command.AddPerson _) = None
submission_of (command.Review _) = None
submission_of (command.Withdraw _) = None
submission_of (command.Return _) = None
submission_of (command.ListCertificate _) = None
submission_of (command.ListDigest _) = None
submission_of (command.Unlist _) = None
submission_of (command.RevokeDigest _) = None
submission_of (command.RevokeCertificate _) = None
submission_of (command.RaiseLevel _) = None
submission_of (command.ImportRevocations _) = None
submission_of (command.Confirm _) = None
submission_of (command.Drop _) = None
submission_of (command.Explain _) = None

-- a submission and its submitter
pub record Submitted : Type 0 where
  pub submitter : List ℕ
  pub submission : Submission

-- the Submit calls, the newest first
abbrev pub submitted : History → List Submitted
submitted cs = filter_map (λ i. option_map (λ s. record { submitter = caller_name i.call.caller; submission = s }) (submission_of i.call.command)) cs

-- numbered from 1 in the order of their calls, so the newest has the greatest number
abbrev pub numbered : List Submitted → List Request
numbered [] = []
numbered (s ∷ rest) =
    record { number = length rest + 1; submitter = s.submitter; title = s.submission.title; facts = s.submission.facts }
    ∷ numbered rest

-- request k is the k-th Submit
abbrev pub requests : History → List Request
requests cs = numbered (submitted cs)

-- the request has this number
abbrev pub has_number : ℕ → Request → Bool
has_number k r = k == r.number

-- the request of this number
abbrev pub request : History → ℕ → Option Request
request cs k = find (has_number k) (requests cs)

-- a reviewer's vote in a command
abbrev pub vote_of : List ℕ → Command → Option VoteRow
vote_of reviewer (command.Review b) =
    Some (record { request = b.request; reviewer = reviewer; vote = b.vote; note = b.note })
vote_of reviewer (command.AddPerson _) = None
vote_of reviewer (command.Submit _) = None
vote_of reviewer (command.Withdraw _) = None
vote_of reviewer (command.Return _) = None
vote_of reviewer (command.ListCertificate _) = None
vote_of reviewer (command.ListDigest _) = None
vote_of reviewer (command.Unlist _) = None
vote_of reviewer (command.RevokeDigest _) = None
vote_of reviewer (command.RevokeCertificate _) = None
vote_of reviewer (command.RaiseLevel _) = None
vote_of reviewer (command.ImportRevocations _) = None
vote_of reviewer (command.Confirm _) = None
vote_of reviewer (command.Drop _) = None
vote_of reviewer (command.Explain _) = None

-- the Reviews
abbrev pub votes : History → List VoteRow
votes cs = filter_map (λ i. vote_of (caller_name i.call.caller) i.call.command) cs

-- the votes on a request
abbrev pub votes_on : List VoteRow → ℕ → List VoteRow
votes_on vs k = filter (λ v. k == v.request) vs

-- the vote is a yes
abbrev pub is_yes : VoteRow → Bool
is_yes v = elim v.vote [ vote.Yes ↦ true | vote.No ↦ false ]

-- the vote is this reviewer's
abbrev pub is_vote_of : List ℕ → VoteRow → Bool
is_vote_of reviewer v = bytes_eq reviewer v.reviewer

-- the command withdraws the request
abbrev pub withdraws : ℕ → Command → Bool
withdraws k (command.Withdraw number) = k == number
withdraws k (command.AddPerson _) = false
withdraws k (command.Submit _) = false
withdraws k (command.Review _) = false
withdraws k (command.Return _) = false
withdraws k (command.ListCertificate _) = false
withdraws k (command.ListDigest _) = false
withdraws k (command.Unlist _) = false
withdraws k (command.RevokeDigest _) = false
withdraws k (command.RevokeCertificate _) = false
withdraws k (command.RaiseLevel _) = false
withdraws k (command.ImportRevocations _) = false
withdraws k (command.Confirm _) = false
withdraws k (command.Drop _) = false
withdraws k (command.Explain _) = false

-- some call withdraws the request
abbrev pub is_withdrawn : History → ℕ → Bool
is_withdrawn cs k = list_any (λ i. withdraws k i.call.command) cs

-- a file that was returned for a request
pub record Returned : Type 0 where
  pub request : ℕ
  pub signer : List ℕ
  pub facts : Facts

-- a signer's return in a command
abbrev pub return_of : List ℕ → Command → Option Returned
return_of signer (command.Return h) = Some (record { request = h.request; signer = signer; facts = h.facts })
return_of signer (command.AddPerson _) = None
return_of signer (command.Submit _) = None
return_of signer (command.Review _) = None
return_of signer (command.Withdraw _) = None
return_of signer (command.ListCertificate _) = None
return_of signer (command.ListDigest _) = None
return_of signer (command.Unlist _) = None
return_of signer (command.RevokeDigest _) = None
return_of signer (command.RevokeCertificate _) = None
return_of signer (command.RaiseLevel _) = None
return_of signer (command.ImportRevocations _) = None
return_of signer (command.Confirm _) = None
return_of signer (command.Drop _) = None
return_of signer (command.Explain _) = None

-- the Returns
abbrev pub returns : History → List Returned
returns cs = filter_map (λ i. return_of (caller_name i.call.caller) i.call.command) cs

-- some call returns the request's signed file
abbrev pub is_returned : History → ℕ → Bool
is_returned cs k = list_any (λ r. k == r.request) (returns cs)

-- own: one no rejects a request, and two yes approve it
abbrev pub state_by_votes : List VoteRow → State
state_by_votes vs =
    if list_any (λ v. not (is_yes v)) vs then states.Rejected
    else (if nat_le 2 (count_by is_yes vs) then states.Approved else states.Open)

-- own: the state of a request with these votes. `is_signed`: a file was returned for it;
-- `is_taken`: it was withdrawn
abbrev pub state_by : Bool → Bool → List VoteRow → State
state_by is_signed is_taken vs =
    if is_signed then states.Signed else (if is_taken then states.Withdrawn else state_by_votes vs)

-- the state of a request
abbrev pub state : History → ℕ → State
state cs k = state_by (is_returned cs k) (is_withdrawn cs k) (votes_on (votes cs) k)

-- both are the same state
abbrev pub is_state : State → State → Bool
is_state states.Open states.Open = true
is_state states.Approved states.Approved = true
is_state states.Rejected states.Rejected = true
is_state states.Withdrawn states.Withdrawn = true
is_state states.Signed states.Signed = true
is_state _ _ = false
