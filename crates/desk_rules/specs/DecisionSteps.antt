-- Words of the steps of a decision, which private functions cite.
use Rattle.std.specs.Prelude.{◌≡◌, ◌⊎◌, ℕ, Bool, true, false, not, ◌||◌, nat_le, nat_lt, if◌then◌else◌, List, [], ◌∷◌, ◌++◌, map, find, reverse, bytes_eq, count_by, Option, Some, None, Result, MatchResult, IsTrue}
use Rattle.std.specs.List.{list_any}
use Rattle.std.specs.Option.{option_map_or}
use Rattle.sbat.specs.declared.component.Component.{Component}
use Rattle.base.specs.declared.refusal.Refusal.{Refusal}
use Rattle.base.specs.declared.refusal.Refusal.TheVariants as refusals
use Rattle.desk_types.specs.declared.caller.Caller.{Caller}
use Rattle.desk_types.specs.declared.command.Ballot.{Ballot}
use Rattle.desk_types.specs.declared.command.Call.{Call}
use Rattle.desk_types.specs.declared.command.Command.{Command}
use Rattle.desk_types.specs.declared.command.ReturnedFile.{ReturnedFile}
use Rattle.desk_types.specs.declared.command.Submission.{Submission}
use Rattle.desk_types.specs.declared.proposal.ProposalKind.{ProposalKind}
use Rattle.desk_types.specs.declared.proposal.ProposalKind.TheVariants as kinds
use Rattle.desk_types.specs.declared.proposal.ProposalState.TheVariants as proposal_states
use Rattle.desk_types.specs.Imports.{Imported}
use Rattle.desk_types.specs.declared.kind.ListedKind.{ListedKind}
use Rattle.desk_types.specs.declared.kind.ListedKind.TheVariants as listed
use Rattle.desk_types.specs.declared.reply.Outcome.{Outcome}
use Rattle.desk_types.specs.declared.reply.Reply.{Reply}
use Rattle.desk_history.specs.declared.rows.Minute.{Minute}
use Rattle.desk_history.specs.declared.rows.ProposalRow.{ProposalRow}
use Rattle.desk_history.specs.declared.rows.RequestCertificateRow.{RequestCertificateRow}
use Rattle.desk_history.specs.declared.rows.ReturnRow.{ReturnRow}
use Rattle.desk_history.specs.declared.rows.VoteRow.{VoteRow}
use Rattle.desk_types.specs.declared.state.State.{State}
use Rattle.desk_types.specs.declared.state.State.TheVariants as states
use Rattle.desk_types.specs.declared.vote.Vote.{Vote}
use Rattle.desk_types.specs.declared.vote.Vote.TheVariants as votes
use Rattle.desk_history.specs.declared.write.Write.{Write}
use Rattle.desk_history.specs.declared.write.Write.TheVariants as writes
use Rattle.desk_types.specs.Callers.{caller_name}
use Rattle.desk_history.specs.Calls.{History, item}
use Rattle.desk_history.specs.Level.{is_above, is_sbat}
use Rattle.desk_history.specs.Replies.{minutes, reply}
use Rattle.desk_history.specs.Requests.{is_vote_of, is_yes, votes_on}
use Rattle.desk_history.specs.Tables.{certificate_rows, component_rows, request_row, return_row, tables}
use Rattle.desk_history.specs.Writes.{all_written}
use Rattle.desk_history.specs.declared.answer.Answer.TheVariants.{Refused, Repeated}
use Rattle.desk_rules.specs.declared.view.Changes.{Changes}
use Rattle.desk_rules.specs.declared.view.View.{View}
use Rattle.desk_history.specs.Called.{called}
use Rattle.desk_rules.specs.Room.{IsRoomed, has_room}
use Rattle.desk_history.specs.Refusals.{drop_by, image_refusal, import_refusal, is_later, own_refusal, refuse_if, return_by, review_by, withdraw_by}
use Rattle.desk_history.specs.Runs.{is_legal, repeated}
use Rattle.desk_rules.specs.Shown.{Shows, is_proposal_row, is_request_row}
use Rattle.desk_history.specs.Requests.{request_of}
use Rattle.desk_history.specs.Verdicts.{bars, lists_image}
use Rattle.desk_rules.specs.Views.{generation_in, seen_standing}

-- The command's own conditions accept it, with this reply, and the writes make the tables of the
-- history with the call, except for the call's own row. If they take a listed entry off the list,
-- they insert none, and no more is listed than before.
pub record IsCommandStep (changes : Changes) (owner : List ℕ) (cs : History) (c : Call) : Type 0 where
  pub accepted : own_refusal cs (caller_name c.caller) c.command ≡ None
  pub replied : changes.reply ≡ reply cs c
  pub made : all_written changes.writes.items (tables owner cs) ≡ record (tables owner (item c ∷ cs)) { calls = minutes cs }
  pub listed : IsRoomed changes.writes.items cs c

-- the command's own conditions give this refusal, or memory ran out
abbrev pub RefusesOwn : Refusal → History → Call → Type 0
RefusesOwn refusal cs c = (own_refusal cs (caller_name c.caller) c.command ≡ Some refusal) ⊎ (refusal ≡ refusals.NoMemory)

-- the result agrees with the command's own conditions and writes after this history
abbrev pub MatchesOwn : List ℕ → History → Call → Result Changes Refusal → Type 0
MatchesOwn owner cs c result = MatchResult result (λ changes. IsCommandStep changes owner cs c) (λ refusal. RefusesOwn refusal cs c)

-- the same for each legal history that the view shows
abbrev pub DecidesOwn : View → Caller → Command → Result Changes Refusal → Type 0
DecidesOwn v caller command result =
    (owner : List ℕ) (cs : History) (key : List ℕ) → IsTrue (is_legal cs) → Shows v (tables owner cs) (called caller key command)
    → MatchesOwn owner cs (called caller key command) result

-- the result is this refusal if there is one, otherwise this reply with these writes; or memory ran
-- out
abbrev pub Decided : Result Changes Refusal → Option Refusal → Reply → List Write → Type 0
Decided result refusal reply ws =
    MatchResult result (λ changes. (refusal ≡ None) × (changes.reply ≡ reply) × (changes.writes.items ≡ ws))
    (λ r. (refusal ≡ Some r) ⊎ (r ≡ refusals.NoMemory))

-- the result has this reply and these writes, or memory ran out
abbrev pub Gives : Result Changes Refusal → Reply → List Write → Type 0
Gives result reply ws = MatchResult result (λ changes. (changes.reply ≡ reply) × (changes.writes.items ≡ ws)) (λ r. r ≡ refusals.NoMemory)

-- why, by the rows of a view, a vote on the request k is refused
abbrev pub review_refusal_in : View → ℕ → List ℕ → Option Refusal
review_refusal_in v k reviewer =
    option_map_or (λ row. review_by row.state (bytes_eq row.submitter reviewer) (list_any (is_vote_of reviewer) (votes_on v.votes.items k)))
    (find (is_request_row k) v.requests.items) (Some refusals.NoSuchRequest)

-- why, by these rows, the withdrawal of the request k is refused
abbrev pub withdraw_refusal_in : View → ℕ → List ℕ → Option Refusal
withdraw_refusal_in v k caller =
    option_map_or (λ row. withdraw_by row.state (bytes_eq row.submitter caller)) (find (is_request_row k) v.requests.items) (Some refusals.NoSuchRequest)

-- why, by these rows, a returned file is refused
abbrev pub return_refusal_in : View → ReturnedFile → Option Refusal
return_refusal_in v h =
    option_map_or (λ row. return_by row.state (image_refusal row.digest row.signing h.facts (bars (seen_standing v.lists) h.facts) (lists_image (seen_standing v.lists) h.facts)))
    (find (is_request_row h.request) v.requests.items) (Some refusals.NoSuchRequest)

-- the vote of a ballot
abbrev pub vote_row : List ℕ → Ballot → VoteRow
vote_row reviewer b = record { request = b.request; reviewer = reviewer; vote = b.vote; note = b.note }

-- the state of an open request after this vote. `some_no`: an earlier vote was a no; `count`
-- earlier votes were a yes
abbrev pub state_with : Vote → Bool → ℕ → State
state_with votes.No some_no count = states.Rejected
state_with votes.Yes some_no count =
    if some_no then states.Rejected else (if nat_le 1 count then states.Approved else states.Open)

-- the state of the request after the ballot, by the votes in a view
abbrev pub state_after : View → Ballot → State
state_after v b =
    state_with b.vote (list_any (λ w. not (is_yes w)) (votes_on v.votes.items b.request))
    (count_by is_yes (votes_on v.votes.items b.request))

-- the request with its state after the ballot
abbrev pub outcome_after : View → Ballot → Outcome
outcome_after v b = record { request = b.request; state = state_after v b }

-- the row of a returned file
abbrev pub returned_file_row : List ℕ → ReturnedFile → ReturnRow
returned_file_row signer h = return_row (record { request = h.request; signer = signer; facts = h.facts })

-- the rows of the certificates that the image of the request k carries
abbrev pub carried_rows : ℕ → List (List ℕ) → List RequestCertificateRow
carried_rows k carried = map (λ d. record { request = k; digest = d }) carried

-- the writes of a submission
abbrev pub submission_writes : ℕ → Caller → Submission → List Write
submission_writes k caller s =
    writes.Request (request_row states.Open (request_of k caller s))
    ∷ map (λ row. writes.RequestCertificate row) (reverse (certificate_rows (request_of k caller s)))
    ++ map (λ row. writes.RequestComponent row) (reverse (component_rows (request_of k caller s)))

-- the writes of revoked digests of this kind
abbrev pub revocation_writes : ListedKind → List (List ℕ) → List Write
revocation_writes kind digests = map (λ d. writes.Revoke (record { kind = kind; digest = d })) digests

-- the write of a component whose current generation is this: a row, or a new generation of its row
abbrev pub put_of : Option ℕ → Component → Write
put_of None x = writes.Component x
put_of (Some _) x = writes.Generation x

-- by these rows the component can't be raised to its generation
abbrev pub is_lower_in : List Component → Component → Bool
is_lower_in rows x = is_sbat x.name || not (is_above x.generation (generation_in rows x.name))

-- why, by the rows of a view, the named entries can't be put into force, by their kind; `names` is
-- the count of names that they raise
abbrev pub force_refusal_in : View → ProposalKind → Imported → ℕ → Option Refusal
force_refusal_in v kinds.Digest n names =
    refuse_if (list_any ((seen_standing v.lists).revoked listed.Digest) n.digests) refusals.AlreadyRevoked
force_refusal_in v kinds.Certificate n names =
    refuse_if (list_any ((seen_standing v.lists).revoked listed.Certificate) n.certificates) refusals.AlreadyRevoked
force_refusal_in v kinds.Level n names =
    if list_any (is_lower_in v.lists.components.items) n.components then Some refusals.NotHigher
    else refuse_if (not (is_later v.stamp n.stamp)) refusals.StampNotLater
force_refusal_in v kinds.Import n names = import_refusal (nat_lt 0 names) v.stamp n.stamp

-- why, by these rows, dropping the proposal k is refused
abbrev pub drop_refusal_in : View → ℕ → Option Refusal
drop_refusal_in v k =
    option_map_or (λ row. drop_by row.state) (find (is_proposal_row k) v.proposals.items) (Some refusals.NoSuchProposal)

-- why, by these rows, explaining the proposal k is refused
abbrev pub explain_refusal_in : View → ℕ → Option Refusal
explain_refusal_in v k = option_map_or (λ row. None) (find (is_proposal_row k) v.proposals.items) (Some refusals.NoSuchProposal)

-- an open proposal as a row
abbrev pub open_row : ℕ → List ℕ → ProposalKind → Imported → ProposalRow
open_row number officer kind named =
    record { number = number; officer = officer; kind = kind; named = named; state = proposal_states.Open }

-- The result is the decision by the command's own conditions with the call's row after its writes
-- if the tables have room for them, and otherwise Full; or memory ran out.
abbrev pub AppendsCallRow : Result Changes Refusal → View → Changes → Minute → Type 0
AppendsCallRow result v own row =
    MatchResult result
    (λ changes. (has_room v.sizes own.writes.items ≡ true) × (changes.reply ≡ own.reply) × (changes.writes.items ≡ own.writes.items ++ writes.Call row ∷ []))
    (λ r. ((has_room v.sizes own.writes.items ≡ false) × (r ≡ refusals.Full)) ⊎ (r ≡ refusals.NoMemory))

-- the result is the earlier call's answer to a call with this key and this text, without writes; or
-- memory ran out
abbrev pub Repeats : Result Changes Refusal → Minute → List ℕ → Type 0
Repeats result m text =
    MatchResult result (λ changes. (repeated m text ≡ Repeated changes.reply) × (changes.writes.items ≡ []))
    (λ r. (repeated m text ≡ Refused r) ⊎ (r ≡ refusals.NoMemory))
