-- The refusals of a decision: its own alone, whatever the view shows.
use Rattle.std.proofs.Common.{◌≡◌, ℕ, Bool, true, false, not, ◌||◌, List, [], ◌∷◌, Option, Some, None, Ok, Err, Result, refl, sym, subst, inl, inr}
use Rattle.std.specs.Prelude.{if◌then◌else◌, IfErr, IsTrue, bytes_eq, codes, find}
use Rattle.std.specs.List.{list_any}
use Rattle.std.specs.Option.{option_map_or}
use Rattle.base.specs.declared.refusal.Refusal.{Refusal}
use Rattle.base.specs.declared.refusal.Refusal.TheVariants as refusals
use Rattle.desk_types.specs.declared.caller.Caller.{Caller}
use Rattle.desk_types.specs.declared.command.Ballot.{Ballot}
use Rattle.desk_types.specs.declared.command.Listing.{Listing}
use Rattle.desk_types.specs.declared.command.Person.{Person}
use Rattle.desk_types.specs.declared.command.ReturnedFile.{ReturnedFile}
use Rattle.desk_types.specs.declared.command.Submission.{Submission}
use Rattle.desk_types.specs.declared.facts.Facts.{Facts}
use Rattle.desk_types.specs.Imports.{Imported}
use Rattle.desk_types.specs.declared.kind.ListedKind.{ListedKind}
use Rattle.desk_types.specs.declared.proposal.ProposalKind.{ProposalKind}
use Rattle.desk_types.specs.declared.proposal.ProposalState.{ProposalState}
use Rattle.desk_types.specs.declared.reply.Reply.{Reply}
use Rattle.desk_types.specs.declared.reply.Reply.TheVariants as replies
use Rattle.desk_types.specs.declared.state.State.{State}
use Rattle.desk_types.specs.declared.state.State.TheVariants as states
use Rattle.desk_types.specs.Callers.{caller_name}
use Rattle.desk_history.specs.declared.answer.Answer.TheVariants.{Refused, Repeated}
use Rattle.desk_history.specs.declared.rows.Entry.{Entry}
use Rattle.desk_history.specs.declared.rows.Minute.{Minute}
use Rattle.desk_history.specs.declared.rows.ProposalRow.{ProposalRow}
use Rattle.desk_history.specs.declared.rows.RequestRow.{RequestRow}
use Rattle.desk_history.specs.declared.write.Write.{Write}
use Rattle.desk_history.specs.declared.write.Write.TheVariants as writes
use Rattle.desk_history.specs.People.{has_name, has_token}
use Rattle.desk_history.specs.Refusals.{add_refusal, confirm_by, drop_by, image_refusal, is_closed, refuse_if, return_by, review_by, withdraw_by}
use Rattle.desk_history.specs.DecisionRefusals.{may_answer}
use Rattle.desk_history.specs.Requests.{is_vote_of, votes_on}
use Rattle.desk_history.specs.Runs.{repeated}
use Rattle.desk_history.specs.Verdicts.{bars, lists_image}
use Rattle.desk_rules.specs.declared.view.Changes.{Changes}
use Rattle.desk_rules.specs.declared.view.View.{View}
use Rattle.desk_rules.specs.DecisionSteps.{AppendsCallRow, Decided, Repeats, drop_refusal_in, explain_refusal_in, force_refusal_in, outcome_after, return_refusal_in, returned_file_row, review_refusal_in, submission_writes, vote_row, withdraw_refusal_in}
use Rattle.desk_rules.specs.Shown.{is_proposal_row, is_request_row}
use Rattle.desk_rules.specs.Views.{seen_standing}
use Rattle.desk_rules.proofs.ForeseenRefusals.{force_foreseen, may_be_answered}

none_some : {A : Type 0} {r : Refusal} → None ≡ Some r → A
none_some h = cc

given : (q r : Refusal) → may_answer q ≡ true → Some q ≡ Some r → may_answer r ≡ true
given q r fine h = let e : q ≡ r = cc in subst (λ x. may_answer x ≡ true) e fine

refuse_only : (b : Bool) (q r : Refusal) → may_answer q ≡ true → refuse_if b q ≡ Some r → may_answer r ≡ true
refuse_only true q r fine h = given q r fine h
refuse_only false q r fine h = none_some h

-- a row that is looked up, or none
row_only : (f : RequestRow → Option Refusal) → ((row : RequestRow) (r : Refusal) → f row ≡ Some r → may_answer r ≡ true) → (o : Option RequestRow) (r : Refusal) →
    option_map_or f o (Some refusals.NoSuchRequest) ≡ Some r → may_answer r ≡ true
row_only f each None r h = given refusals.NoSuchRequest r refl h
row_only f each (Some row) r h = each row r h

review_only : (s : State) (own voted : Bool) (r : Refusal) → review_by s own voted ≡ Some r → may_answer r ≡ true
review_only states.Open true voted r h = given refusals.OwnRequest r refl h
review_only states.Open false voted r h = refuse_only voted refusals.AlreadyReviewed r refl h
review_only states.Approved own voted r h = given refusals.WrongState r refl h
review_only states.Rejected own voted r h = given refusals.WrongState r refl h
review_only states.Withdrawn own voted r h = given refusals.WrongState r refl h
review_only states.Signed own voted r h = given refusals.WrongState r refl h

withdraw_only : (s : State) (own : Bool) (r : Refusal) → withdraw_by s own ≡ Some r → may_answer r ≡ true
withdraw_only s false r h = given refusals.NoSuchRequest r refl h
withdraw_only states.Open true r h = none_some h
withdraw_only states.Approved true r h = none_some h
withdraw_only states.Rejected true r h = given refusals.WrongState r refl h
withdraw_only states.Withdrawn true r h = given refusals.WrongState r refl h
withdraw_only states.Signed true r h = given refusals.WrongState r refl h

image_only : (differs barred listed : Bool) (r : Refusal) → (if differs then Some refusals.DigestDiffers else (if barred then Some refusals.Revoked else refuse_if (not listed) refusals.NotListed)) ≡ Some r → may_answer r ≡ true
image_only true barred listed r h = given refusals.DigestDiffers r refl h
image_only false true listed r h = given refusals.Revoked r refl h
image_only false false listed r h = refuse_only (not listed) refusals.NotListed r refl h

return_only : (s : State) (digest signing : List ℕ) (x : Facts) (barred listed : Bool) (r : Refusal) → return_by s (image_refusal digest signing x barred listed) ≡ Some r → may_answer r ≡ true
return_only states.Approved digest signing x barred listed r h = image_only (not (bytes_eq x.digest signing || bytes_eq x.digest digest)) barred listed r h
return_only states.Open digest signing x barred listed r h = given refusals.WrongState r refl h
return_only states.Rejected digest signing x barred listed r h = given refusals.WrongState r refl h
return_only states.Withdrawn digest signing x barred listed r h = given refusals.WrongState r refl h
return_only states.Signed digest signing x barred listed r h = given refusals.WrongState r refl h

pub force_only : (v : View) (kind : ProposalKind) (n : Imported) (names : ℕ) (r : Refusal) → force_refusal_in v kind n names ≡ Some r → may_answer r ≡ true
force_only v kind n names r h = may_be_answered r (force_foreseen v kind n names r h)

drop_only : (s : ProposalState) (r : Refusal) → drop_by s ≡ Some r → may_answer r ≡ true
drop_only s r h = refuse_only (is_closed s) refusals.ProposalClosed r refl h

dropped_only : (o : Option ProposalRow) (r : Refusal) → option_map_or (λ row. drop_by row.state) o (Some refusals.NoSuchProposal) ≡ Some r → may_answer r ≡ true
dropped_only None r h = given refusals.NoSuchProposal r refl h
dropped_only (Some row) r h = drop_only row.state r h

explained_only : (o : Option ProposalRow) (r : Refusal) → option_map_or (λ row. None) o (Some refusals.NoSuchProposal) ≡ Some r → may_answer r ≡ true
explained_only None r h = given refusals.NoSuchProposal r refl h
explained_only (Some row) r h = none_some h

early_parts : (closed own : Bool) (r : Refusal) → (if closed then Some refusals.ProposalClosed else (if own then Some refusals.OwnProposal else None)) ≡ Some r → may_answer r ≡ true
early_parts true own r h = given refusals.ProposalClosed r refl h
early_parts false true r h = given refusals.OwnProposal r refl h
early_parts false false r h = none_some h

-- the refusals of a Confirm of a closed proposal or of an own one
pub early_only : (state : ProposalState) (own : Bool) (r : Refusal) → confirm_by state own None ≡ Some r → may_answer r ≡ true
early_only state own r h = early_parts (is_closed state) own r h

-- the refusals of a decision by a refusal, a reply and writes
decided_only : (result : Result Changes Refusal) (refusal : Option Refusal) (reply : Reply) (ws : List Write) → Decided result refusal reply ws → ((r : Refusal) → refusal ≡ Some r → may_answer r ≡ true) →
    IfErr result (λ r. IsTrue (may_answer r))
decided_only (Ok changes) refusal reply ws told each = tt
decided_only (Err r) refusal reply ws (inl is) each = each r is
decided_only (Err r) refusal reply ws (inr e) each = subst (λ x. may_answer x ≡ true) (sym e) refl

module _ (result : Result Changes Refusal) (reply : Reply) (ws : List Write) where
  refused_if : (b : Bool) (q : Refusal) → may_answer q ≡ true → Decided result (refuse_if b q) reply ws → IfErr result (λ r. IsTrue (may_answer r))
  refused_if b q fine told = decided_only result (refuse_if b q) reply ws told (λ r h. refuse_only b q r fine h)

  review_refused : (o : Option RequestRow) (own : RequestRow → Bool) (voted : Bool) → Decided result (option_map_or (λ row. review_by row.state (own row) voted) o (Some refusals.NoSuchRequest)) reply ws → IfErr result (λ r. IsTrue (may_answer r))
  review_refused o own voted told =
      decided_only result (option_map_or (λ row. review_by row.state (own row) voted) o (Some refusals.NoSuchRequest)) reply ws told
      (row_only (λ row. review_by row.state (own row) voted) (λ row r h. review_only row.state (own row) voted r h) o)

  withdraw_refused : (o : Option RequestRow) (own : RequestRow → Bool) → Decided result (option_map_or (λ row. withdraw_by row.state (own row)) o (Some refusals.NoSuchRequest)) reply ws → IfErr result (λ r. IsTrue (may_answer r))
  withdraw_refused o own told =
      decided_only result (option_map_or (λ row. withdraw_by row.state (own row)) o (Some refusals.NoSuchRequest)) reply ws told
      (row_only (λ row. withdraw_by row.state (own row)) (λ row r h. withdraw_only row.state (own row) r h) o)

  return_refused : (o : Option RequestRow) (x : Facts) (barred listed : Bool) → Decided result (option_map_or (λ row. return_by row.state (image_refusal row.digest row.signing x barred listed)) o (Some refusals.NoSuchRequest)) reply ws →
      IfErr result (λ r. IsTrue (may_answer r))
  return_refused o x barred listed told =
      decided_only result (option_map_or (λ row. return_by row.state (image_refusal row.digest row.signing x barred listed)) o (Some refusals.NoSuchRequest)) reply ws told
      (row_only (λ row. return_by row.state (image_refusal row.digest row.signing x barred listed)) (λ row r h. return_only row.state row.digest row.signing x barred listed r h) o)

-- each command's own decision

module _ (v : View) (result : Result Changes Refusal) where
  pub adds_only : (p : Person) → Decided result (add_refusal v.people.items p) (replies.Added p.name) (writes.Person p ∷ []) → IfErr result (λ r. IsTrue (may_answer r))
  adds_only p told =
      refused_if result (replies.Added p.name) (writes.Person p ∷ [])
      (bytes_eq p.name (codes "console") || list_any (has_name p.name) v.people.items || list_any (has_token p.token) v.people.items) refusals.NameTaken refl told

  pub submits_only : (k : ℕ) (caller : Caller) (s : Submission) → Decided result (refuse_if (bars (seen_standing v.lists) s.facts) refusals.Revoked) (replies.Submitted k) (submission_writes k caller s) → IfErr result (λ r. IsTrue (may_answer r))
  submits_only k caller s told = refused_if result (replies.Submitted k) (submission_writes k caller s) (bars (seen_standing v.lists) s.facts) refusals.Revoked refl told

  pub reviews_only : (caller : Caller) (b : Ballot) → Decided result (review_refusal_in v b.request (caller_name caller)) (replies.Reviewed (outcome_after v b)) (writes.Vote (vote_row (caller_name caller) b) ∷ writes.State (outcome_after v b) ∷ []) → IfErr result (λ r. IsTrue (may_answer r))
  reviews_only caller b told =
      review_refused result (replies.Reviewed (outcome_after v b)) (writes.Vote (vote_row (caller_name caller) b) ∷ writes.State (outcome_after v b) ∷ [])
      (find (is_request_row b.request) v.requests.items) (λ row. bytes_eq row.submitter (caller_name caller)) (list_any (is_vote_of (caller_name caller)) (votes_on v.votes.items b.request)) told

  pub withdraws_only : (caller : Caller) (k : ℕ) → Decided result (withdraw_refusal_in v k (caller_name caller)) (replies.Withdrawn k) (writes.State (record { request = k; state = states.Withdrawn }) ∷ []) → IfErr result (λ r. IsTrue (may_answer r))
  withdraws_only caller k told =
      withdraw_refused result (replies.Withdrawn k) (writes.State (record { request = k; state = states.Withdrawn }) ∷ [])
      (find (is_request_row k) v.requests.items) (λ row. bytes_eq row.submitter (caller_name caller)) told

  pub returns_only : (caller : Caller) (h : ReturnedFile) → Decided result (return_refusal_in v h) (replies.Returned h.request) (writes.Return (returned_file_row (caller_name caller) h) ∷ writes.State (record { request = h.request; state = states.Signed }) ∷ []) → IfErr result (λ r. IsTrue (may_answer r))
  returns_only caller h told =
      return_refused result (replies.Returned h.request) (writes.Return (returned_file_row (caller_name caller) h) ∷ writes.State (record { request = h.request; state = states.Signed }) ∷ [])
      (find (is_request_row h.request) v.requests.items) h.facts (bars (seen_standing v.lists) h.facts) (lists_image (seen_standing v.lists) h.facts) told

  pub lists_only : (kind : ListedKind) (digest : List ℕ) (e : Entry) → Decided result (refuse_if ((seen_standing v.lists).listed kind digest) refusals.AlreadyListed) replies.Listed (writes.List e ∷ []) → IfErr result (λ r. IsTrue (may_answer r))
  lists_only kind digest e told = refused_if result replies.Listed (writes.List e ∷ []) ((seen_standing v.lists).listed kind digest) refusals.AlreadyListed refl told

  pub unlists_only : (l : Listing) → Decided result (refuse_if (not ((seen_standing v.lists).listed l.kind l.digest)) refusals.NotThere) replies.Unlisted (writes.Unlist l ∷ []) → IfErr result (λ r. IsTrue (may_answer r))
  unlists_only l told = refused_if result replies.Unlisted (writes.Unlist l ∷ []) (not ((seen_standing v.lists).listed l.kind l.digest)) refusals.NotThere refl told

  pub proposes_only : (kind : ProposalKind) (n : Imported) (names : ℕ) (reply : Reply) (ws : List Write) → Decided result (force_refusal_in v kind n names) reply ws → IfErr result (λ r. IsTrue (may_answer r))
  proposes_only kind n names reply ws told = decided_only result (force_refusal_in v kind n names) reply ws told (force_only v kind n names)

  pub drops_only : (k : ℕ) (reply : Reply) (ws : List Write) → Decided result (drop_refusal_in v k) reply ws → IfErr result (λ r. IsTrue (may_answer r))
  drops_only k reply ws told = decided_only result (drop_refusal_in v k) reply ws told (dropped_only (find (is_proposal_row k) v.proposals.items))

  pub explains_only : (k : ℕ) (reply : Reply) (ws : List Write) → Decided result (explain_refusal_in v k) reply ws → IfErr result (λ r. IsTrue (may_answer r))
  explains_only k reply ws told = decided_only result (explain_refusal_in v k) reply ws told (explained_only (find (is_proposal_row k) v.proposals.items))

-- the refusal by the key's earlier call
repeated_only : (m : Minute) (text : List ℕ) (r : Refusal) → repeated m text ≡ Refused r → may_answer r ≡ true
repeated_only m text r = elim (bytes_eq m.text text) as (λ b. (if b then Repeated m.reply else Refused refusals.KeyReused) ≡ Refused r → may_answer r ≡ true) [
  | true ↦ λ h. cc
  | false ↦ λ h. (let e : refusals.KeyReused ≡ r = cc in subst (λ x. may_answer x ≡ true) e refl)
]

pub repeats_only : (result : Result Changes Refusal) (m : Minute) (text : List ℕ) → Repeats result m text → IfErr result (λ r. IsTrue (may_answer r))
repeats_only (Ok changes) m text told = tt
repeats_only (Err r) m text (inl h) = repeated_only m text r h
repeats_only (Err r) m text (inr e) = subst (λ x. may_answer x ≡ true) (sym e) refl

pub appends_only : (result : Result Changes Refusal) (v : View) (own : Changes) (row : Minute) → AppendsCallRow result v own row → IfErr result (λ r. IsTrue (may_answer r))
appends_only (Ok changes) v own row told = tt
appends_only (Err r) v own row (inl h) = subst (λ x. may_answer x ≡ true) (sym h.1) refl
appends_only (Err r) v own row (inr e) = subst (λ x. may_answer x ≡ true) (sym e) refl
