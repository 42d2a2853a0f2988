-- Tables after the writes of votes, withdrawals and returns.
use Rattle.std.proofs.Common.{◌≡◌, ℕ, ◌+◌, Bool, true, false, not, ◌||◌, cond, List, [], ◌∷◌, map, Option, Some, None, Result, refl, sym, ◌∙◌, ap, inl, arith}
use Rattle.std.specs.Prelude.{◌==◌, if◌then◌else◌, bytes_eq, count_by, find, nat_le, option_map}
use Rattle.std.specs.List.{list_any}
use Rattle.std.specs.Option.{option_map_or}
use Rattle.std.proofs.lemmas.Bool.Decides.{nat_tests}
use Rattle.std.proofs.lemmas.List.Sorted.{list_any-IsPermutation, sum_by-IsPermutation}
use Rattle.base.specs.declared.refusal.Refusal.{Refusal}
use Rattle.base.specs.declared.refusal.Refusal.TheVariants as refusals
use Rattle.desk_types.specs.declared.caller.Caller.{Caller}
use Rattle.desk_types.specs.declared.command.Ballot.{Ballot}
use Rattle.desk_types.specs.declared.command.Call.{Call}
use Rattle.desk_types.specs.declared.command.Command.TheVariants as command
use Rattle.desk_types.specs.declared.command.ReturnedFile.{ReturnedFile}
use Rattle.desk_types.specs.declared.facts.Facts.{Facts}
use Rattle.desk_types.specs.declared.reply.Reply.TheVariants as replies
use Rattle.desk_history.specs.declared.rows.RequestRow.{RequestRow}
use Rattle.desk_history.specs.declared.rows.VoteRow.{VoteRow}
use Rattle.desk_types.specs.declared.state.State.{State}
use Rattle.desk_types.specs.declared.state.State.TheVariants as states
use Rattle.desk_types.specs.declared.vote.Vote.{Vote}
use Rattle.desk_types.specs.declared.vote.Vote.TheVariants as vote
use Rattle.desk_history.specs.declared.write.Write.TheVariants as writes
use Rattle.desk_types.specs.Callers.{caller_name}
use Rattle.desk_history.specs.Calls.{History, item}
use Rattle.desk_history.specs.Requests.{Request, has_number, is_returned, is_vote_of, is_withdrawn, is_yes, request, requests, returns, state, state_by, state_by_votes, votes, votes_on}
use Rattle.desk_history.specs.Tables.{request_row, return_row, tables}
use Rattle.desk_history.specs.Writes.{set_state}
use Rattle.desk_rules.specs.declared.view.Changes.{Changes}
use Rattle.desk_rules.specs.declared.view.View.{View}
use Rattle.desk_rules.specs.DecisionSteps.{Decided, MatchesOwn, returned_file_row, outcome_after, return_refusal_in, review_refusal_in, withdraw_refusal_in, state_after, state_with, vote_row}
use Rattle.desk_history.specs.Called.{called}
use Rattle.desk_rules.specs.Shown.{Shows, is_request_row}
use Rattle.desk_history.specs.Refusals.{image_refusal, return_by, return_refusal, review_by, review_refusal, withdraw_by, withdraw_refusal}
use Rattle.desk_history.specs.Verdicts.{bars, is_barred, lists_image, standing, stands_in_db}
use Rattle.desk_rules.specs.Views.{keys_of, seen_standing}
use Rattle.desk_history.proofs.CountLemmas.{one_if}
use Rattle.desk_rules.proofs.DecisionLemmas.{decided}
use Rattle.desk_history.proofs.ListLemmas.{number_is}
use Rattle.desk_history.proofs.RefusalLemmas.{no_refusal}
use Rattle.desk_history.proofs.RequestLemmas.{count_more}
use Rattle.desk_rules.proofs.StandingLemmas.{bars_alike, bars_so, lists_alike, lists_so}

other_number : (k n : ℕ) → (k == n) ≡ false → (n == k) ≡ false
other_number k n h = grind (arith, nat_tests)

own_number : (k : ℕ) → (k == k) ≡ true
own_number k = grind (arith, nat_tests)

-- the row of a request is the request with its state
pub row_found : (k : ℕ) (f : ℕ → State) (rs : List Request) → find (is_request_row k) (map (λ r. request_row (f r.number) r) rs) ≡ option_map (request_row (f k)) (find (has_number k) rs)
row_found k f [] = refl
row_found k f (r ∷ rs) =
    elim (k == r.number) as (λ b. (k == r.number) ≡ b → (if b then Some (request_row (f r.number) r) else find (is_request_row k) (map (λ r. request_row (f r.number) r) rs)) ≡ option_map (request_row (f k)) (if b then Some r else find (has_number k) rs)) [
      | true ↦ λ e. ap (λ n. Some (request_row (f n) r)) (sym (number_is k r.number e))
      | false ↦ λ e. row_found k f rs
    ] refl

-- a state is set in the row of its own request alone
set_states : (k : ℕ) (s : State) (f g : ℕ → State) → g k ≡ s → ((n : ℕ) → (k == n) ≡ false → g n ≡ f n) → (rs : List Request) →
    map (set_state k s) (map (λ r. request_row (f r.number) r) rs) ≡ map (λ r. request_row (g r.number) r) rs
set_states k s f g same other [] = refl
set_states k s f g same other (r ∷ rs) =
    ap (λ row. row ∷ map (set_state k s) (map (λ r. request_row (f r.number) r) rs)) one
    ∙ ap (λ rows. request_row (g r.number) r ∷ rows) (set_states k s f g same other rs)
  where
    one : set_state k s (request_row (f r.number) r) ≡ request_row (g r.number) r
    one =
        elim (k == r.number) as (λ b. (k == r.number) ≡ b → (if b then request_row s r else request_row (f r.number) r) ≡ request_row (g r.number) r) [
          | true ↦ λ e. ap (λ t. request_row t r) (sym same ∙ ap g (number_is k r.number e))
          | false ↦ λ e. ap (λ t. request_row t r) (sym (other r.number e))
        ] refl

-- states

open_by : (s : State) (own voted : Bool) → review_by s own voted ≡ None → s ≡ states.Open
open_by states.Open own voted h = refl
open_by states.Approved own voted h = no_refusal h
open_by states.Rejected own voted h = no_refusal h
open_by states.Withdrawn own voted h = no_refusal h
open_by states.Signed own voted h = no_refusal h

open_review : (o : Option Request) (s : State) (vs : List VoteRow) (name : List ℕ) → review_refusal o s vs name ≡ None → s ≡ states.Open
open_review None s vs name h = no_refusal h
open_review (Some r) s vs name h = open_by s (bytes_eq r.submitter name) (list_any (is_vote_of name) vs) h

no_open : {A : Type 0} → states.Signed ≡ states.Open → A
no_open h = cc

no_open_withdrawn : {A : Type 0} → states.Withdrawn ≡ states.Open → A
no_open_withdrawn h = cc

-- an open request is neither returned nor withdrawn
open_parts : (a b : Bool) (vs : List VoteRow) → state_by a b vs ≡ states.Open → (a ≡ false) × (b ≡ false)
open_parts true b vs h = no_open h
open_parts false true vs h = no_open_withdrawn h
open_parts false false vs h = (refl, refl)

unsigned_by : (b own : Bool) (vs : List VoteRow) (a : Bool) → withdraw_by (state_by a b vs) own ≡ None → a ≡ false
unsigned_by b own vs false h = refl
unsigned_by b false vs true h = no_refusal h
unsigned_by b true vs true h = no_refusal h

unsigned : (o : Option Request) (a b : Bool) (vs : List VoteRow) (name : List ℕ) → withdraw_refusal o (state_by a b vs) name ≡ None → a ≡ false
unsigned None a b vs name h = no_refusal h
unsigned (Some r) a b vs name h = unsigned_by b (bytes_eq r.submitter name) vs a h

voted_state : (t : Vote) (some : Bool) (n total : ℕ) → total ≡ one_if (elim t [ vote.Yes ↦ true | vote.No ↦ false ]) + n →
    (if not (elim t [ vote.Yes ↦ true | vote.No ↦ false ]) || some then states.Rejected else (if nat_le 2 total then states.Approved else states.Open)) ≡ state_with t some n
voted_state vote.No some n total h = refl
voted_state vote.Yes true n total h = refl
voted_state vote.Yes false n total h = ap (λ b. if b then states.Approved else states.Open) (two_by_one n total h)
  where
    two_by_one : (n total : ℕ) → total ≡ 1 + n → nat_le 2 total ≡ nat_le 1 n
    two_by_one n total h = grind (arith, nat_tests)

-- the state that one more vote gives
state_more : (w : VoteRow) (vs : List VoteRow) → state_by_votes (w ∷ vs) ≡ state_with w.vote (list_any (λ v. not (is_yes v)) vs) (count_by is_yes vs)
state_more w vs = voted_state w.vote (list_any (λ v. not (is_yes v)) vs) (count_by is_yes vs) (count_by is_yes (w ∷ vs)) (count_more is_yes w vs)

module _ (v : View) (owner : List ℕ) (cs : History) (c : Call) (shown : Shows v (tables owner cs) c) (k : ℕ) where
  -- the row that the view has is that of the request
  seen_row : find (is_request_row k) v.requests.items ≡ find (is_request_row k) (tables owner cs).requests → find (is_request_row k) v.requests.items ≡ option_map (request_row (state cs k)) (request cs k)
  seen_row is = is ∙ row_found k (state cs) (requests cs)

review_of : (o : Option Request) (s : State) (voted : Bool) (vs : List VoteRow) (name : List ℕ) → voted ≡ list_any (is_vote_of name) vs →
    option_map_or (λ (row : RequestRow). review_by row.state (bytes_eq row.submitter name) voted) (option_map (request_row s) o) (Some refusals.NoSuchRequest) ≡ review_refusal o s vs name
review_of None s voted vs name h = refl
review_of (Some r) s voted vs name h = ap (λ b. review_by s (bytes_eq r.submitter name) b) h

withdraw_of : (o : Option Request) (s : State) (name : List ℕ) →
    option_map_or (λ (row : RequestRow). withdraw_by row.state (bytes_eq row.submitter name)) (option_map (request_row s) o) (Some refusals.NoSuchRequest) ≡ withdraw_refusal o s name
withdraw_of None s name = refl
withdraw_of (Some r) s name = refl

return_of_row : (o : Option Request) (s : State) (x : Facts) (barred listed : Bool) →
    option_map_or (λ (row : RequestRow). return_by row.state (image_refusal row.digest row.signing x barred listed)) (option_map (request_row s) o) (Some refusals.NoSuchRequest) ≡ return_refusal o s x barred listed
return_of_row None s x barred listed = refl
return_of_row (Some r) s x barred listed = refl

-- Review

module _ (v : View) (caller : Caller) (b : Ballot) (owner : List ℕ) (cs : History) (key : List ℕ) (shown : Shows v (tables owner cs) (called caller key (command.Review b))) where
  review_seen : review_refusal_in v b.request (caller_name caller) ≡ review_refusal (request cs b.request) (state cs b.request) (votes_on (votes cs) b.request) (caller_name caller)
  review_seen =
      ap (λ o. option_map_or (λ (row : RequestRow). review_by row.state (bytes_eq row.submitter (caller_name caller)) (list_any (is_vote_of (caller_name caller)) (votes_on v.votes.items b.request))) o (Some refusals.NoSuchRequest))
      (seen_row v owner cs (called caller key (command.Review b)) shown b.request (shown.request b.request refl))
      ∙ review_of (request cs b.request) (state cs b.request) (list_any (is_vote_of (caller_name caller)) (votes_on v.votes.items b.request)) (votes_on (votes cs) b.request) (caller_name caller)
      (sym (list_any-IsPermutation (is_vote_of (caller_name caller)) (votes_on (votes cs) b.request) (votes_on v.votes.items b.request) (shown.votes b.request refl)))

  state_seen : state_after v b ≡ state_with b.vote (list_any (λ w. not (is_yes w)) (votes_on (votes cs) b.request)) (count_by is_yes (votes_on (votes cs) b.request))
  state_seen =
      let counted : count_by is_yes (votes_on v.votes.items b.request) ≡ count_by is_yes (votes_on (votes cs) b.request) =
      sum_by-IsPermutation (λ w. cond (is_yes w) 1 0) (votes_on (votes cs) b.request) (votes_on v.votes.items b.request) (shown.votes b.request refl) in
      let some_no : list_any (λ (w : VoteRow). not (is_yes w)) (votes_on v.votes.items b.request) ≡ list_any (λ (w : VoteRow). not (is_yes w)) (votes_on (votes cs) b.request) =
      sym (list_any-IsPermutation (λ (w : VoteRow). not (is_yes w)) (votes_on (votes cs) b.request) (votes_on v.votes.items b.request) (shown.votes b.request refl)) in
      ap (λ t. state_with b.vote t (count_by is_yes (votes_on v.votes.items b.request))) some_no
      ∙ ap (λ n. state_with b.vote (list_any (λ (w : VoteRow). not (is_yes w)) (votes_on (votes cs) b.request)) n) counted

  state_new : review_refusal_in v b.request (caller_name caller) ≡ None → state (item (called caller key (command.Review b)) ∷ cs) b.request ≡ state_after v b
  state_new none =
      let is_open : state cs b.request ≡ states.Open = open_review (request cs b.request) (state cs b.request) (votes_on (votes cs) b.request) (caller_name caller) (sym review_seen ∙ none) in
      let free : (is_returned cs b.request ≡ false) × (is_withdrawn cs b.request ≡ false) = open_parts (is_returned cs b.request) (is_withdrawn cs b.request) (votes_on (votes cs) b.request) is_open in
      let w : VoteRow = vote_row (caller_name caller) b in
      ap (λ t. state_by t (is_withdrawn cs b.request) (cond (b.request == b.request) (w ∷ votes_on (votes cs) b.request) (votes_on (votes cs) b.request))) free.0
      ∙ (ap (λ t. state_by false t (cond (b.request == b.request) (w ∷ votes_on (votes cs) b.request) (votes_on (votes cs) b.request))) free.1
      ∙ (ap (λ t. state_by_votes (cond t (w ∷ votes_on (votes cs) b.request) (votes_on (votes cs) b.request))) (own_number b.request)
      ∙ (state_more w (votes_on (votes cs) b.request) ∙ sym state_seen)))

  pub reviews : (result : Result Changes Refusal) →
      Decided result (review_refusal_in v b.request (caller_name caller)) (replies.Reviewed (outcome_after v b)) (writes.Vote (vote_row (caller_name caller) b) ∷ writes.State (outcome_after v b) ∷ []) →
      MatchesOwn owner cs (called caller key (command.Review b)) result
  reviews result told =
      let c : Call = called caller key (command.Review b) in
      let w : VoteRow = vote_row (caller_name caller) b in
      decided owner cs c result (review_refusal_in v b.request (caller_name caller)) (replies.Reviewed (outcome_after v b)) (writes.Vote w ∷ writes.State (outcome_after v b) ∷ []) told
      review_seen
      (λ none. ap (λ s. replies.Reviewed (record { request = b.request; state = s })) (sym (state_new none)))
      (λ none. ap (λ rows. record (tables owner cs) { votes = w ∷ votes cs; requests = rows })
      (set_states b.request (state_after v b) (state cs) (state (item c ∷ cs)) (state_new none)
      (λ n e. ap (λ t. state_by (is_returned cs n) (is_withdrawn cs n) (cond t (w ∷ votes_on (votes cs) n) (votes_on (votes cs) n))) (other_number b.request n e))
      (requests cs)))
      (inl refl)

-- Withdraw

module _ (v : View) (caller : Caller) (k : ℕ) (owner : List ℕ) (cs : History) (key : List ℕ) (shown : Shows v (tables owner cs) (called caller key (command.Withdraw k))) where
  withdraw_seen : withdraw_refusal_in v k (caller_name caller) ≡ withdraw_refusal (request cs k) (state cs k) (caller_name caller)
  withdraw_seen =
      ap (λ o. option_map_or (λ (row : RequestRow). withdraw_by row.state (bytes_eq row.submitter (caller_name caller))) o (Some refusals.NoSuchRequest))
      (seen_row v owner cs (called caller key (command.Withdraw k)) shown k (shown.request k refl))
      ∙ withdraw_of (request cs k) (state cs k) (caller_name caller)

  withdrawn_new : withdraw_refusal_in v k (caller_name caller) ≡ None → state (item (called caller key (command.Withdraw k)) ∷ cs) k ≡ states.Withdrawn
  withdrawn_new none =
      let free : is_returned cs k ≡ false = unsigned (request cs k) (is_returned cs k) (is_withdrawn cs k) (votes_on (votes cs) k) (caller_name caller) (sym withdraw_seen ∙ none) in
      ap (λ t. state_by t ((k == k) || is_withdrawn cs k) (votes_on (votes cs) k)) free
      ∙ ap (λ t. state_by false (t || is_withdrawn cs k) (votes_on (votes cs) k)) (own_number k)

  pub withdraws_request : (result : Result Changes Refusal) →
      Decided result (withdraw_refusal_in v k (caller_name caller)) (replies.Withdrawn k) (writes.State (record { request = k; state = states.Withdrawn }) ∷ []) →
      MatchesOwn owner cs (called caller key (command.Withdraw k)) result
  withdraws_request result told =
      let c : Call = called caller key (command.Withdraw k) in
      decided owner cs c result (withdraw_refusal_in v k (caller_name caller)) (replies.Withdrawn k) (writes.State (record { request = k; state = states.Withdrawn }) ∷ []) told
      withdraw_seen
      (λ none. refl)
      (λ none. ap (λ rows. record (tables owner cs) { requests = rows })
      (set_states k states.Withdrawn (state cs) (state (item c ∷ cs)) (withdrawn_new none)
      (λ n e. ap (λ t. state_by (is_returned cs n) (t || is_withdrawn cs n) (votes_on (votes cs) n)) (other_number k n e))
      (requests cs)))
      (inl refl)

-- Return

module _ (v : View) (caller : Caller) (h : ReturnedFile) (owner : List ℕ) (cs : History) (key : List ℕ) (shown : Shows v (tables owner cs) (called caller key (command.Return h))) where
  return_seen : return_refusal_in v h ≡ return_refusal (request cs h.request) (state cs h.request) h.facts (is_barred cs h.facts) (stands_in_db cs h.facts)
  return_seen =
      ap (λ o. option_map_or (λ (row : RequestRow). return_by row.state (image_refusal row.digest row.signing h.facts (bars (seen_standing v.lists) h.facts) (lists_image (seen_standing v.lists) h.facts))) o (Some refusals.NoSuchRequest))
      (seen_row v owner cs (called caller key (command.Return h)) shown h.request (shown.request h.request refl))
      ∙ (return_of_row (request cs h.request) (state cs h.request) h.facts (bars (seen_standing v.lists) h.facts) (lists_image (seen_standing v.lists) h.facts)
      ∙ (ap (λ t. return_refusal (request cs h.request) (state cs h.request) h.facts t (lists_image (seen_standing v.lists) h.facts))
      (bars_alike (seen_standing v.lists) (standing cs) h.facts (bars_so v.lists owner cs (keys_of h.facts) shown.lists))
      ∙ ap (λ t. return_refusal (request cs h.request) (state cs h.request) h.facts (is_barred cs h.facts) t)
      (lists_alike (seen_standing v.lists) (standing cs) h.facts (lists_so v.lists owner cs (keys_of h.facts) shown.lists))))

  pub returns_file : (result : Result Changes Refusal) →
      Decided result (return_refusal_in v h) (replies.Returned h.request) (writes.Return (returned_file_row (caller_name caller) h) ∷ writes.State (record { request = h.request; state = states.Signed }) ∷ []) →
      MatchesOwn owner cs (called caller key (command.Return h)) result
  returns_file result told =
      let c : Call = called caller key (command.Return h) in
      decided owner cs c result (return_refusal_in v h) (replies.Returned h.request) (writes.Return (returned_file_row (caller_name caller) h) ∷ writes.State (record { request = h.request; state = states.Signed }) ∷ []) told
      return_seen
      (λ none. refl)
      (λ none. ap (λ rows. record (tables owner cs) { returns = returned_file_row (caller_name caller) h ∷ map return_row (returns cs); requests = rows })
      (set_states h.request states.Signed (state cs) (state (item c ∷ cs))
      (ap (λ t. state_by (t || is_returned cs h.request) (is_withdrawn cs h.request) (votes_on (votes cs) h.request)) (own_number h.request))
      (λ n e. ap (λ t. state_by (t || is_returned cs n) (is_withdrawn cs n) (votes_on (votes cs) n)) (other_number h.request n e))
      (requests cs)))
      (inl refl)
