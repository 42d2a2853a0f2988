-- The answers to a person who asks what waits, and for the number that tells of changes.
use Rattle.std.proofs.Common.{◌≡◌, ℕ, suc, ◌+◌, ◌≤◌, ◌==◌, ◌&&◌, Bool, true, false, not, cond, List, [], ◌∷◌, ◌++◌, map, filter, length, take, Option, Some, None, Result, Ok, Err, refl, sym, ap, ap₂, subst, ◌∙◌, length-append, arith, true≢false}
use Rattle.std.specs.Prelude.{bytes_eq, if◌then◌else◌, ok_or, reverse}
use Rattle.std.specs.List.Sorted.{IsPermutation}
use Rattle.std.specs.Result.{result_map_both}
use Rattle.std.proofs.lemmas.List.{length-map, length-reverse, take_all}
use Rattle.std.proofs.lemmas.List.Elements.{filter-append}
use Rattle.std.proofs.lemmas.List.Sorted.{length_permutation}
use Rattle.sqlite_trees.proofs.ListLemmas.{all_weaker, filter-map}
use Rattle.base.specs.declared.refusal.Refusal.{Refusal}
use Rattle.base.specs.declared.refusal.Refusal.TheVariants as refusals
use Rattle.desk_types.specs.declared.caller.Caller.TheVariants as callers
use Rattle.desk_types.specs.declared.command.Person.{Person}
use Rattle.desk_types.specs.declared.proposal.Proposal.{Proposal as ShownProposal}
use Rattle.desk_types.specs.declared.role.Role.{Role}
use Rattle.desk_types.specs.declared.role.Role.TheVariants as roles
use Rattle.desk_types.specs.declared.shown.ShownRequest.{ShownRequest}
use Rattle.desk_types.specs.declared.state.State.{State}
use Rattle.desk_history.specs.Calls.{History}
use Rattle.desk_exports.specs.Changes as changes
use Rattle.desk_history.specs.Formed.{IsHistory}
use Rattle.desk_history.specs.People.{has_name, people}
use Rattle.desk_history.specs.Proposals.{Proposal, proposals}
use Rattle.desk_history.specs.Requests.{Request, requests, submitted}
use Rattle.desk_history.specs.Roles.{is_officer}
use Rattle.desk_history.specs.Shown.{IsGiven, Whole, is_shown_to, sees, shown_proposal, whole, wholes}
use Rattle.desk_history.specs.Tables.{Tables, tables}
use Rattle.desk_exports.specs.Waiting.{Waiting, awaits, has_voted, may_wait, waiting, waiting_for, waits_for}
use Rattle.desk_history.specs.declared.rows.RequestRow.{RequestRow}
use Rattle.desk_history.specs.declared.rows.VoteRow.{VoteRow}
use Rattle.desk_exports.specs.Readings.{GivesChanges, GivesWaiting, HoldsShown}
use Rattle.desk_exports.specs.declared.shown.Shown.{Shown}
use Rattle.desk_exports.specs.declared.shown.Shown.TheVariants as answers
use Rattle.store_proposals.specs.Listing.{AreListable}
use Rattle.store_proposals.specs.Numbered as numbered
use Rattle.store_proposals.proofs.PlaceLemmas as place
use Rattle.store_reads.specs.Reads.{listed}
use Rattle.store_shown.specs.Choosing.{ListsUpTo}
use Rattle.store_shown.specs.Happening.{HappenedTo, HappenedToFirst, events_in, events_of, is_submitter}
use Rattle.store_shown.specs.Steps.{rows_at, sees_row}
use Rattle.store_shown.specs.declared.choice.Choice.TheVariants as choices
use Rattle.store_shown.proofs.ItemLemmas.{drops, found_listed, keeps}
use Rattle.store_shown.proofs.ListingLemmas as listing
use Rattle.store_shown.proofs.MadeLemmas.{row_of}
use Rattle.store_shown.proofs.MinuteLemmas.{minutes_length}
use Rattle.store_shown.proofs.ProposedLemmas as proposed

none_kept : {X : Type 0} (p : X → Bool) → ((x : X) → p x ≡ false) → (xs : List X) → filter p xs ≡ []
none_kept p none [] = refl
none_kept p none (x ∷ xs) = ap (λ b. cond b (x ∷ filter p xs) (filter p xs)) (none x) ∙ none_kept p none xs

officer_waits_for_none : (role : Role) → is_officer role ≡ true → (is_own : Bool) (s : State) → may_wait role is_own s ≡ false
officer_waits_for_none roles.Submitter h is_own s = absurd (true≢false (sym h))
officer_waits_for_none roles.Reviewer h is_own s = absurd (true≢false (sym h))
officer_waits_for_none roles.Officer h is_own s = refl
officer_waits_for_none roles.Signer h is_own s = absurd (true≢false (sym h))

-- ---- what waits

module _ (owner : List ℕ) (cs : History) (name : List ℕ) where
  -- what an officer is due of the proposals, and what everybody else is
  abbrev proposals_by : Bool → Person → Result (List Proposal) Refusal
  proposals_by b p = result_map_both (λ (q : Person). reverse (proposals cs)) (λ (e : Refusal). e) (if b then Ok p else Err refusals.NotYourRole)

  abbrev officer_of : Result Person Refusal → Result Person Refusal
  officer_of (Ok p) = if is_officer p.role then Ok p else Err refusals.NotYourRole
  officer_of (Err refusal) = Err refusal

  -- what is due, by the person who is found
  abbrev waiting_of : Option Person → Result Waiting Refusal
  waiting_of found = result_map_both
      (waiting cs (listing.due_of owner cs name found) (result_map_both (λ (q : Person). reverse (proposals cs)) (λ (e : Refusal). e) (officer_of (ok_or found refusals.UnknownCaller))))
      (λ (refusal : Refusal). refusal) (ok_or found refusals.UnknownCaller)

  due : (found : Option Person) → listing.IsNamed owner cs name found → waiting_for cs (callers.Person name) ≡ waiting_of found
  due found e = ap waiting_of (found_listed (has_name name) (people cs) found e)

  pub waits_nobody : {B : Type 0} (shows : Waiting → B → Type 0) → listing.IsNamed owner cs name None → IsGiven (waiting_for cs (callers.Person name)) (Err refusals.UnknownCaller) shows
  waits_nobody shows e = subst (λ d. IsGiven d (Err refusals.UnknownCaller) shows) (sym (due None e)) refl

  module _ (p : Person) (e : listing.IsNamed owner cs name (Some p)) {L : Type 0} (holds : L → List ShownRequest → Type 0) (list : L) (given : List ShownProposal) where
    abbrev all : Result (List Whole) Refusal
    all = Ok (reverse (filter (λ (w : Whole). is_shown_to p w) (wholes cs)))

    given_by : (b : Bool) → is_officer p.role ≡ b → GivesWaiting holds cs (waiting cs all (proposals_by b p) p) (answers.Waiting list given)
        → IsGiven (waiting_for cs (callers.Person name)) (Ok (answers.Waiting list given)) (GivesWaiting holds cs)
    given_by b is it =
        subst (λ d. IsGiven d (Ok (answers.Waiting list given)) (GivesWaiting holds cs)) (sym (due (Some p) e))
        (subst (λ c. GivesWaiting holds cs (waiting cs all (proposals_by c p) p) (answers.Waiting list given)) (sym is) it)

    -- for an officer
    pub waits_officer : AreListable (tables owner cs).proposals → is_officer p.role ≡ true
        → numbered.ListsUpTo (Some p.name) (tables owner cs) 0 (length (tables owner cs).proposals) (length (tables owner cs).proposals) given → holds list []
        → IsGiven (waiting_for cs (callers.Person name)) (Ok (answers.Waiting list given)) (GivesWaiting holds cs)
    waits_officer can is it empty =
        let ws = reverse (filter (λ (w : Whole). is_shown_to p w) (wholes cs)) in
        let none : filter (waits_for p) ws ≡ [] =
        none_kept (waits_for p) (λ w. ap (λ b. b && not (has_voted p w)) (officer_waits_for_none p.role is (bytes_eq p.name w.request.submitter) w.state)) ws in
        given_by true is (
          list,
          subst (λ l. HoldsShown holds l list) (sym none) (record { shown = []; are = tt; held = empty }),
          ap (answers.Waiting list) (proposed.waiting_shown owner cs can p (length (tables owner cs).proposals) refl given it),
        )

    -- for everybody else
    pub waits_other : IsHistory cs → is_officer p.role ≡ false
        → ListsUpTo choices.Waiting p (tables owner cs) 0 (length (tables owner cs).requests) (length (tables owner cs).requests) (holds list) → given ≡ []
        → IsGiven (waiting_for cs (callers.Person name)) (Ok (answers.Waiting list given)) (GivesWaiting holds cs)
    waits_other h is it empty =
        given_by false is (list, listing.waiting_shown owner cs p h (length (tables owner cs).requests) refl holds list it, ap (answers.Waiting list) empty)

-- ---- the number that tells of changes

module _ (reader : Person) (t : Tables) where
  pub happened_none : HappenedToFirst reader t 0 0
  happened_none = record { rows = []; numbered = tt; reached = refl; many = refl }

  events-append : (rows more : List RequestRow) → events_of t (rows ++ more) ≡ events_of t rows + events_of t more
  events-append [] more = (let same : events_of t more ≡ 0 + events_of t more = omega arith in same)
  events-append (row ∷ rows) more =
      let rest = events-append rows more in
      omega (arith, rest)

  pub happened_more : (n events more : ℕ) → HappenedToFirst reader t n events → HappenedTo reader t (n + 1) more → HappenedToFirst reader t (n + 1) (events + more)
  happened_more n events more l it =
      let rows = l.rows ++ it.row ∷ [] in
      let long : length rows ≡ length l.rows + 1 = length-append l.rows (it.row ∷ []) in
      let reached = l.reached in
      let place_of : n + 1 ≡ 1 + length l.rows = omega (arith, reached) in
      record {
        rows = rows;
        numbered = place.numbered_more (rows_at t) 1 l.rows it.row l.numbered (subst (λ m. rows_at t m ≡ it.row ∷ []) place_of it.is);
        reached = omega (arith, reached, long);
        many = ap₂ ◌+◌ l.many it.many ∙ sym (events-append (filter (sees_row reader) l.rows) (filter (sees_row reader) (it.row ∷ [])))
            ∙ ap (events_of t) (sym (filter-append (sees_row reader) l.rows (it.row ∷ [])));
      }

  module _ (k n : ℕ) (same : n ≡ k) (found : Option RequestRow) (row : RequestRow) (some : found ≡ Some row) where
    only_row : rows_at t n ≡ listed found → rows_at t k ≡ row ∷ []
    only_row e = subst (λ m. rows_at t m ≡ row ∷ []) same (e ∙ ap listed some)

    pub happened_hidden : sees_row reader row ≡ false → rows_at t n ≡ listed found → HappenedTo reader t k 0
    happened_hidden hidden e = record { row = row; is = only_row e; many = sym (ap (events_of t) (drops (sees_row reader) row [] hidden)) }

    pub happened_shown : sees_row reader row ≡ true → rows_at t n ≡ listed found → (events : ℕ) → events ≡ events_in t row → HappenedTo reader t k events
    happened_shown seen e events is = record {
      row = row;
      is = only_row e;
      many = is ∙ (let none : events_in t row ≡ events_in t row + 0 = omega arith in none) ∙ sym (ap (events_of t) (keeps (sees_row reader) row [] seen));
    }

-- the votes that were read are all on the request
pub events_are : (t : Tables) (row : RequestRow) (votes : List VoteRow) (events : ℕ) → IsPermutation (filter (λ (v : VoteRow). row.number == v.request) t.votes) votes
    → events ≡ 1 + length votes + changes.end_of row.state → events ≡ events_in t row
events_are t row votes events all sum =
    let long : length (filter (λ (v : VoteRow). row.number == v.request) t.votes) ≡ length votes = sym (length_permutation (filter (λ (v : VoteRow). row.number == v.request) t.votes) votes all) in
    omega (arith, long, sum)

module _ (owner : List ℕ) (cs : History) (p : Person) where
  abbrev at : ℕ → List RequestRow
  at k = rows_at (tables owner cs) k

  abbrev is_mine : Request → Bool
  is_mine r = sees p.role (bytes_eq p.name r.submitter)

  each_event : (rs : List Request) → events_of (tables owner cs) (map (row_of cs) rs) ≡ changes.events (map (whole cs) rs)
  each_event [] = refl
  each_event (r ∷ rs) = ap (λ n. events_in (tables owner cs) (row_of cs r) + n) (each_event rs)

  pub events_shown : (last n : ℕ) → last ≡ length (tables owner cs).requests → HappenedToFirst p (tables owner cs) last n
      → n ≡ changes.events (reverse (filter (λ (w : Whole). is_shown_to p w) (wholes cs)))
  events_shown last n count it =
      let oldest = reverse (requests cs) in
      let all : length (map (row_of cs) (requests cs)) ≡ length (requests cs) = length-map (requests cs) (row_of cs) in
      let long : length oldest ≡ last = length-reverse (requests cs) ∙ sym all ∙ sym count in
      let reached = it.reached in
      let rows : it.rows ≡ map (row_of cs) (take (length it.rows) oldest) =
      place.rows_are listing.number (row_of cs) at 1 oldest (listing.oldest_first (submitted cs))
      (all_weaker (listing.IsAlone owner cs p) (place.IsAt listing.number (row_of cs) at) (listing.row_alone owner cs p) oldest (listing.alone owner cs p)) it.rows it.numbered (omega (arith, reached, long)) in
      let whole_list : take (length it.rows) oldest ≡ oldest = take_all (length it.rows) oldest (omega (arith, reached, long)) in
      it.many ∙ ap (λ l. events_of (tables owner cs) (filter (sees_row p) l)) (rows ∙ ap (map (row_of cs)) whole_list)
      ∙ ap (events_of (tables owner cs)) (filter-map (sees_row p) (row_of cs) oldest) ∙ each_event (filter is_mine oldest) ∙ ap changes.events (sym (listing.wholes_are owner cs p))

by_calls : (cs : History) (ws : Result (List Whole) Refusal) (p : Person) (role : Role) → p.role ≡ role → is_submitter role ≡ false → length cs ≡ changes.changes cs ws p
by_calls cs ws p roles.Submitter is h = absurd (true≢false h)
by_calls cs ws p roles.Reviewer is h = rw is refl
by_calls cs ws p roles.Officer is h = rw is refl
by_calls cs ws p roles.Signer is h = rw is refl

by_events : (cs : History) (ws : List Whole) (p : Person) (role : Role) → p.role ≡ role → is_submitter role ≡ true → changes.events ws ≡ changes.changes cs (Ok ws) p
by_events cs ws p roles.Submitter is h = rw is refl
by_events cs ws p roles.Reviewer is h = absurd (true≢false (sym h))
by_events cs ws p roles.Officer is h = absurd (true≢false (sym h))
by_events cs ws p roles.Signer is h = absurd (true≢false (sym h))

module _ (owner : List ℕ) (cs : History) (name : List ℕ) {L : Type 0} (holds : L → List ShownRequest → Type 0) where
  abbrev gives : ℕ → Shown L → Type 0
  gives = GivesChanges holds

  abbrev changes_of : Option Person → Result ℕ Refusal
  changes_of found = result_map_both (changes.changes cs (listing.due_of owner cs name found)) (λ (refusal : Refusal). refusal) (ok_or found refusals.UnknownCaller)

  due_number : (found : Option Person) → listing.IsNamed owner cs name found → changes.changes_for cs (callers.Person name) ≡ changes_of found
  due_number found e = ap changes_of (found_listed (has_name name) (people cs) found e)

  pub changes_nobody : listing.IsNamed owner cs name None → IsGiven (changes.changes_for cs (callers.Person name)) (Err refusals.UnknownCaller) gives
  changes_nobody e = subst (λ d. IsGiven d (Err refusals.UnknownCaller) gives) (sym (due_number None e)) refl

  pub changes_by_calls : (p : Person) → listing.IsNamed owner cs name (Some p) → is_submitter p.role ≡ false → (n : ℕ) → n ≡ length (tables owner cs).calls
      → IsGiven (changes.changes_for cs (callers.Person name)) (Ok (answers.Changes n)) gives
  changes_by_calls p e is n count =
      subst (λ d. IsGiven d (Ok (answers.Changes n)) gives) (sym (due_number (Some p) e))
      (ap answers.Changes (count ∙ minutes_length cs ∙ by_calls cs (Ok (reverse (filter (λ (w : Whole). is_shown_to p w) (wholes cs)))) p p.role refl is))

  pub changes_by_events : (p : Person) → listing.IsNamed owner cs name (Some p) → is_submitter p.role ≡ true → (n : ℕ)
      → HappenedToFirst p (tables owner cs) (length (tables owner cs).requests) n → IsGiven (changes.changes_for cs (callers.Person name)) (Ok (answers.Changes n)) gives
  changes_by_events p e is n it =
      subst (λ d. IsGiven d (Ok (answers.Changes n)) gives) (sym (due_number (Some p) e))
      (ap answers.Changes (events_shown owner cs p (length (tables owner cs).requests) n refl it ∙ by_events cs (reverse (filter (λ (w : Whole). is_shown_to p w) (wholes cs))) p p.role refl is))
