-- What waits for a submitter, and the number that tells the submitter of changes, depend only on the
-- requests that the submitter is shown.
use Rattle.std.proofs.Common.{◌≡◌, ◌∙◌, ℕ, List, [], filter, Option, Some, None, option_map, Result, Ok, Err, refl, sym, ap, subst}
use Rattle.std.specs.Prelude.{if◌then◌else◌, ◌&&◌, not, bytes_eq, ok_or, reverse}
use Rattle.std.specs.List.{list_any}
use Rattle.std.specs.Result.{result_map_both}
use Rattle.base.specs.declared.refusal.Refusal.{Refusal}
use Rattle.base.specs.declared.refusal.Refusal.TheVariants as refusals
use Rattle.desk_types.specs.declared.caller.Caller.TheVariants as callers
use Rattle.desk_types.specs.declared.command.Person.{Person}
use Rattle.desk_types.specs.declared.role.Role.{Role}
use Rattle.desk_types.specs.declared.role.Role.TheVariants as roles
use Rattle.desk_types.specs.declared.shown.ShownRequest.{ShownRequest}
use Rattle.desk_history.specs.Calls.{History}
use Rattle.desk_exports.specs.Changes.{changes, changes_for, events}
use Rattle.desk_history.specs.People.{has_name, people, person}
use Rattle.desk_history.specs.Proposals.{proposals}
use Rattle.desk_history.specs.Requests.{is_vote_of}
use Rattle.desk_history.specs.Roles.{is_officer}
use Rattle.desk_history.specs.Shown.{IsGiven, Whole, officer, requests_for, role_of}
use Rattle.desk_exports.specs.Waiting.{Waiting, awaits, may_wait, or_nothing, waiting, waiting_for}
use Rattle.desk_history.proofs.ListLemmas.{same_text}
use Rattle.desk_history.proofs.ShownLemmas.{found_passes}
use Rattle.desk_exports.specs.Readings.{GivesWaiting}
use Rattle.desk_exports.specs.declared.shown.Shown.{Shown}
use Rattle.http_calls.specs.Desks.{is_text_of}

-- this is given, and nothing refused
abbrev given : {X : Type 0} → X → Result X Refusal
given x = Ok x

-- of the requests that a submitter is shown, those that wait
abbrev own_waiting : List ℕ → Result (List Whole) Refusal → Waiting
own_waiting name ws = record {
  requests = filter (λ (w : Whole). may_wait roles.Submitter (bytes_eq name w.request.submitter) w.state && not (list_any (is_vote_of name) w.votes)) (or_nothing ws);
  proposals = [];
}

module _ (cs : History) (name : List ℕ) (ws : Result (List Whole) Refusal) where
  -- what waits for a person of this role and name
  abbrev by_role : Person → Role → List ℕ → Waiting
  by_role p r n = record {
    requests = filter (λ (w : Whole). may_wait r (bytes_eq n w.request.submitter) w.state && not (list_any (is_vote_of n) w.votes)) (or_nothing ws);
    proposals = filter (awaits cs p) (or_nothing (result_map_both (λ (q : Person). reverse (proposals cs)) (λ (x : Refusal). x) (if is_officer r then Ok p else Err refusals.NotYourRole)));
  }

  abbrev waiting_by : Result Person Refusal → Result Waiting Refusal
  waiting_by r = result_map_both (waiting cs ws (result_map_both (λ (q : Person). reverse (proposals cs)) (λ (x : Refusal). x) (officer r))) (λ (x : Refusal). x) r

  waiting_of : (p : Person) → p.role ≡ roles.Submitter → name ≡ p.name → waiting_by (Ok p) ≡ Ok (own_waiting name ws)
  waiting_of p role same =
      ap (λ (r : Role). given (by_role p r p.name)) role
      ∙ ap (λ (n : List ℕ). given (by_role p roles.Submitter n)) (sym same)

  abbrev changes_by : Result Person Refusal → Result ℕ Refusal
  changes_by r = result_map_both (changes cs ws) (λ (x : Refusal). x) r

  changes_of : (p : Person) → p.role ≡ roles.Submitter → changes_by (Ok p) ≡ Ok (events (or_nothing ws))
  changes_of p role = rw role refl

  -- what is so of the submitter of this name is so of the caller
  of_submitter : {X : Type 0} (by : Result Person Refusal → Result X Refusal) (x : X) → role_of cs name ≡ Some roles.Submitter
      → ((p : Person) → p.role ≡ roles.Submitter → name ≡ p.name → by (Ok p) ≡ Ok x) → by (ok_or (person cs name) refusals.UnknownCaller) ≡ Ok x
  of_submitter by x is each = elim (person cs name) as (λ o. person cs name ≡ o → option_map (λ (p : Person). p.role) o ≡ Some roles.Submitter → by (ok_or o refusals.UnknownCaller) ≡ Ok x) [
    | Some p ↦ λ found h.
        let role : p.role ≡ roles.Submitter = cc in
        each p role (same_text name p.name (found_passes (has_name name) (people cs) p found))
    | None ↦ λ found h. absurd cc
  ] refl is

-- what waits for a submitter
waiting_own : (cs : History) (name : List ℕ) → role_of cs name ≡ Some roles.Submitter
    → waiting_for cs (callers.Person name) ≡ Ok (own_waiting name (requests_for cs (callers.Person name)))
waiting_own cs name is =
    let ws = requests_for cs (callers.Person name) in
    of_submitter cs name ws (waiting_by cs name ws) (own_waiting name ws) is (waiting_of cs name ws)

-- the number that tells a submitter of changes
changes_own : (cs : History) (name : List ℕ) → role_of cs name ≡ Some roles.Submitter
    → changes_for cs (callers.Person name) ≡ Ok (events (or_nothing (requests_for cs (callers.Person name))))
changes_own cs name is =
    let ws = requests_for cs (callers.Person name) in
    of_submitter cs name ws (changes_by cs name ws) (events (or_nothing ws)) is (λ p role same. changes_of cs name ws p role)

module _ (one other : History) (name : List ℕ) (first : role_of one name ≡ Some roles.Submitter) (second : role_of other name ≡ Some roles.Submitter)
    (same : requests_for one (callers.Person name) ≡ requests_for other (callers.Person name)) where
  -- without a proposal what waits is shown alike
  shown_alike : (ws : Result (List Whole) Refusal) (shown : Result (Shown (List ShownRequest)) Refusal)
      → IsGiven (Ok (own_waiting name ws)) shown (GivesWaiting is_text_of one) → IsGiven (Ok (own_waiting name ws)) shown (GivesWaiting is_text_of other)
  shown_alike ws (Ok s) h = h
  shown_alike ws (Err refusal) h = absurd h

  pub waiting_alike : (shown : Result (Shown (List ShownRequest)) Refusal)
      → IsGiven (waiting_for one (callers.Person name)) shown (GivesWaiting is_text_of one) → IsGiven (waiting_for other (callers.Person name)) shown (GivesWaiting is_text_of other)
  waiting_alike shown h =
      let here = waiting_own one name first ∙ ap (λ r. given (own_waiting name r)) same in
      subst (λ r. IsGiven r shown (GivesWaiting is_text_of other)) (sym (waiting_own other name second))
      (shown_alike (requests_for other (callers.Person name)) shown (subst (λ r. IsGiven r shown (GivesWaiting is_text_of one)) here h))

  pub changes_alike : changes_for one (callers.Person name) ≡ changes_for other (callers.Person name)
  changes_alike = changes_own one name first ∙ ap (λ r. given (events (or_nothing r))) same ∙ sym (changes_own other name second)
