-- Answers to a submitter about requests.
use Rattle.std.proofs.Common.{◌≡◌, ℕ, Bool, true, false, List, [], ◌∷◌, filter, find, Some, None, option_map, Result, Ok, refl, sym, ◌∙◌, ap}
use Rattle.std.specs.Prelude.{bytes_eq, ok_or, reverse}
use Rattle.std.specs.Result.{result_map_both}
use Rattle.base.specs.declared.refusal.Refusal.{Refusal}
use Rattle.base.specs.declared.refusal.Refusal.TheVariants as refusals
use Rattle.desk_types.specs.declared.caller.Caller.TheVariants as callers
use Rattle.desk_types.specs.declared.command.Person.{Person}
use Rattle.desk_types.specs.declared.role.Role.{Role}
use Rattle.desk_types.specs.declared.role.Role.TheVariants as roles
use Rattle.desk_history.specs.Calls.{History}
use Rattle.desk_history.specs.People.{has_name, people, person}
use Rattle.desk_history.specs.Shown.{SubmittersSeeOwn, Whole, found_among, own, role_of, sees, shown_to, wholes}
use Rattle.desk_history.proofs.ListLemmas.{same_text}

-- the item that is found passes the test
pub found_passes : {X : Type 0} (p : X → Bool) (xs : List X) (x : X) → find p xs ≡ Some x → p x ≡ true
found_passes p [] x e = absurd cc
found_passes p (y ∷ xs) x e = elim (p y) as (λ b. p y ≡ b → p x ≡ true) [
  | true ↦ λ q. (let k = rw q at e in let same : y ≡ x = cc in ap p (sym same) ∙ q)
  | false ↦ λ q. found_passes p xs x (rw q at e)
] refl

-- a submitter is shown own requests, and no other
module _ (cs : History) (name : List ℕ) where
  abbrev shown_by : Result Person Refusal → Result (List Whole) Refusal
  shown_by r = result_map_both (λ p. filter (λ w. sees p.role (bytes_eq p.name w.request.submitter)) (wholes cs)) (λ refusal. refusal) r

  submitter : (p : Person) → p.role ≡ roles.Submitter → name ≡ p.name
      → filter (λ (w : Whole). sees p.role (bytes_eq p.name w.request.submitter)) (wholes cs) ≡ own cs name
  submitter p is same =
      ap (λ (r : Role). filter (λ (w : Whole). sees r (bytes_eq p.name w.request.submitter)) (wholes cs)) is
      ∙ ap (λ (n : List ℕ). filter (λ (w : Whole). bytes_eq n w.request.submitter) (wholes cs)) (sym same)

  pub shown_own : role_of cs name ≡ Some roles.Submitter → shown_to cs (callers.Person name) ≡ Ok (own cs name)
  shown_own is = elim (person cs name) as (λ o. person cs name ≡ o → option_map (λ (p : Person). p.role) o ≡ Some roles.Submitter → shown_by (ok_or o refusals.UnknownCaller) ≡ Ok (own cs name)) [
    | Some p ↦ λ found h.
        let role : p.role ≡ roles.Submitter = cc in
        ap Ok (submitter p role (same_text name p.name (found_passes (has_name name) (people cs) p found)))
    | None ↦ λ found h. absurd cc
  ] refl is

pub submitters_see_own : SubmittersSeeOwn
submitters_see_own one other name first second same =
    let alike : shown_to one (callers.Person name) ≡ shown_to other (callers.Person name) = shown_own one name first ∙ ap Ok same ∙ sym (shown_own other name second) in
    record {
      each = λ k. ap (found_among k) alike;
      all = ap (λ r. result_map_both reverse (λ (refusal : Refusal). refusal) r) alike;
    }
