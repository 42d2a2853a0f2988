-- Requests by their numbers: the request of a number stays, and is the one that its readers are
-- shown.
use Rattle.std.proofs.Common.{◌≡◌, ℕ, ◌+◌, ◌<◌, Bool, true, false, List, [], ◌∷◌, ◌++◌, length, map, filter, Option, Some, None, refl, sym, ◌∙◌, ap, arith}
use Rattle.std.specs.Prelude.{◌==◌, if◌then◌else◌, find, is_some, option_map}
use Rattle.std.specs.List.{cons_option}
use Rattle.desk_history.specs.Calls.{History}
use Rattle.desk_history.specs.Requests.{Request, Submitted, has_number, numbered, request, submitted}
use Rattle.desk_history.specs.Shown.{Whole, is_numbered, whole}
use Rattle.desk_history.proofs.ClosingLemmas.{clash}
use Rattle.desk_history.proofs.ListLemmas.{number_above, number_is}

-- no number is above the count
missing : (k : ℕ) (ss : List Submitted) → length ss < k → find (has_number k) (numbered ss) ≡ None
missing k [] h = refl
missing k (s ∷ ss) h = rw (number_above k (length ss + 1) (omega arith)) (missing k ss (omega arith))

abbrev first_of : Submitted → List Submitted → Request
first_of s ss = record { number = length ss + 1; submitter = s.submitter; title = s.submission.title; facts = s.submission.facts }

next_missing : (k : ℕ) (ss : List Submitted) → (k == length ss + 1) ≡ true → find (has_number k) (numbered ss) ≡ None
next_missing k ss e =
    let is : k ≡ length ss + 1 = number_is k (length ss + 1) e in
    let above : length ss < k = omega arith in
    missing k ss above

-- one submission more changes no request that is there
still_there : (k : ℕ) (ss : List Submitted) (o : Option Submitted) → is_some (find (has_number k) (numbered ss)) ≡ true
    → find (has_number k) (numbered (cons_option o ss)) ≡ find (has_number k) (numbered ss)
still_there k ss None some = refl
still_there k ss (Some s) some =
    elim (k == length ss + 1) as (λ b. (k == length ss + 1) ≡ b → (if b then Some (first_of s ss) else find (has_number k) (numbered ss)) ≡ find (has_number k) (numbered ss)) [
      | true ↦ λ e. clash (sym some ∙ ap is_some (next_missing k ss e))
      | false ↦ λ e. refl
    ] refl

pub request_stays : (new cs : History) (k : ℕ) → is_some (request cs k) ≡ true → request (new ++ cs) k ≡ request cs k
request_stays [] cs k some = refl
request_stays (i ∷ new) cs k some =
    let before : request (new ++ cs) k ≡ request cs k = request_stays new cs k some in
    still_there k (submitted (new ++ cs)) _ (ap is_some before ∙ some) ∙ before

-- ---- those that are shown

-- an item, if it passes a test
abbrev pub passing : {X : Type 0} → (X → Bool) → Option X → Option X
passing p None = None
passing p (Some x) = if p x then Some x else None

-- one item more
next_found : {X : Type 0} (p q : X → Bool) (x : X) (xs : List X) (o : Option X) (b c : Bool) → p x ≡ b → q x ≡ c
    → find q (filter p xs) ≡ passing p o → (c ≡ true → o ≡ None) → find q (filter p (x ∷ xs)) ≡ passing p (if c then Some x else o)
next_found p q x xs o true true h k more none = rw (h, k) refl
next_found p q x xs o true false h k more none = rw (h, k) more
next_found p q x xs o false true h k more none = rw h (more ∙ ap (passing p) (none refl))
next_found p q x xs o false false h k more none = rw h more

module _ (cs : History) (p : Whole → Bool) (k : ℕ) where
  mapped : (r : Request) (o : Option Request) (c : Bool)
      → passing p (if c then Some (whole cs r) else option_map (whole cs) o) ≡ passing p (option_map (whole cs) (if c then Some r else o))
  mapped r o true = refl
  mapped r o false = refl

  found : (ss : List Submitted)
      → find (is_numbered k) (filter p (map (whole cs) (numbered ss))) ≡ passing p (option_map (whole cs) (find (has_number k) (numbered ss)))
  found [] = refl
  found (s ∷ ss) =
      let r : Request = first_of s ss in
      next_found p (is_numbered k) (whole cs r) (map (whole cs) (numbered ss)) (option_map (whole cs) (find (has_number k) (numbered ss)))
      (p (whole cs r)) (k == length ss + 1) refl refl (found ss) (λ e. ap (option_map (whole cs)) (next_missing k ss e))
      ∙ mapped r (find (has_number k) (numbered ss)) (k == length ss + 1)

  -- the request of a number among those that pass a test
  pub found_passing : find (is_numbered k) (filter p (map (whole cs) (numbered (submitted cs)))) ≡ passing p (option_map (whole cs) (request cs k))
  found_passing = found (submitted cs)
