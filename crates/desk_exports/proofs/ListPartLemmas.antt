-- Lists in parts, by numbers that ascend.
use Rattle.std.proofs.Common.{◌≡◌, ℕ, zero, suc, ◌+◌, ◌<◌, ◌≤◌, Bool, true, false, not, cond, List, [], ◌∷◌, ◌++◌, map, filter, length, take, Option, Some, None, Result, Ok, Err, refl, sym, ap, subst, ◌∙◌, arith}
use Rattle.std.specs.Prelude.{nat_le, reverse}
use Rattle.std.specs.Result.{result_map_both}
use Rattle.std.proofs.lemmas.Bool.Decides.{nat_tests}
use Rattle.std.proofs.lemmas.List.{reverse-append}
use Rattle.base.specs.declared.refusal.Refusal.{Refusal}
use Rattle.desk_types.specs.declared.command.Call.{Call}
use Rattle.desk_types.specs.declared.command.Person.{Person}
use Rattle.desk_history.specs.Calls.{History}
use Rattle.desk_exports.specs.ListParts.{ComesInParts, ProposalsComeInParts, RequestsComeInParts, most_of_part, number_after, numbered_below, numbered_from, proposal_number, request_number}
use Rattle.desk_history.specs.Proposals.{Named, Proposal, proposals, proposed_by, with_next}
use Rattle.desk_history.specs.Requests.{Request, Submitted, numbered, requests, submitted}
use Rattle.desk_history.specs.Shown.{Whole, is_shown_to, officer, reader, whole, wholes}

-- ---- tests of numbers

at_least : (n m : ℕ) → n ≤ m → nat_le n m ≡ true
at_least n m h = grind (arith, nat_tests)

is_less : (n m : ℕ) → m < n → nat_le n m ≡ false
is_less n m h = grind (arith, nat_tests)

was_least : (n m : ℕ) → nat_le n m ≡ true → n ≤ m
was_least n m h = grind (arith, nat_tests)

was_less : (n m : ℕ) → nat_le n m ≡ false → m < n
was_less n m h = grind (arith, nat_tests)

-- ---- lists

module _ {X : Type 0} where
  keeps : (p : X → Bool) (x : X) (xs : List X) → p x ≡ true → filter p (x ∷ xs) ≡ x ∷ filter p xs
  keeps p x xs h = ap (λ b. cond b (x ∷ filter p xs) (filter p xs)) h

  drops : (p : X → Bool) (x : X) (xs : List X) → p x ≡ false → filter p (x ∷ xs) ≡ filter p xs
  drops p x xs h = ap (λ b. cond b (x ∷ filter p xs) (filter p xs)) h

  take_none : (m : ℕ) → ◌≡◌ {A = List X} (take m []) []
  take_none zero = refl
  take_none (suc m) = refl

  none_taken : (m : ℕ) (xs : List X) → take (suc m) xs ≡ [] → xs ≡ []
  none_taken m [] e = refl
  none_taken m (x ∷ xs) e = absurd cc

module _ {X : Type 0} (number : X → ℕ) where
  -- the numbers ascend from this one on, below the top
  abbrev pub Rise : ℕ → ℕ → List X → Type 0
  Rise low top [] = low ≤ top
  Rise low top (x ∷ xs) = (low ≤ number x) × Rise (number x + 1) top xs

  -- the numbers descend from below the top, to 1 at the least
  abbrev pub Fall : ℕ → List X → Type 0
  Fall top [] = 1 ≤ top
  Fall top (x ∷ xs) = (number x < top) × Fall (number x) xs

  higher : (low top more : ℕ) (xs : List X) → top ≤ more → Rise low top xs → Rise low more xs
  higher low top more [] h up = omega (arith, h, up)
  higher low top more (x ∷ xs) h up = (up.0, higher (number x + 1) top more xs h up.1)

  rise_more : (low top : ℕ) (xs : List X) (x : X) → Rise low top xs → top ≤ number x → Rise low (number x + 1) (xs ++ x ∷ [])
  rise_more low top [] x up h = (omega (arith, h, up), omega arith)
  rise_more low top (y ∷ xs) x up h = (up.0, rise_more (number y + 1) top xs x up.1 h)

  turned : (top : ℕ) (xs : List X) → Fall top xs → Rise 1 top (reverse xs)
  turned top [] down = down
  turned top (x ∷ xs) down =
      let all : Rise 1 (number x + 1) (reverse xs ++ x ∷ []) = rise_more 1 (number x) (reverse xs) x (turned (number x) xs down.1) (omega arith) in
      subst (Rise 1 top) (sym (reverse-append (x ∷ []) xs)) (higher 1 (number x + 1) top (reverse xs ++ x ∷ []) (omega (arith, down.0)) all)

  fall_less : (top more : ℕ) (xs : List X) → top ≤ more → Fall top xs → Fall more xs
  fall_less top more [] h down = omega (arith, h, down)
  fall_less top more (x ∷ xs) h down = (omega (arith, h, down.0), down.1)

  kept_next : (p : X → Bool) (top : ℕ) (x : X) (xs : List X) → number x < top → Fall (number x) (filter p xs) → (b : Bool) → p x ≡ b → Fall top (filter p (x ∷ xs))
  kept_next p top x xs low rest true h = subst (Fall top) (sym (keeps p x xs h)) (low, rest)
  kept_next p top x xs low rest false h = subst (Fall top) (sym (drops p x xs h)) (fall_less (number x) top (filter p xs) (omega (arith, low)) rest)

  fall_kept : (p : X → Bool) (top : ℕ) (xs : List X) → Fall top xs → Fall top (filter p xs)
  fall_kept p top [] down = down
  fall_kept p top (x ∷ xs) down = kept_next p top x xs down.0 (fall_kept p (number x) xs down.1) (p x) refl

  none_below : (n low top : ℕ) (xs : List X) → n ≤ low → Rise low top xs → numbered_below number n xs ≡ []
  none_below n low top [] h up = refl
  none_below n low top (x ∷ xs) h up =
      drops (λ y. not (nat_le n (number y))) x xs (ap not (at_least n (number x) (omega (arith, h, up.0))))
      ∙ none_below n (number x + 1) top xs (omega (arith, h, up.0)) up.1

  all_from : (n low top : ℕ) (xs : List X) → n ≤ low → Rise low top xs → numbered_from number n xs ≡ xs
  all_from n low top [] h up = refl
  all_from n low top (x ∷ xs) h up =
      keeps (λ y. nat_le n (number y)) x xs (at_least n (number x) (omega (arith, h, up.0)))
      ∙ ap (λ l. x ∷ l) (all_from n (number x + 1) top xs (omega (arith, h, up.0)) up.1)

  after_next : (k n m : ℕ) (x : X) (xs : List X) → (k ≤ number x + 1 → k ≤ number_after number (number x + 1) (take m (numbered_from number k xs)))
      → k ≤ number_after number n (take (suc m) (numbered_from number k xs)) → (b : Bool) → nat_le k (number x) ≡ b → k ≤ number_after number n (take (suc m) (numbered_from number k (x ∷ xs)))
  after_next k n m x xs more rest true e =
      let low : k ≤ number x + 1 = (let was = was_least k (number x) e in omega (arith, was)) in
      subst (λ l. k ≤ number_after number n (take (suc m) l)) (sym (keeps (λ y. nat_le k (number y)) x xs e)) (more low)
  after_next k n m x xs more rest false e = subst (λ l. k ≤ number_after number n (take (suc m) l)) (sym (drops (λ y. nat_le k (number y)) x xs e)) rest

  -- a part ends no lower than it begins
  after_from : (k n m : ℕ) (xs : List X) → k ≤ n → k ≤ number_after number n (take m (numbered_from number k xs))
  after_from k n zero xs h = h
  after_from k n (suc m) [] h = h
  after_from k n (suc m) (x ∷ xs) h = after_next k n m x xs (after_from k (number x + 1) m xs) (after_from k n (suc m) xs h) (nat_le k (number x)) refl

  -- the numbers of these and the items before them, where all are at least n
  joined_here : (n m top : ℕ) (x : X) (xs : List X) → n ≤ number x → Rise (number x + 1) top xs
      → take m xs ≡ numbered_below number (number_after number (number x + 1) (take m xs)) xs
      → take (suc m) (x ∷ xs) ≡ numbered_below number (number_after number n (take (suc m) (x ∷ xs))) (x ∷ xs)
  joined_here n m top x xs low up more =
      let next = number_after number (number x + 1) (take m xs) in
      let above : number x + 1 ≤ next =
      subst (λ l. number x + 1 ≤ number_after number (number x + 1) (take m l)) (all_from (number x + 1) (number x + 1) top xs (omega arith) up) (after_from (number x + 1) (number x + 1) m xs (omega arith)) in
      ap (λ l. x ∷ l) more ∙ sym (keeps (λ y. not (nat_le next (number y))) x xs (ap not (is_less next (number x) (omega (arith, above)))))

  abbrev Joined : ℕ → ℕ → List X → Type 0
  Joined n m xs = numbered_below number n xs ++ take m (numbered_from number n xs) ≡ numbered_below number (number_after number n (take m (numbered_from number n xs))) xs

  joined_next : (n m top : ℕ) (x : X) (xs : List X) → Rise (number x + 1) top xs → ((j k : ℕ) → Joined j k xs) → Joined n m (x ∷ xs)
  joined_next n m top x xs up more = by (nat_le n (number x)) refl
    where
      within : n ≤ number x → (k : ℕ) → take k (x ∷ xs) ≡ numbered_below number (number_after number n (take k (x ∷ xs))) (x ∷ xs)
      within h zero = sym (none_below n (number x) top (x ∷ xs) h (omega arith, up))
      within h (suc k) =
          let next = number x + 1 in
          let rest : numbered_from number next xs ≡ xs = all_from next next top xs (omega arith) up in
          let before : numbered_below number next xs ≡ [] = none_below next next top xs (omega arith) up in
          joined_here n k top x xs h up
          (subst (λ l. take k l ≡ numbered_below number (number_after number next (take k l)) xs) rest
          (ap (λ l. l ++ take k (numbered_from number next xs)) (sym before) ∙ more next k))

      by : (b : Bool) → nat_le n (number x) ≡ b → Joined n m (x ∷ xs)
      by true e =
          let low = was_least n (number x) e in
          let all : numbered_from number n (x ∷ xs) ≡ x ∷ xs = all_from n (number x) top (x ∷ xs) low (omega arith, up) in
          let before : numbered_below number n (x ∷ xs) ≡ [] = none_below n (number x) top (x ∷ xs) low (omega arith, up) in
          ap (λ l. l ++ take m (numbered_from number n (x ∷ xs))) before
          ∙ subst (λ l. take m l ≡ numbered_below number (number_after number n (take m l)) (x ∷ xs)) (sym all) (within low m)
      by false e =
          let here = was_less n (number x) e in
          let part = take m (numbered_from number n xs) in
          let next = number_after number n part in
          let above : n ≤ next = after_from n n m xs (omega arith) in
          let from : numbered_from number n (x ∷ xs) ≡ numbered_from number n xs = drops (λ y. nat_le n (number y)) x xs e in
          ap (λ l. l ++ take m (numbered_from number n (x ∷ xs))) (keeps (λ y. not (nat_le n (number y))) x xs (ap not e))
          ∙ ap (λ l. x ∷ (numbered_below number n xs ++ take m l)) from
          ∙ ap (λ l. x ∷ l) (more n m)
          ∙ sym (keeps (λ y. not (nat_le next (number y))) x xs (ap not (is_less next (number x) (omega (arith, here, above)))))
          ∙ ap (λ l. numbered_below number (number_after number n (take m l)) (x ∷ xs)) (sym from)

  joined : (n m low top : ℕ) (xs : List X) → Rise low top xs → Joined n m xs
  joined n m low top [] up = take_none m
  joined n m low top (x ∷ xs) up = joined_next n m top x xs up.1 (λ j k. joined j k (number x + 1) top xs up.1)

  none_next : (n : ℕ) (x : X) (xs : List X) → numbered_from number n (x ∷ xs) ≡ [] → (numbered_from number n xs ≡ [] → numbered_below number n xs ≡ xs)
      → (b : Bool) → nat_le n (number x) ≡ b → numbered_below number n (x ∷ xs) ≡ x ∷ xs
  none_next n x xs e rest true h = absurd (let full : x ∷ numbered_from number n xs ≡ [] = sym (keeps (λ y. nat_le n (number y)) x xs h) ∙ e in cc)
  none_next n x xs e rest false h =
      keeps (λ y. not (nat_le n (number y))) x xs (ap not h) ∙ ap (λ l. x ∷ l) (rest (sym (drops (λ y. nat_le n (number y)) x xs h) ∙ e))

  none_from : (n : ℕ) (xs : List X) → numbered_from number n xs ≡ [] → numbered_below number n xs ≡ xs
  none_from n [] e = refl
  none_from n (x ∷ xs) e = none_next n x xs e (none_from n xs) (nat_le n (number x)) refl

  come_in_parts : (top : ℕ) (xs : List X) → Rise 1 top xs → ComesInParts number xs
  come_in_parts top xs up = record {
    begins = none_below 1 1 top xs (omega arith) up;
    joined = λ n. joined n most_of_part 1 top xs up;
    ends = λ n e. none_from n xs (none_taken 999 (numbered_from number n xs) e);
  }

ok_same : {X : Type 0} (x y : X) → ◌≡◌ {A = Result X Refusal} (Ok x) (Ok y) → x ≡ y
ok_same x y e = cc

err_ok : {X A : Type 0} (refusal : Refusal) (x : X) → ◌≡◌ {A = Result X Refusal} (Err refusal) (Ok x) → A
err_ok refusal x e = absurd cc

-- ---- requests

fall_numbered : (ss : List Submitted) → Fall (λ (r : Request). r.number) (length ss + 1) (numbered ss)
fall_numbered [] = omega arith
fall_numbered (s ∷ ss) = (omega arith, fall_numbered ss)

fall_wholes : (cs : History) (top : ℕ) (rs : List Request) → Fall (λ (r : Request). r.number) top rs → Fall request_number top (map (whole cs) rs)
fall_wholes cs top [] down = down
fall_wholes cs top (r ∷ rs) down = (down.0, fall_wholes cs r.number rs down.1)

-- the numbers of the requests that a person is shown ascend
pub shown_rise : (cs : History) (p : Person) → Rise request_number 1 (length (submitted cs) + 1) (reverse (filter (λ w. is_shown_to p w) (wholes cs)))
shown_rise cs p =
    let top = length (submitted cs) + 1 in
    turned request_number top (filter (λ w. is_shown_to p w) (wholes cs))
    (fall_kept request_number (λ w. is_shown_to p w) top (wholes cs) (fall_wholes cs top (requests cs) (fall_numbered (submitted cs))))

requests_in_parts : (cs : History) (r : Result Person Refusal) (ws : List Whole)
    → result_map_both reverse (λ (refusal : Refusal). refusal) (result_map_both (λ p. filter (λ w. is_shown_to p w) (wholes cs)) (λ (refusal : Refusal). refusal) r) ≡ Ok ws
    → ComesInParts request_number ws
requests_in_parts cs (Ok p) ws e =
    let list = reverse (filter (λ w. is_shown_to p w) (wholes cs)) in
    subst (ComesInParts request_number) (ok_same list ws e) (come_in_parts request_number (length (submitted cs) + 1) list (shown_rise cs p))
requests_in_parts cs (Err refusal) ws e = err_ok refusal ws e

pub requests_come_in_parts : RequestsComeInParts
requests_come_in_parts cs c ws e = requests_in_parts cs (reader cs c) ws e

-- ---- proposals

fall_next : (ps : List Proposal) (c : Call) (named : Option Named) → Fall proposal_number (length ps + 1) ps → Fall proposal_number (length (with_next ps c named) + 1) (with_next ps c named)
fall_next ps c None down = down
fall_next ps c (Some named) down = (omega arith, down)

fall_proposals : (cs : History) → Fall proposal_number (length (proposals cs) + 1) (proposals cs)
fall_proposals [] = omega arith
fall_proposals (i ∷ cs) = fall_next (proposals cs) i.call (proposed_by i) (fall_proposals cs)

proposals_in_parts : (cs : History) (r : Result Person Refusal) (ps : List Proposal) → result_map_both (λ p. reverse (proposals cs)) (λ (refusal : Refusal). refusal) r ≡ Ok ps
    → ComesInParts proposal_number ps
proposals_in_parts cs (Ok p) ps e =
    let list = reverse (proposals cs) in
    let top = length (proposals cs) + 1 in
    subst (ComesInParts proposal_number) (ok_same list ps e) (come_in_parts proposal_number top list (turned proposal_number top (proposals cs) (fall_proposals cs)))
proposals_in_parts cs (Err refusal) ps e = err_ok refusal ps e

pub proposals_come_in_parts : ProposalsComeInParts
proposals_come_in_parts cs c ps e = proposals_in_parts cs (officer (reader cs c)) ps e
