-- The answers to a person who asks for requests: all, those from a number on, and those that wait.
use Rattle.std.proofs.Common.{◌≡◌, ◌⊎◌, inl, inr, ℕ, suc, ◌+◌, ◌-◌, ◌<◌, ◌≤◌, ◌==◌, ◌&&◌, ◌||◌, Bool, true, false, not, cond, List, [], ◌∷◌, ◌++◌, map, filter, length, take, drop, min, Option, Some, None, option_map, Result, Ok, Err, refl, sym, ap, ap₂, subst, ◌∙◌, arith, true≢false}
use Rattle.std.specs.Prelude.{bytes_eq, nat_le, ok_or, reverse}
use Rattle.std.specs.List.{AllByRecursion, AllZip, list_any}
use Rattle.std.specs.Result.{result_map_both}
use Rattle.std.proofs.lemmas.List.{length-drop, length-map, length-reverse, map-append, reverse-append, take-append-drop, take_all}
use Rattle.std.proofs.lemmas.List.Elements.{filter-append}
use Rattle.std.proofs.lemmas.List.Sorted.{IsPermutation-reverse, list_any-IsPermutation}
use Rattle.std.proofs.Math.ListN.{drop_of_length-le}
use Rattle.sqlite_trees.specs.Tree.{IsAscending}
use Rattle.sqlite_trees.proofs.ListLemmas.{all-filter, all-permutation, all_of, all_weaker, filter-map, filter_all}
use Rattle.base.specs.declared.refusal.Refusal.{Refusal}
use Rattle.base.specs.declared.refusal.Refusal.TheVariants as refusals
use Rattle.desk_types.specs.declared.caller.Caller.TheVariants as callers
use Rattle.desk_types.specs.declared.command.Person.{Person}
use Rattle.desk_types.specs.declared.role.Role.{Role}
use Rattle.desk_types.specs.declared.role.Role.TheVariants as roles
use Rattle.desk_types.specs.declared.shown.ShownRequest.{ShownRequest}
use Rattle.desk_types.specs.declared.shown.ShownVote.{ShownVote}
use Rattle.desk_types.specs.declared.state.State.{State}
use Rattle.desk_history.specs.Calls.{History}
use Rattle.desk_history.specs.Formed.{IsHistory}
use Rattle.desk_exports.specs.DigestSearch as search
use Rattle.desk_exports.specs.ListParts.{most_of_part, part_from, request_number, requests_from}
use Rattle.desk_history.specs.People.{has_name, people}
use Rattle.desk_history.specs.Requests.{Request, Returned, Submitted, numbered, requests, state, submitted}
use Rattle.desk_history.specs.Shown.{IsGiven, IsShown, Whole, is_shown_to, requests_for, sees, shown_return, shown_vote, whole, wholes}
use Rattle.desk_history.specs.Tables.{tables}
use Rattle.desk_exports.specs.Waiting as waiting
use Rattle.desk_history.specs.declared.rows.RequestRow.{RequestRow}
use Rattle.store_reads.specs.Reads.{listed}
use Rattle.store_proposals.proofs.PlaceLemmas as place
use Rattle.desk_exports.specs.Readings.{GivesRequests, HoldsShown}
use Rattle.desk_exports.specs.declared.shown.Shown.TheVariants as answers
use Rattle.store_shown.specs.Choosing.{ListsUpTo, has_digest, has_voted, is_of_return, keeps_shown, picks_row}
use Rattle.store_shown.specs.Steps.{IsShownIn, rows_at}
use Rattle.store_shown.specs.declared.choice.Choice.{Choice}
use Rattle.store_shown.specs.declared.choice.Choice.TheVariants as choices
use Rattle.store_shown.proofs.ItemLemmas.{drops, found_listed, keeps, swapped}
use Rattle.store_shown.proofs.MadeLemmas.{is_shown, row_of}
use Rattle.store_shown.proofs.OrderLemmas.{IsOnly, all_only, filter-reverse, map-reverse}

-- ---- numbers of requests

lower : (n : ℕ) (ss : List Submitted) → length ss < n → AllByRecursion (λ (r : Request). r.number < n) (numbered ss)
lower n [] h = tt
lower n (s ∷ ss) h = (omega (arith, h), lower n ss (omega (arith, h)))

newest_first : (ss : List Submitted) → IsAscending (λ (a b : Request). b.number < a.number) (numbered ss)
newest_first [] = tt
newest_first (s ∷ ss) = (lower (length ss + 1) ss (omega arith), newest_first ss)

abbrev pub number : Request → ℕ
number r = r.number

length-numbered : (ss : List Submitted) → length (numbered ss) ≡ length ss
length-numbered [] = refl
length-numbered (s ∷ ss) = ap suc (length-numbered ss)

pub oldest_first : (ss : List Submitted) → place.HaveNumbers number 1 (reverse (numbered ss))
oldest_first [] = tt
oldest_first (s ∷ ss) =
    let r : Request = record { number = length ss + 1; submitter = s.submitter; title = s.submission.title; facts = s.submission.facts } in
    let long = length-reverse (numbered ss) in
    let all = length-numbered ss in
    subst (place.HaveNumbers number 1) (sym (reverse-append (r ∷ []) (numbered ss))) (place.next_number number 1 (reverse (numbered ss)) r (oldest_first ss) (omega arith))

-- ---- lists

any_map : {X Y : Type 0} (f : X → Y) (p : Y → Bool) (xs : List X) → list_any p (map f xs) ≡ list_any (λ x. p (f x)) xs
any_map f p [] = refl
any_map f p (x ∷ xs) = ap (λ b. p (f x) || b) (any_map f p xs)

both_next : {X : Type 0} (a b : X → Bool) (x : X) (xs : List X) → filter (λ y. a y && b y) xs ≡ filter b (filter a xs) → (p q : Bool) → a x ≡ p → b x ≡ q
    → filter (λ y. a y && b y) (x ∷ xs) ≡ filter b (filter a (x ∷ xs))
both_next a b x xs more true true h k =
    keeps (λ y. a y && b y) x xs (ap₂ ◌&&◌ h k) ∙ ap (λ l. x ∷ l) more ∙ sym (ap (filter b) (keeps a x xs h) ∙ keeps b x (filter a xs) k)
both_next a b x xs more true false h k =
    drops (λ y. a y && b y) x xs (ap₂ ◌&&◌ h k) ∙ more ∙ sym (ap (filter b) (keeps a x xs h) ∙ drops b x (filter a xs) k)
both_next a b x xs more false q h k = drops (λ y. a y && b y) x xs (ap (λ c. c && b x) h) ∙ more ∙ sym (ap (filter b) (drops a x xs h))

-- two tests are one after the other
pub filter_both : {X : Type 0} (a b : X → Bool) (xs : List X) → filter (λ y. a y && b y) xs ≡ filter b (filter a xs)
filter_both a b [] = refl
filter_both a b (x ∷ xs) = both_next a b x xs (filter_both a b xs) (a x) (b x) refl refl

pub within_next : {X : Type 0} (p q : X → Bool) (x : X) (xs : List X) → (p x ≡ true → q x ≡ true) → filter p (filter q xs) ≡ filter p xs → (a b : Bool) → p x ≡ a → q x ≡ b
    → filter p (filter q (x ∷ xs)) ≡ filter p (x ∷ xs)
within_next p q x xs wider more true true h k = ap (filter p) (keeps q x xs k) ∙ keeps p x (filter q xs) h ∙ ap (λ l. x ∷ l) more ∙ sym (keeps p x xs h)
within_next p q x xs wider more true false h k = absurd (true≢false (sym (wider h) ∙ k))
within_next p q x xs wider more false true h k = ap (filter p) (keeps q x xs k) ∙ drops p x (filter q xs) h ∙ more ∙ sym (drops p x xs h)
within_next p q x xs wider more false false h k = ap (filter p) (drops q x xs k) ∙ more ∙ sym (drops p x xs h)

-- a wider test before another one drops nothing more
filter_within : {X : Type 0} (p q : X → Bool) → ((x : X) → p x ≡ true → q x ≡ true) → (xs : List X) → filter p (filter q xs) ≡ filter p xs
filter_within p q wider [] = refl
filter_within p q wider (x ∷ xs) = within_next p q x xs (wider x) (filter_within p q wider xs) (p x) (q x) refl refl

fewer_next : {X : Type 0} (p : X → Bool) (x : X) (xs : List X) → length (filter p xs) ≤ length xs → (b : Bool) → length (cond b (x ∷ filter p xs) (filter p xs)) ≤ length (x ∷ xs)
fewer_next p x xs h true = omega (arith, h)
fewer_next p x xs h false = omega (arith, h)

pub fewer : {X : Type 0} (p : X → Bool) (xs : List X) → length (filter p xs) ≤ length xs
fewer p [] = omega arith
fewer p (x ∷ xs) = fewer_next p x xs (fewer p xs) (p x)

pub zip_length : {A B : Type 0} (P : A → B → Type 0) (xs : List A) (ys : List B) → AllZip P xs ys → length xs ≡ length ys
zip_length P [] [] z = refl
zip_length P [] (y ∷ ys) z = absurd z
zip_length P (x ∷ xs) [] z = absurd z
zip_length P (x ∷ xs) (y ∷ ys) z = ap suc (zip_length P xs ys z.1)

module _ {A B : Type 0} (P : A → B → Type 0) (p : A → Bool) (q : B → Bool) (same : (x : A) (y : B) → P x y → q y ≡ p x) where
  zip_next : (x : A) (xs : List A) (y : B) (ys : List B) → P x y → AllZip P (filter p xs) (filter q ys) → (b : Bool) → p x ≡ b → AllZip P (filter p (x ∷ xs)) (filter q (y ∷ ys))
  zip_next x xs y ys h more true is =
      subst (λ l. AllZip P l (filter q (y ∷ ys))) (sym (keeps p x xs is)) (subst (AllZip P (x ∷ filter p xs)) (sym (keeps q y ys (same x y h ∙ is))) (h, more))
  zip_next x xs y ys h more false is =
      subst (λ l. AllZip P l (filter q (y ∷ ys))) (sym (drops p x xs is)) (subst (AllZip P (filter p xs)) (sym (drops q y ys (same x y h ∙ is))) more)

  -- a relation of two lists holds of what passes tests that agree
  pub zip_filter : (xs : List A) (ys : List B) → AllZip P xs ys → AllZip P (filter p xs) (filter q ys)
  zip_filter [] [] z = tt
  zip_filter [] (y ∷ ys) z = absurd z
  zip_filter (x ∷ xs) [] z = absurd z
  zip_filter (x ∷ xs) (y ∷ ys) z = zip_next x xs y ys z.0 (zip_filter xs ys z.1) (p x) refl

-- ---- what is kept

-- the request is listed, if its row may be
abbrev pub keeps_whole : Choice → Person → Whole → Bool
keeps_whole choices.Shown p w = true
keeps_whole choices.Waiting p w = not (waiting.has_voted p w)
keeps_whole (choices.With d) p w = search.has_digest d w

votes_alike : (p : Person) (w : Whole) (s : ShownRequest) → IsShown w s → has_voted p s.votes ≡ waiting.has_voted p w
votes_alike p w s h =
    sym (list_any-IsPermutation (λ (v : ShownVote). bytes_eq p.name v.reviewer) (map shown_vote w.votes) s.votes h.votes) ∙ any_map shown_vote (λ (v : ShownVote). bytes_eq p.name v.reviewer) w.votes

return_alike : (d : List ℕ) (o : Option Returned) → is_of_return d (option_map shown_return o) ≡ search.is_of_returned d o
return_alike d None = refl
return_alike d (Some r) = refl

digests_alike : (d : List ℕ) (w : Whole) (s : ShownRequest) → IsShown w s → has_digest d s ≡ search.has_digest d w
digests_alike d w s h = ap₂ ◌||◌ (ap (search.is_of_facts d) h.facts) (ap (is_of_return d) h.returned ∙ return_alike d w.returned)

pub kept_alike : (choice : Choice) (p : Person) (w : Whole) (s : ShownRequest) → IsShown w s → keeps_shown choice p s ≡ keeps_whole choice p w
kept_alike choices.Shown p w s h = refl
kept_alike choices.Waiting p w s h = ap not (votes_alike p w s h)
kept_alike (choices.With d) p w s h = digests_alike d w s h

-- ---- rows, and the requests shown of them

module _ (owner : List ℕ) (cs : History) (p : Person) where
  abbrev pub oldest : List Request
  oldest = reverse (requests cs)

  abbrev pub is_mine : Request → Bool
  is_mine r = sees p.role (bytes_eq p.name r.submitter)

  -- the request is the only one of its number
  abbrev pub IsAlone : Request → Type 0
  IsAlone r = IsOnly number (requests cs) r

  abbrev pub at : ℕ → List RequestRow
  at k = rows_at (tables owner cs) k

  pub alone : AllByRecursion IsAlone oldest
  alone = all-permutation IsAlone (requests cs) oldest (IsPermutation-reverse (requests cs)) (all_only number (requests cs) (newest_first (submitted cs)))

  pub row_alone : (r : Request) → IsAlone r → place.IsAt number (row_of cs) at r
  row_alone r only = filter-map (λ (x : RequestRow). r.number == x.number) (row_of cs) (requests cs) ∙ ap (map (row_of cs)) only

  pub each_shown : IsHistory cs → (rs : List Request) → AllByRecursion IsAlone rs → (given : List ShownRequest) → AllZip (IsShownIn (tables owner cs)) (map (row_of cs) rs) given
      → AllZip IsShown (map (whole cs) rs) given
  each_shown h [] only [] z = tt
  each_shown h [] only (s ∷ given) z = absurd z
  each_shown h (r ∷ rs) only [] z = absurd z
  each_shown h (r ∷ rs) only (s ∷ given) z = (is_shown owner cs h r only.0 s z.0, each_shown h rs only.1 given z.1)

  module _ (choice : Choice) where
    abbrev picked : Request → Bool
    picked r = picks_row choice p (row_of cs r)

    -- of these requests, those that are chosen
    abbrev chosen : List Request → List Whole
    chosen rs = filter (keeps_whole choice p) (map (whole cs) (filter picked rs))

    chosen-append : (rs more : List Request) → chosen (rs ++ more) ≡ chosen rs ++ chosen more
    chosen-append rs more =
        ap (λ l. filter (keeps_whole choice p) (map (whole cs) l)) (filter-append picked rs more)
        ∙ ap (filter (keeps_whole choice p)) (map-append (whole cs) (filter picked rs) (filter picked more))
        ∙ filter-append (keeps_whole choice p) (map (whole cs) (filter picked rs)) (map (whole cs) (filter picked more))

    -- the list holds the first of those that are chosen after the first k
    held_are : IsHistory cs → (k last most : ℕ) → last ≡ length (tables owner cs).requests → {L : Type 0} (holds : L → List ShownRequest → Type 0) (list : L)
        → ListsUpTo choice p (tables owner cs) k last most (holds list) → HoldsShown holds (take most (chosen (drop k oldest))) list
    held_are h k last most count holds list it =
        let l = it.lists in
        let m = length l.rows in
        let rest = drop k oldest in
        let part = take m rest in
        let reached = l.reached in
        let within = it.within in
        let all : length (map (row_of cs) (requests cs)) ≡ length (requests cs) = length-map (requests cs) (row_of cs) in
        let long : length oldest ≡ last = length-reverse (requests cs) ∙ sym all ∙ sym count in
        let left : length rest ≡ length oldest - k = length-drop k oldest in
        let few : m ≤ length rest = omega (arith, reached, within, long, left) in
        let up : place.HaveNumbers number (k + 1) rest =
        subst (λ n. place.HaveNumbers number n rest) (let next : 1 + k ≡ k + 1 = omega arith in next) (place.numbers_after number k 1 oldest (oldest_first (submitted cs))) in
        let only : AllByRecursion IsAlone rest = place.all_drop IsAlone k oldest alone in
        let rows : l.rows ≡ map (row_of cs) part =
        place.rows_are number (row_of cs) at (k + 1) rest up (all_weaker IsAlone (place.IsAt number (row_of cs) at) row_alone rest only) l.rows l.numbered few in
        let made : AllZip (IsShownIn (tables owner cs)) (map (row_of cs) (filter picked part)) l.made =
        subst (λ xs. AllZip (IsShownIn (tables owner cs)) xs l.made) (ap (filter (picks_row choice p)) rows ∙ filter-map (picks_row choice p) (row_of cs) part) l.are in
        let shown : AllZip IsShown (map (whole cs) (filter picked part)) l.made =
        each_shown h (filter picked part) (all-filter IsAlone picked part (place.all_take IsAlone m rest only)) l.made made in
        let kept : AllZip IsShown (chosen part) (filter (keeps_shown choice p) l.made) =
        zip_filter IsShown (keeps_whole choice p) (keeps_shown choice p) (kept_alike choice p) (map (whole cs) (filter picked part)) l.made shown in
        let many : length (chosen part) ≡ it.many = zip_length IsShown (chosen part) (filter (keeps_shown choice p) l.made) kept ∙ l.count in
        let most_of : length (chosen part) ≤ most = (let bound = it.few in omega (arith, many, bound)) in
        let ended : (length (chosen part) ≡ most) ⊎ (chosen (drop m rest) ≡ []) = elim it.ends [
          | inl full ↦ inl (many ∙ full)
          | inr done ↦ inr (ap chosen (let low : length rest ≤ m = omega (arith, reached, done, long, left) in drop_of_length-le rest low))
        ] in
        let parts : chosen rest ≡ chosen part ++ chosen (drop m rest) = ap chosen (sym (take-append-drop m rest)) ∙ chosen-append part (drop m rest) in
        let first : take most (chosen rest) ≡ chosen part = ap (take most) parts ∙ place.first_of most (chosen part) (chosen (drop m rest)) most_of ended in
        record {
          shown = filter (keeps_shown choice p) l.made;
          are = subst (λ ws. AllZip IsShown ws (filter (keeps_shown choice p) l.made)) (sym first) kept;
          held = l.held;
        }

    few_chosen : (rs : List Request) → length (chosen rs) ≤ length rs
    few_chosen rs =
        let a = fewer (keeps_whole choice p) (map (whole cs) (filter picked rs)) in
        let b = length-map (filter picked rs) (whole cs) in
        let c = fewer picked rs in
        omega (arith, a, b, c)

    -- all that are chosen, if no more than these are asked for
    all_held : IsHistory cs → (last : ℕ) → last ≡ length (tables owner cs).requests → {L : Type 0} (holds : L → List ShownRequest → Type 0) (list : L)
        → ListsUpTo choice p (tables owner cs) 0 last last (holds list) → HoldsShown holds (chosen oldest) list
    all_held h last count holds list it =
        let all : length (map (row_of cs) (requests cs)) ≡ length (requests cs) = length-map (requests cs) (row_of cs) in
        let long : length oldest ≡ last = length-reverse (requests cs) ∙ sym all ∙ sym count in
        let few = few_chosen oldest in
        let whole_list : take last (chosen oldest) ≡ chosen oldest = take_all last (chosen oldest) (omega (arith, few, long)) in
        subst (λ ws. HoldsShown holds ws list) whole_list (held_are h 0 last last count holds list it)

  -- ---- those that the person is shown

  abbrev pub shown_all : List Whole
  shown_all = reverse (filter (λ (w : Whole). is_shown_to p w) (wholes cs))

  pub wholes_are : shown_all ≡ map (whole cs) (filter is_mine oldest)
  wholes_are =
      ap reverse (filter-map (λ (w : Whole). is_shown_to p w) (whole cs) (requests cs)) ∙ sym (map-reverse (whole cs) (filter is_mine (requests cs)))
      ∙ ap (map (whole cs)) (sym (filter-reverse is_mine (requests cs)))

  chosen_shown : (rs : List Request) → chosen choices.Shown rs ≡ map (whole cs) (filter is_mine rs)
  chosen_shown rs =
      filter_all (λ (w : Whole). true) (map (whole cs) (filter is_mine rs)) (all_of (λ (w : Whole). true ≡ true) (λ w. refl) (map (whole cs) (filter is_mine rs)))

  pub are_shown : IsHistory cs → (last : ℕ) → last ≡ length (tables owner cs).requests → {L : Type 0} (holds : L → List ShownRequest → Type 0) (list : L)
      → ListsUpTo choices.Shown p (tables owner cs) 0 last last (holds list) → HoldsShown holds shown_all list
  are_shown h last count holds list it = subst (λ ws. HoldsShown holds ws list) (chosen_shown oldest ∙ sym wholes_are) (all_held choices.Shown h last count holds list it)

  from_are : (n : ℕ) → part_from request_number n shown_all ≡ take most_of_part (chosen choices.Shown (drop (n - 1) oldest))
  from_are n =
      let late : Whole → Bool = λ w. nat_le n (request_number w) in
      let late_request : Request → Bool = λ r. nat_le n r.number in
      ap (λ ws. take most_of_part (filter late ws)) wholes_are
      ∙ ap (take most_of_part)
      (filter-map late (whole cs) (filter is_mine oldest) ∙ ap (map (whole cs)) (swapped is_mine late_request oldest)
      ∙ ap (λ rs. map (whole cs) (filter is_mine rs)) (place.from_is number n 1 oldest (oldest_first (submitted cs)))
      ∙ sym (chosen_shown (drop (n - 1) oldest)))

  pub from_shown : IsHistory cs → (n last : ℕ) → last ≡ length (tables owner cs).requests → {L : Type 0} (holds : L → List ShownRequest → Type 0) (list : L)
      → ListsUpTo choices.Shown p (tables owner cs) (min (n - 1) last) last 1000 (holds list) → HoldsShown holds (part_from request_number n shown_all) list
  from_shown h n last count holds list it =
      let all : length (map (row_of cs) (requests cs)) ≡ length (requests cs) = length-map (requests cs) (row_of cs) in
      let long : length oldest ≡ last = length-reverse (requests cs) ∙ sym all ∙ sym count in
      let same : drop (min (n - 1) last) oldest ≡ drop (n - 1) oldest = place.clamped (n - 1) last oldest (omega (arith, long)) in
      subst (λ ws. HoldsShown holds ws list) (ap (λ rs. take most_of_part (chosen choices.Shown rs)) same ∙ sym (from_are n))
      (held_are choices.Shown h (min (n - 1) last) last 1000 count holds list it)

  -- ---- those that wait

  may_be_mine : (role : Role) (is_own : Bool) (s : State) → waiting.may_wait role is_own s ≡ true → sees role is_own ≡ true
  may_be_mine roles.Submitter true s h = refl
  may_be_mine roles.Submitter false s h = absurd (true≢false (sym h))
  may_be_mine roles.Reviewer is_own s h = refl
  may_be_mine roles.Officer is_own s h = refl
  may_be_mine roles.Signer is_own s h = refl

  waiting_are : filter (waiting.waits_for p) shown_all ≡ chosen choices.Waiting oldest
  waiting_are =
      let may : Whole → Bool = λ w. waiting.may_wait p.role (bytes_eq p.name w.request.submitter) w.state in
      let left : Whole → Bool = λ w. not (waiting.has_voted p w) in
      ap (filter (waiting.waits_for p)) wholes_are ∙ filter_both may left (map (whole cs) (filter is_mine oldest))
      ∙ ap (filter left)
      (filter-map may (whole cs) (filter is_mine oldest)
      ∙ ap (map (whole cs)) (filter_within (picked choices.Waiting) is_mine (λ r h. may_be_mine p.role (bytes_eq p.name r.submitter) (state cs r.number) h) oldest))

  pub waiting_shown : IsHistory cs → (last : ℕ) → last ≡ length (tables owner cs).requests → {L : Type 0} (holds : L → List ShownRequest → Type 0) (list : L)
      → ListsUpTo choices.Waiting p (tables owner cs) 0 last last (holds list) → HoldsShown holds (filter (waiting.waits_for p) shown_all) list
  waiting_shown h last count holds list it = subst (λ ws. HoldsShown holds ws list) (sym waiting_are) (all_held choices.Waiting h last count holds list it)

-- ---- the answer that is due to the person of a name

module _ (owner : List ℕ) (cs : History) (name : List ℕ) where
  -- the result of the read of the person
  abbrev pub IsNamed : Option Person → Type 0
  IsNamed found = filter (has_name name) (tables owner cs).people ≡ listed found

  -- what is due, by the person who is found
  abbrev pub due_of : Option Person → Result (List Whole) Refusal
  due_of found = result_map_both reverse (λ refusal. refusal) (result_map_both (λ p. filter (λ w. is_shown_to p w) (wholes cs)) (λ refusal. refusal) (ok_or found refusals.UnknownCaller))

  pub due : (found : Option Person) → IsNamed found → requests_for cs (callers.Person name) ≡ due_of found
  due found e = ap due_of (found_listed (has_name name) (people cs) found e)

  pub gives_nobody : {B : Type 0} (shows : List Whole → B → Type 0) → IsNamed None → IsGiven (requests_for cs (callers.Person name)) (Err refusals.UnknownCaller) shows
  gives_nobody shows e = subst (λ d. IsGiven d (Err refusals.UnknownCaller) shows) (sym (due None e)) refl

  pub gives_all : IsHistory cs → (p : Person) → IsNamed (Some p) → (last : ℕ) → last ≡ length (tables owner cs).requests → {L : Type 0} (holds : L → List ShownRequest → Type 0) (list : L)
      → ListsUpTo choices.Shown p (tables owner cs) 0 last last (holds list) → IsGiven (requests_for cs (callers.Person name)) (Ok (answers.Requests list)) (GivesRequests holds)
  gives_all h p e last count holds list l =
      subst (λ d. IsGiven d (Ok (answers.Requests list)) (GivesRequests holds)) (sym (due (Some p) e)) (list, are_shown owner cs p h last count holds list l, refl)

  -- from a number on
  module _ (n : ℕ) where
    abbrev part : Result (List Whole) Refusal → Result (List Whole) Refusal
    part r = result_map_both (part_from request_number n) (λ refusal. refusal) r

    pub from_nobody : {B : Type 0} (shows : List Whole → B → Type 0) → IsNamed None → IsGiven (requests_from cs (callers.Person name) n) (Err refusals.UnknownCaller) shows
    from_nobody shows e = subst (λ d. IsGiven d (Err refusals.UnknownCaller) shows) (sym (ap part (due None e))) refl

    pub gives_from : IsHistory cs → (p : Person) → IsNamed (Some p) → (last : ℕ) → last ≡ length (tables owner cs).requests → {L : Type 0} (holds : L → List ShownRequest → Type 0) (list : L)
        → ListsUpTo choices.Shown p (tables owner cs) (min (n - 1) last) last 1000 (holds list) → IsGiven (requests_from cs (callers.Person name) n) (Ok (answers.Requests list)) (GivesRequests holds)
    gives_from h p e last count holds list l =
        subst (λ d. IsGiven d (Ok (answers.Requests list)) (GivesRequests holds)) (sym (ap part (due (Some p) e))) (list, from_shown owner cs p h n last count holds list l, refl)
