-- Writes of an import's digests.
use Rattle.std.proofs.Common.{◌≡◌, ℕ, ◌<◌, ◌+◌, Bool, true, false, not, ◌||◌, List, [], ◌∷◌, ◌++◌, length, refl, sym, ◌∙◌, ap, drop, get_or, suc, add-one, drop-cons}
use Rattle.std.specs.Prelude.{if◌then◌else◌, reverse, bytes_eq, IsTrue}
use Rattle.std.specs.List.{list_any}
use Rattle.std.specs.BTreeSet.{insert_key}
use Rattle.std.specs.Cmp.Lexicographic.{slice_cmp}
use Rattle.std.specs.declared.cmp.Ordering.TheVariants.{Less, Equal, Greater}
use Rattle.std.specs.Ordering.{is_eq, match_ordering, nat_cmp}
use Rattle.std.proofs.lemmas.List.{reverse-append}
use Rattle.std.proofs.lemmas.List.Folds.{list_any-append, list_any_at}
use Rattle.std.proofs.lemmas.Map.Text.{is_eq-slice_cmp}
use Rattle.desk_history.specs.Calls.{is_among, distinct}
use Rattle.desk_rules.specs.ImportSteps.{put_new}
use Rattle.desk_history.proofs.CountLemmas.{any_two}
use Rattle.desk_history.proofs.ListLemmas.{any_once, bytes_eq-refl, same_text}
use Rattle.desk_rules.proofs.SubmissionLemmas.{turned}

-- sets of digests

-- a key is found by the order exactly if it is among the keys
pub found_same : (q : List ℕ) (keys : List (List ℕ)) → list_any (λ x. is_eq (slice_cmp nat_cmp q x)) keys ≡ is_among keys q
found_same q [] = refl
found_same q (x ∷ keys) = ap (λ b. b || list_any (λ x. is_eq (slice_cmp nat_cmp q x)) keys) (is_eq-slice_cmp q x) ∙ ap (λ b. bytes_eq q x || b) (found_same q keys)

swapped : (a b c : Bool) → (a || (b || c)) ≡ (b || (a || c))
swapped true true c = refl
swapped true false c = refl
swapped false b c = refl

-- a set has the digest that is put into it, and what it had
pub inserted : (digest : List ℕ) (keys : List (List ℕ)) (q : List ℕ) → is_among (insert_key (slice_cmp nat_cmp) keys digest) q ≡ (bytes_eq q digest || is_among keys q)
inserted digest [] q = refl
inserted digest (x ∷ keys) q =
    elim (slice_cmp nat_cmp digest x) as (λ o. slice_cmp nat_cmp digest x ≡ o → is_among (match_ordering o (digest ∷ x ∷ keys) (x ∷ keys) (x ∷ insert_key (slice_cmp nat_cmp) keys digest)) q ≡ (bytes_eq q digest || (bytes_eq q x || is_among keys q))) [
      | Less ↦ λ e. refl
      | Equal ↦ λ e.
          let same : digest ≡ x = same_text digest x (sym (is_eq-slice_cmp digest x) ∙ ap is_eq e) in
          sym (ap (λ d. bytes_eq q d || (bytes_eq q x || is_among keys q)) same ∙ twice (bytes_eq q x) (is_among keys q))
      | Greater ↦ λ e. ap (λ b. bytes_eq q x || b) (inserted digest keys q) ∙ swapped (bytes_eq q x) (bytes_eq q digest) (is_among keys q)
    ] refl
  where
    twice : (a b : Bool) → (a || (a || b)) ≡ (a || b)
    twice true b = refl
    twice false b = refl

-- new digests

-- new rows are those that appear once
pub put_new-once : (ds rest : List (List ℕ)) → put_new ds (distinct rest) ≡ distinct (reverse ds ++ rest)
put_new-once [] rest = refl
put_new-once (d ∷ ds) rest =
    ap (λ b. put_new ds (if b then distinct rest else d ∷ distinct rest)) (any_once d rest)
    ∙ (put_new-once ds (d ∷ rest) ∙ ap distinct (turned d ds rest))

-- one step of an import's digests
pub new_step : (rows named table new later : List (List ℕ)) (i : ℕ) (d : List ℕ) (is_new : Bool) → ((q : List ℕ) → IsTrue (is_among named q) → is_among rows q ≡ is_among table q) → i < length named → d ≡ get_or named i d →
    is_new ≡ not (is_among new d || is_among rows d) → later ≡ (if is_new then new ++ d ∷ [] else new) →
    put_new (drop i named) (reverse new ++ table) ≡ put_new named table → put_new (drop (i + 1) named) (reverse later ++ table) ≡ put_new named table
new_step rows named table new later i d is_new knows lt is fresh kept before =
    let known : is_among (reverse new ++ table) d ≡ (is_among new d || is_among rows d) =
    any_two (bytes_eq d) new table ∙ ap (λ b. is_among new d || b) (sym (knows d (among_at named i d lt is))) in
    ap (λ ls. put_new (drop (i + 1) named) (reverse ls ++ table)) kept
    ∙ (ap (λ b. put_new (drop (i + 1) named) (reverse (if b then new ++ d ∷ [] else new) ++ table)) fresh
    ∙ ((elim (is_among new d || is_among rows d) as (λ b. put_new (drop (i + 1) named) (reverse (if not b then new ++ d ∷ [] else new) ++ table) ≡ put_new (drop (i + 1) named) (if b then reverse new ++ table else d ∷ (reverse new ++ table))) [
      | true ↦ refl
      | false ↦ ap (λ r. put_new (drop (i + 1) named) (r ++ table)) (reverse-append new (d ∷ []))
    ])
    ∙ (ap (λ b. put_new (drop (i + 1) named) (if b then reverse new ++ table else d ∷ (reverse new ++ table))) (sym known)
    ∙ (ap (λ ls. put_new ls (reverse new ++ table)) (sym (drop_at named i d lt is))
    ∙ before))))
  where
    drop_at : (xs : List (List ℕ)) (i : ℕ) (x : List ℕ) → i < length xs → x ≡ get_or xs i x → drop i xs ≡ x ∷ drop (i + 1) xs
    drop_at xs i x lt is = rw (add-one, drop-cons xs i x) (ap (λ y. y ∷ drop (suc i) xs) (sym is))

    among_at : (xs : List (List ℕ)) (i : ℕ) (x : List ℕ) → i < length xs → x ≡ get_or xs i x → is_among xs x ≡ true
    among_at xs i x lt is = list_any_at (bytes_eq x) xs i x lt (ap (bytes_eq x) (sym is) ∙ bytes_eq-refl x)

-- a set that has new digests and rows, one digest more
pub sees_more : (new later rows keys more : List (List ℕ)) (d : List ℕ) → ((q : List ℕ) → is_among keys q ≡ (is_among new q || is_among rows q)) → later ≡ (if not (is_among keys d) then new ++ d ∷ [] else new) →
    ((q : List ℕ) → is_among more q ≡ (bytes_eq q d || is_among keys q)) → (q : List ℕ) → is_among more q ≡ (is_among later q || is_among rows q)
sees_more new later rows keys more d sees kept after q =
    after q
    ∙ ((elim (is_among keys d) as (λ b. is_among keys d ≡ b → (bytes_eq q d || is_among keys q) ≡ (is_among (if not b then new ++ d ∷ [] else new) q || is_among rows q)) [
      | true ↦ λ e. there e ∙ sees q
      | false ↦ λ e. ap (λ b. bytes_eq q d || b) (sees q) ∙ (moved (bytes_eq q d) (is_among new q) (is_among rows q) ∙ sym (ap (λ b. b || is_among rows q) (list_any-append (bytes_eq q) new (d ∷ []))))
    ] refl)
    ∙ sym (ap (λ ls. is_among ls q || is_among rows q) kept))
  where
    there : is_among keys d ≡ true → (bytes_eq q d || is_among keys q) ≡ is_among keys q
    there e = elim (bytes_eq q d) as (λ b. bytes_eq q d ≡ b → (b || is_among keys q) ≡ is_among keys q) [
      | true ↦ λ s. sym (ap (λ t. is_among keys t) (same_text q d s) ∙ e)
      | false ↦ λ s. refl
    ] refl

    moved : (a b c : Bool) → (a || (b || c)) ≡ ((b || (a || false)) || c)
    moved true true c = refl
    moved true false c = refl
    moved false true c = refl
    moved false false c = refl
