-- The votes that a request is shown with ascend by reviewer, and each reviewer has one.
use Rattle.std.proofs.Common.{◌≡◌, ◌≢◌, ℕ, suc, ◌+◌, ◌==◌, true, false, not, ◌&&◌, cond, List, [], ◌∷◌, map, get_or, refl, sym, ap, subst, ◌∙◌, arith, true≢false}
use Rattle.std.specs.Prelude.{⊤, bytes_eq}
use Rattle.std.specs.Cmp.Lexicographic.{nat_list_cmp_total, slice_cmp}
use Rattle.std.specs.List.{AllByRecursion, list_any}
use Rattle.std.specs.List.Sorted.{IsPermutation, IsStrictlySortedBy}
use Rattle.std.specs.Ordering.{is_eq, is_lt, nat_cmp, ordering_reverse}
use Rattle.std.specs.declared.cmp.Ordering.{Ordering}
use Rattle.std.specs.declared.cmp.Ordering.TheVariants.{Less, Equal, Greater}
use Rattle.std.proofs.lemmas.Bool.{and_parts, not-true, or_parts}
use Rattle.std.proofs.lemmas.Map.Text.{is_eq-slice_cmp}
use Rattle.std.proofs.lemmas.List.Sorted.{IsPermutation-cons, IsPermutation-middle, IsPermutation-refl, IsPermutation-trans}
use Rattle.sqlite_trees.proofs.ListLemmas.{all-permutation, along_permutation}
use Rattle.desk_types.specs.Shown.{AreByReviewer}
use Rattle.desk_types.specs.declared.shown.ShownVote.{ShownVote}
use Rattle.desk_history.specs.Calls.{are_apart}
use Rattle.desk_history.specs.Laws.{is_vote_key}
use Rattle.desk_history.specs.Requests.{votes_on}
use Rattle.desk_history.specs.Shown.{AscendByReviewer, shown_vote}
use Rattle.desk_history.specs.declared.rows.VoteRow.{VoteRow}
use Rattle.desk_history.proofs.ListLemmas.{number_is}

abbrev compared : ShownVote → ShownVote → Ordering
compared x y = slice_cmp nat_cmp x.reviewer y.reviewer

-- the votes are of different reviewers
abbrev Differ : ShownVote → ShownVote → Type 0
Differ x y = compared x y ≢ Equal

-- no two of the votes are of one reviewer
abbrev Apart : List ShownVote → Type 0
Apart [] = ⊤
Apart (x ∷ xs) = AllByRecursion (Differ x) xs × Apart xs

-- ---- each reviewer has one vote on a request

unlike : (r : Ordering) → is_eq r ≡ false → r ≢ Equal
unlike r h e = true≢false (sym (ap is_eq e) ∙ h)

others : (v : VoteRow) (vs : List VoteRow) → list_any (is_vote_key v) vs ≡ false → AllByRecursion (Differ (shown_vote v)) (map shown_vote (votes_on vs v.request))
others v [] h = tt
others v (w ∷ vs) h =
    let parts : (is_vote_key v w ≡ false) × (list_any (is_vote_key v) vs ≡ false) = or_parts (is_vote_key v w) (list_any (is_vote_key v) vs) h in
    let rest = others v vs parts.1 in
    elim (v.request == w.request) as (λ b. (b && bytes_eq v.reviewer w.reviewer) ≡ false → AllByRecursion (Differ (shown_vote v)) (map shown_vote (cond b (w ∷ votes_on vs v.request) (votes_on vs v.request)))) [
      | true ↦ λ e. (unlike (slice_cmp nat_cmp v.reviewer w.reviewer) (is_eq-slice_cmp v.reviewer w.reviewer ∙ e), rest)
      | false ↦ λ e. rest
    ] parts.0

apart : (k : ℕ) (vs : List VoteRow) → are_apart is_vote_key vs ≡ true → Apart (map shown_vote (votes_on vs k))
apart k [] h = tt
apart k (v ∷ vs) h =
    let parts : (not (list_any (is_vote_key v) vs) ≡ true) × (are_apart is_vote_key vs ≡ true) = and_parts (not (list_any (is_vote_key v) vs)) (are_apart is_vote_key vs) h in
    let rest = apart k vs parts.1 in
    let here = others v vs (not-true (list_any (is_vote_key v) vs) parts.0) in
    elim (k == v.request) as (λ b. (k == v.request) ≡ b → Apart (map shown_vote (cond b (v ∷ votes_on vs k) (votes_on vs k)))) [
      | true ↦ λ e. (subst (λ n. AllByRecursion (Differ (shown_vote v)) (map shown_vote (votes_on vs n))) (sym (number_is k v.request e)) here, rest)
      | false ↦ λ e. rest
    ] refl

-- ---- in whatever order the votes come

differ_back : (x y : ShownVote) → Differ x y → Differ y x
differ_back x y h e = h (nat_list_cmp_total.antisymm x.reviewer y.reviewer ∙ ap ordering_reverse e)

abbrev StayApart : List ShownVote → List ShownVote → Type 0
StayApart xs ys = IsPermutation xs ys × (Apart xs → Apart ys)

moved : (xs ys : List ShownVote) → IsPermutation xs ys → StayApart xs ys
moved = along_permutation StayApart
    (λ xs. (IsPermutation-refl xs, λ h. h))
    (λ x xs ys it. (IsPermutation-cons x xs ys it.0, λ h. (all-permutation (Differ x) xs ys it.0 h.0, it.1 h.1)))
    (λ x y xs. (IsPermutation-middle (x ∷ []) y xs, λ h. ((differ_back x y h.0.0, h.1.0), (h.0.1, h.1.1))))
    (λ xs ys zs one two. (IsPermutation-trans xs ys zs one.0 two.0, λ h. two.1 (one.1 h)))

-- ---- votes that are sorted by reviewer, none of whom has two, ascend

risen : (r s : Ordering) → r ≡ ordering_reverse s → is_lt s ≡ false → r ≢ Equal → r ≡ Less
risen r Less e h other = absurd (true≢false h)
risen r Equal e h other = absurd (other e)
risen r Greater e h other = e

below_all : (x y : ShownVote) → compared x y ≡ Less → (zs : List ShownVote) → AllByRecursion (λ z. compared y z ≡ Less) zs → AllByRecursion (λ z. compared x z ≡ Less) zs
below_all x y less [] h = tt
below_all x y less (z ∷ zs) h = (nat_list_cmp_total.trans x.reviewer y.reviewer z.reviewer less h.0, below_all x y less zs h.1)

ascend : (vs : List ShownVote) → Apart vs → AreByReviewer vs → AscendByReviewer vs
unfolding IsStrictlySortedBy
ascend [] h sorted = tt
ascend (x ∷ []) h sorted = (tt, tt)
ascend (x ∷ y ∷ ys) h sorted =
    let less : compared x y ≡ Less =
    risen (compared x y) (compared y x) (nat_list_cmp_total.antisymm x.reviewer y.reviewer) (sorted 0 x (omega arith) (omega arith)) h.0.0 in
    let rest : AscendByReviewer (y ∷ ys) = ascend (y ∷ ys) h.1 (λ k d low high.
    let next : suc k + 1 ≡ suc (k + 1) = omega arith in
    subst (λ n. is_lt (compared (get_or (x ∷ y ∷ ys) n d) (get_or (y ∷ ys) k d)) ≡ false) next (sorted (suc k) d (omega arith) (omega arith))) in
    ((less, below_all x y less ys rest.0), rest)

-- the votes on a request, in the order of their reviewers
pub in_order : (k : ℕ) (vs : List VoteRow) → are_apart is_vote_key vs ≡ true → (shown : List ShownVote) → IsPermutation (map shown_vote (votes_on vs k)) shown → AreByReviewer shown
    → AscendByReviewer shown
in_order k vs once shown all sorted = ascend shown ((moved (map shown_vote (votes_on vs k)) shown all).1 (apart k vs once)) sorted
