-- Keys of proposals' items, no two the same where no two proposals have the same number.
use Rattle.std.proofs.Common.{◌≡◌, ℕ, ◌+◌, ◌<◌, Bool, true, false, not, ◌&&◌, ◌||◌, All, List, [], ◌∷◌, refl, ◌∙◌, arith}
use Rattle.std.specs.Prelude.{◌==◌, flat_map}
use Rattle.std.specs.List.{list_any}
use Rattle.std.proofs.lemmas.Bool.{and_parts, not-true}
use Rattle.std.proofs.lemmas.Bool.Decides.{nat_tests}
use Rattle.std.proofs.lemmas.List.Elements.{All-cons, All-nil}
use Rattle.std.proofs.lemmas.List.Folds.{list_any-append}
use Rattle.desk_history.specs.Calls.{are_apart}
use Rattle.desk_history.specs.Items.{item_rows, items_from, items_of}
use Rattle.desk_history.specs.declared.rows.ProposalItem.{ProposalItem}
use Rattle.desk_history.specs.declared.rows.ProposalItemRow.{ProposalItemRow}
use Rattle.desk_history.specs.declared.rows.ProposalRow.{ProposalRow}
use Rattle.desk_history.proofs.ListLemmas.{apart-more, apart_joined, or_none}
use Rattle.store_proposals.specs.Items.{is_item_key}

no_first : (a b : Bool) → a ≡ false → (a && b) ≡ false
no_first a b h = cc

no_second : (a b : Bool) → b ≡ false → (a && b) ≡ false
no_second true b h = h
no_second false b h = refl

neither : (a b : Bool) → (a || b) ≡ false → (a ≡ false) × (b ≡ false)
neither true b h = absurd cc
neither false b h = (refl, h)

abbrev row_of : ℕ → ℕ → ProposalItem → ProposalItemRow
row_of k place x = record { proposal = k; place = place; item = x }

-- ---- items of one proposal

lower_place : (p q : ℕ) → p < q → (p == q) ≡ false
lower_place p q h = grind (arith, nat_tests)

any_place : (x : ProposalItemRow) (k q : ℕ) (xs : List ProposalItem) → x.place < q → list_any (is_item_key x) (items_from k q xs) ≡ false
any_place x k q [] h = refl
any_place x k q (y ∷ ys) h =
    or_none (is_item_key x (row_of k q y)) (list_any (is_item_key x) (items_from k (q + 1) ys))
    (no_second (x.proposal == k) (x.place == q) (lower_place x.place q h)) (any_place x k (q + 1) ys (omega arith))

places_apart : (k place : ℕ) (xs : List ProposalItem) → are_apart is_item_key (items_from k place xs) ≡ true
places_apart k place [] = refl
places_apart k place (x ∷ xs) =
    apart-more is_item_key (row_of k place x) (items_from k (place + 1) xs) (any_place (row_of k place x) k (place + 1) xs (omega arith)) (places_apart k (place + 1) xs)

-- ---- items of different proposals

any_other : (x : ProposalItemRow) (k place : ℕ) (xs : List ProposalItem) → (x.proposal == k) ≡ false → list_any (is_item_key x) (items_from k place xs) ≡ false
any_other x k place [] h = refl
any_other x k place (y ∷ ys) h =
    or_none (is_item_key x (row_of k place y)) (list_any (is_item_key x) (items_from k (place + 1) ys)) (no_first (x.proposal == k) (x.place == place) h) (any_other x k (place + 1) ys h)

any_among : (x : ProposalItemRow) (ps : List ProposalRow) → list_any (λ (b : ProposalRow). x.proposal == b.number) ps ≡ false → list_any (is_item_key x) (flat_map item_rows ps) ≡ false
any_among x [] h = refl
any_among x (p ∷ ps) h =
    let both = neither (x.proposal == p.number) (list_any (λ (b : ProposalRow). x.proposal == b.number) ps) h in
    list_any-append (is_item_key x) (item_rows p) (flat_map item_rows ps)
    ∙ or_none (list_any (is_item_key x) (item_rows p)) (list_any (is_item_key x) (flat_map item_rows ps)) (any_other x p.number 0 (items_of p.named) both.0) (any_among x ps both.1)

all_among : (k place : ℕ) (xs : List ProposalItem) (ps : List ProposalRow) → list_any (λ (b : ProposalRow). k == b.number) ps ≡ false
    → All (λ x. list_any (is_item_key x) (flat_map item_rows ps) ≡ false) (items_from k place xs)
all_among k place [] ps h = All-nil (λ x. list_any (is_item_key x) (flat_map item_rows ps) ≡ false)
all_among k place (x ∷ xs) ps h =
    All-cons (λ z. list_any (is_item_key z) (flat_map item_rows ps) ≡ false) (row_of k place x) (items_from k (place + 1) xs) (any_among (row_of k place x) ps h) (all_among k (place + 1) xs ps h)

pub items_apart : (ps : List ProposalRow) → are_apart (λ (a b : ProposalRow). a.number == b.number) ps ≡ true → are_apart is_item_key (flat_map item_rows ps) ≡ true
items_apart [] h = refl
items_apart (p ∷ ps) h =
    let among = list_any (λ (b : ProposalRow). p.number == b.number) ps in
    let both : (not among ≡ true) × (are_apart (λ (a b : ProposalRow). a.number == b.number) ps ≡ true) = and_parts (not among) (are_apart (λ (a b : ProposalRow). a.number == b.number) ps) h in
    apart_joined is_item_key (item_rows p) (flat_map item_rows ps) (places_apart p.number 0 (items_of p.named)) (items_apart ps both.1)
    (all_among p.number 0 (items_of p.named) ps (not-true among both.0))
