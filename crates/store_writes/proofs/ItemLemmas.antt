-- Proposals and what they name, put in, and the state of a proposal.
use Rattle.std.proofs.Common.{◌≡◌, ℕ, ◌+◌, ◌==◌, cond, true, false, List, [], ◌∷◌, ◌++◌, map, drop, slice_get, Some, refl, sym, ap, ap₂, subst, ◌∙◌}
use Rattle.std.specs.Prelude.{flat_map}
use Rattle.std.proofs.lemmas.List.{drop_more, map-append}
use Rattle.std.proofs.lemmas.Option.{get_or_from_slice_get, slice_get_within}
use Rattle.sqlite.specs.State.{State}
use Rattle.store_sql.specs.States.{Moves, Sees, Turns}
use Rattle.store_sql.proofs.StopLemmas.{turns_then}
use Rattle.store_schema.specs.Tables.{desk_layout}
use Rattle.desk_types.specs.declared.proposal.ProposalOutcome.{ProposalOutcome}
use Rattle.desk_types.specs.declared.proposal.ProposalState.{ProposalState}
use Rattle.desk_history.specs.declared.rows.ProposalItem.{ProposalItem}
use Rattle.desk_history.specs.declared.rows.ProposalRow.{ProposalRow}
use Rattle.desk_history.specs.declared.write.Write.TheVariants as writes
use Rattle.desk_history.specs.Items.{item_rows, items_from}
use Rattle.desk_history.specs.Tables.{Tables}
use Rattle.desk_history.specs.Writes.{set_proposal_state, written}
use Rattle.store_schema.specs.rows.Contents.{contents}
use Rattle.store_schema.specs.rows.Values.{item_values, proposal_values}
use Rattle.store_sql.specs.Contents.{change_at}
use Rattle.store_writes.specs.Steps.{AddsItem, contents_with}

-- ---- one step of the loop

-- the items from this place on are the one at it and those after it
pub from_place : (k p : ℕ) (xs : List ProposalItem) (x : ProposalItem) → slice_get xs p ≡ Some x
    → items_from k p (drop p xs) ≡ record { proposal = k; place = p; item = x } ∷ items_from k (p + 1) (drop (p + 1) xs)
from_place k p xs x h =
    ap (items_from k p) (drop_more xs p x (slice_get_within xs p x h) ∙ ap (λ y. y ∷ drop (p + 1) xs) (get_or_from_slice_get xs p x x h))

pub one_put : (k n p : ℕ) (xs : List ProposalItem) (x : ProposalItem) (first mid new : State) → n ≡ p + 1 → slice_get xs p ≡ Some x
    → Turns desk_layout contents (contents_with (items_from k n (drop n xs))) first mid
    → AddsItem (item_values (record { proposal = k; place = p; item = x })) mid new
    → Turns desk_layout contents (contents_with (items_from k p (drop p xs))) first new
unfolding AddsItem
one_put k n p xs x first mid new next h before did =
    let after = items_from k (p + 1) (drop (p + 1) xs) in
    subst (λ l. Turns desk_layout contents (contents_with l) first new) (sym (from_place k p xs x h))
    (turns_then desk_layout contents (contents_with after) (contents_with (record { proposal = k; place = p; item = x } ∷ after)) first mid new
    (subst (λ m. Turns desk_layout contents (contents_with (items_from k m (drop m xs))) first mid) next before)
    (λ t sees. did.value (contents_with after t) sees) did.is_open did.inside did.kept)

-- ---- the proposal's own row, after its items

proposed : (p : ProposalRow) (t : Tables) → contents (written (writes.Propose p) t) ≡ change_at 12 (λ rows. proposal_values p ∷ rows) (contents_with (item_rows p) t)
proposed p t = ap (λ rows. change_at 13 (λ _. rows) (contents (written (writes.Propose p) t))) (map-append item_values (item_rows p) (flat_map item_rows t.proposals))

pub row_put : (p : ProposalRow) (first mid new : State) → Turns desk_layout contents (contents_with (item_rows p)) first mid
    → Moves desk_layout (change_at 12 (λ rows. proposal_values p ∷ rows)) mid new → Turns desk_layout contents (λ t. contents (written (writes.Propose p) t)) first new
row_put p first mid new before did =
    turns_then desk_layout contents (contents_with (item_rows p)) (λ t. contents (written (writes.Propose p) t)) first mid new before
    (λ t sees. subst (Sees desk_layout new) (sym (proposed p t)) (did.value (contents_with (item_rows p) t) sees)) did.is_open did.inside did.kept

-- ---- the state of a proposal, of which its items know nothing

set_item : (k : ℕ) (state : ProposalState) (p : ProposalRow) → item_rows (set_proposal_state k state p) ≡ item_rows p
set_item k state p = elim (k == p.number) as (λ b. item_rows (cond b (record p { state = state }) p) ≡ item_rows p) [ true ↦ refl | false ↦ refl ]

set_items : (k : ℕ) (state : ProposalState) (ps : List ProposalRow) → flat_map item_rows (map (set_proposal_state k state) ps) ≡ flat_map item_rows ps
set_items k state [] = refl
set_items k state (p ∷ ps) = ap₂ (λ a b. a ++ b) (set_item k state p) (set_items k state ps)

pub state_set : (o : ProposalOutcome) (t : Tables)
    → contents (written (writes.ProposalState o) t) ≡ change_at 12 (λ _. map proposal_values (map (set_proposal_state o.proposal o.state) t.proposals)) (contents t)
state_set o t = ap (λ rows. change_at 13 (λ _. map item_values rows) (contents (written (writes.ProposalState o) t))) (set_items o.proposal o.state t.proposals)
