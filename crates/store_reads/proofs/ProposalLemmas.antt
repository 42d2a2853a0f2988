-- Proposals by their numbers, and items by their columns.
use Rattle.std.proofs.Common.{◌≡◌, ◌==◌, ℕ, pos, List, [], ◌∷◌, map, filter, length, Option, Some, true, refl, sym, ap, ap₂, ◌∙◌, arith, codes}
use Rattle.std.specs.Prelude.{flat_map}
use Rattle.sqlite.specs.declared.types.Value.TheVariants.{Null, Int, Text}
use Rattle.sqlite.specs.Order.{Row}
use Rattle.sqlite.specs.State.{State}
use Rattle.sqlite_trees.proofs.ListLemmas.{filter-map, map-map}
use Rattle.store_sql.specs.Effects.{passes}
use Rattle.store_sql.proofs.ValueLemmas.{int_is, only}
use Rattle.store_schema.specs.Columns.{columns_after, columns_of, names_of}
use Rattle.store_schema.specs.Named.{equals}
use Rattle.store_schema.specs.Tables as tables
use Rattle.store_schema.specs.declared.selecting.TheConstants.{SELECT_PROPOSAL, SELECT_PROPOSAL_ITEMS, SELECT_PROPOSALS}
use Rattle.store_schema.proofs.SelectFacts.{select_proposal, select_proposal_items, select_proposals}
use Rattle.desk_types.specs.Words.{item_kind_text, proposal_kind_text, proposal_state_text}
use Rattle.desk_history.specs.declared.rows.ProposalItem.{ProposalItem}
use Rattle.desk_history.specs.declared.rows.ProposalItem.TheVariants as items
use Rattle.desk_history.specs.declared.rows.ProposalItemRow.{ProposalItemRow}
use Rattle.desk_history.specs.Items.{item_rows}
use Rattle.desk_history.specs.Tables.{Tables}
use Rattle.store_schema.specs.rows.Values.{item_digest, item_generation, item_kind, item_name, item_values}
use Rattle.store_reads.specs.ProposalColumns.{head_columns, head_of}
use Rattle.store_reads.specs.Reads.{AreFound, Finds, ReadsTables, listed}
use Rattle.store_reads.specs.declared.proposal_head.ProposalHead.{ProposalHead}
use Rattle.store_reads.proofs.FindLemmas.{tells_row, tells_rows}

-- ---- an item by its columns

same_item : (x y : ProposalItem) → item_kind_text (item_kind x) ≡ item_kind_text (item_kind y) → item_digest x ≡ item_digest y → item_name x ≡ item_name y
    → item_generation x ≡ item_generation y → x ≡ y
same_item (items.Digest d) (items.Digest e) kind digest name generation = ap items.Digest digest
same_item (items.Digest d) (items.Certificate e) kind digest name generation = let h : 6 ≡ 11 = ap length kind in absurd (omega (arith, h))
same_item (items.Digest d) (items.Component y) kind digest name generation = let h : 6 ≡ 9 = ap length kind in absurd (omega (arith, h))
same_item (items.Certificate d) (items.Digest e) kind digest name generation = let h : 11 ≡ 6 = ap length kind in absurd (omega (arith, h))
same_item (items.Certificate d) (items.Certificate e) kind digest name generation = ap items.Certificate digest
same_item (items.Certificate d) (items.Component y) kind digest name generation = let h : 11 ≡ 9 = ap length kind in absurd (omega (arith, h))
same_item (items.Component x) (items.Digest e) kind digest name generation = let h : 9 ≡ 6 = ap length kind in absurd (omega (arith, h))
same_item (items.Component x) (items.Certificate e) kind digest name generation = let h : 9 ≡ 11 = ap length kind in absurd (omega (arith, h))
same_item (items.Component x) (items.Component y) kind digest name generation = ap₂ (λ a b. items.Component (record { name = a; generation = b })) name generation

pub same_item_row : (x y : ProposalItemRow) → item_values x ≡ item_values y → x ≡ y
same_item_row x y h =
    let proposal : x.proposal ≡ y.proposal = cc in
    let place : x.place ≡ y.place = cc in
    let kind : item_kind_text (item_kind x.item) ≡ item_kind_text (item_kind y.item) = cc in
    let digest : item_digest x.item ≡ item_digest y.item = cc in
    let name : item_name x.item ≡ item_name y.item = cc in
    let generation : item_generation x.item ≡ item_generation y.item = cc in
    ap (λ a. record x { proposal = a }) proposal ∙ ap (λ a. record x { proposal = y.proposal; place = a }) place
    ∙ ap (λ a. record y { item = a }) (same_item x.item y.item kind digest name generation)

-- ---- which proposals and items have a number

-- a proposal's row, by its head
abbrev head_row : ProposalHead → Row
head_row h =
    Int (pos h.number) ∷ Null ∷ Text h.officer ∷ Text (proposal_kind_text h.kind) ∷ Int (pos h.stamp) ∷ Int (pos h.passed)
    ∷ Text (proposal_state_text h.state) ∷ []

is_head : (k : ℕ) (x : ProposalHead) → passes tables.proposals (equals tables.proposals (codes "no") 0 ∷ []) (Int (pos k) ∷ []) (head_row x) ≡ (k == x.number)
is_head k x = only _ _ (int_is x.number k)

is_item : (k : ℕ) (x : ProposalItemRow) → passes tables.proposal_items (equals tables.proposal_items (codes "proposal") 0 ∷ []) (Int (pos k) ∷ []) (item_values x) ≡ (k == x.proposal)
is_item k x = only _ _ (int_is x.proposal k)

pub tells_head : (k : ℕ) (old new : State) (found : Option ProposalHead) → Finds head_columns SELECT_PROPOSAL.now (Int (pos k) ∷ []) (listed found) old new
    → ReadsTables (λ t. map head_of (filter (λ p. k == p.number) t.proposals) ≡ listed found) old new
tells_head k old new found f =
    let p : ProposalHead → _ = λ x. k == x.number in
    let it = tells_row 12 tables.proposals SELECT_PROPOSAL.now (equals tables.proposals (codes "no") 0 ∷ []) 0 (columns_of tables.proposals) (names_of tables.proposals) select_proposal head_row head_columns
    (λ (t : Tables). map head_of t.proposals) (λ t. ap Some (sym (map-map head_row head_of t.proposals))) (Int (pos k) ∷ []) (λ x. refl) p (is_head k) old new found f in
    record { kept = it.kept; tells = λ t sees. sym (filter-map p head_of t.proposals) ∙ it.tells t sees }

pub tells_heads : (old new : State) (found : List ProposalHead) → Finds head_columns SELECT_PROPOSALS.now [] found old new
    → ReadsTables (λ t. AreFound head_columns tables.proposals 1 (λ h. true) (map head_of t.proposals) found) old new
tells_heads old new found =
    tells_rows 12 tables.proposals SELECT_PROPOSALS.now [] 1 (columns_after 1 tables.proposals) (names_of tables.proposals) select_proposals head_row head_columns
    (λ (t : Tables). map head_of t.proposals) (λ t. ap Some (sym (map-map head_row head_of t.proposals))) [] (λ x. refl) (λ h. true) (λ x. refl) old new found

pub tells_items : (k : ℕ) (old new : State) (found : List ProposalItemRow) → Finds item_values SELECT_PROPOSAL_ITEMS.now (Int (pos k) ∷ []) found old new
    → ReadsTables (λ t. AreFound item_values tables.proposal_items 2 (λ r. k == r.proposal) (flat_map item_rows t.proposals) found) old new
tells_items k old new found =
    tells_rows 13 tables.proposal_items SELECT_PROPOSAL_ITEMS.now (equals tables.proposal_items (codes "proposal") 0 ∷ []) 2 (columns_after 2 tables.proposal_items) (names_of tables.proposal_items) select_proposal_items item_values item_values
    (λ (t : Tables). flat_map item_rows t.proposals) (λ t. refl) (Int (pos k) ∷ []) (λ x. refl) (λ r. k == r.proposal) (is_item k) old new found
