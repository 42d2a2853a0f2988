-- The step from a proposal's own row and its items to the proposal.
use Rattle.std.proofs.Common.{◌≡◌, ◌==◌, ℕ, ◌+◌, Bool, List, [], ◌∷◌, map, filter, Some, None, All, refl, sym, ap, subst, ◌∙◌}
use Rattle.std.specs.Prelude.{flat_map}
use Rattle.std.specs.List.{AllByRecursion}
use Rattle.std.specs.List.Sorted.{IsPermutation}
use Rattle.std.proofs.lemmas.List.Elements.{All-filter, All-head}
use Rattle.desk_types.specs.Imports.{Imported}
use Rattle.desk_history.specs.declared.rows.ProposalItem.{ProposalItem}
use Rattle.desk_history.specs.declared.rows.ProposalItemRow.{ProposalItemRow}
use Rattle.desk_history.specs.declared.rows.ProposalRow.{ProposalRow}
use Rattle.desk_history.specs.Items.{item_rows, items_from, items_of}
use Rattle.desk_history.specs.Tables.{Tables}
use Rattle.store_reads.specs.ProposalColumns.{head_of}
use Rattle.store_reads.specs.declared.proposal_head.ProposalHead.{ProposalHead}
use Rattle.store_reads.proofs.PartLemmas.{rows_of_one}
use Rattle.store_proposals.specs.Reading.{IsRead, IsStampOf, IsStamped}
use Rattle.store_proposals.proofs.NameLemmas.{same_items, same_named, same_stamp}

record One {X Y : Type 0} (g : X → Y) (xs : List X) (y : Y) : Type 0 where
  pub it : X
  pub alone : xs ≡ it ∷ []
  pub is : g it ≡ y

one_mapped : {X Y : Type 0} (g : X → Y) (xs : List X) (y : Y) → map g xs ≡ y ∷ [] → One g xs y
one_mapped g [] y e = absurd cc
one_mapped g (x ∷ []) y e = record { it = x; alone = refl; is = (let same : g x ≡ y = cc in same) }
one_mapped g (x ∷ z ∷ xs) y e = absurd cc

none_mapped : {X Y : Type 0} (g : X → Y) (xs : List X) → map g xs ≡ [] → xs ≡ []
none_mapped g [] e = refl
none_mapped g (x ∷ xs) e = absurd cc

numbered : (k n : ℕ) (b : Bool) → (k == n) ≡ b → (place : ℕ) (xs : List ProposalItem) → AllByRecursion (λ (x : ProposalItemRow). (k == x.proposal) ≡ b) (items_from n place xs)
numbered k n b h place [] = tt
numbered k n b h place (x ∷ xs) = (h, numbered k n b h (place + 1) xs)

-- where one proposal has the number, its items
items_of_one : (k : ℕ) (ps : List ProposalRow) (p : ProposalRow) → filter (λ (q : ProposalRow). k == q.number) ps ≡ p ∷ []
    → filter (λ (x : ProposalItemRow). k == x.proposal) (flat_map item_rows ps) ≡ item_rows p
items_of_one k = rows_of_one item_rows (λ (p : ProposalRow). p.number) (λ (x : ProposalItemRow). x.proposal) k (λ p b h. numbered k p.number b h 0 (items_of p.named))

-- a proposal by its head and what it names
abbrev pub joined : ProposalHead → Imported → ProposalRow
joined h named = record { number = h.number; officer = h.officer; kind = h.kind; named = named; state = h.state }

pub read_none : (k : ℕ) (t : Tables) → map head_of (filter (λ p. k == p.number) t.proposals) ≡ [] → IsRead k None t
read_none k t none stamped = none_mapped head_of (filter (λ p. k == p.number) t.proposals) none

pub read_one : (k : ℕ) (t : Tables) (h : ProposalHead) (named : Imported) (rows : List ProposalItemRow)
    → map head_of (filter (λ p. k == p.number) t.proposals) ≡ h ∷ [] → IsPermutation (filter (λ r. k == r.proposal) (flat_map item_rows t.proposals)) rows
    → rows ≡ items_from k 0 (items_of named) → IsStampOf h.stamp named.stamp → named.passed ≡ h.passed → IsRead k (Some (joined h named)) t
read_one k t h named rows heads items compared stamp passed stamped =
    let p : ProposalRow → Bool = λ q. k == q.number in
    let one = one_mapped head_of (filter p t.proposals) h heads in
    let row = one.it in
    let moved : IsPermutation (items_from row.number 0 (items_of row.named)) (items_from k 0 (items_of named)) =
    subst (λ l. IsPermutation (item_rows row) l) compared (subst (λ l. IsPermutation l rows) (items_of_one k t.proposals row one.alone) items) in
    let all : items_of named ≡ items_of row.named = same_items row.number k (items_of row.named) (items_of named) moved in
    let has_stamp : IsStamped row = All-head IsStamped row [] (subst (All IsStamped) one.alone (All-filter p IsStamped t.proposals stamped)) in
    let its_stamp : named.stamp ≡ row.named.stamp = same_stamp h.stamp named.stamp row.named.stamp stamp (ap (λ (x : ProposalHead). x.stamp) one.is) has_stamp in
    let same : named ≡ row.named = same_named named row.named its_stamp (passed ∙ sym (ap (λ (x : ProposalHead). x.passed) one.is)) all in
    one.alone ∙ ap (λ q. q ∷ []) (ap (λ n. record row { named = n }) (sym same) ∙ ap (λ x. joined x named) one.is)
