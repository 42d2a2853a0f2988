-- The step from the heads of proposals to the proposals that are shown.
use Rattle.std.proofs.Common.{◌≡◌, ℕ, length, ◌==◌, ◌&&◌, ◌||◌, not, Bool, true, false, cond, List, [], ◌∷◌, ◌++◌, map, filter, Option, Some, None, All, refl, sym, ap, subst, ◌∙◌, arith}
use Rattle.std.specs.Prelude.{IfSome, IsTrue, MatchOption}
use Rattle.std.specs.List.{AllByRecursion, AllZip, list_any}
use Rattle.std.specs.List.Sorted.{IsPermutation}
use Rattle.std.proofs.lemmas.Bool.{and_parts, not-true}
use Rattle.std.proofs.lemmas.Bool.Decides.{nat_tests}
use Rattle.std.proofs.lemmas.List.Elements.{All-head, All-tail}
use Rattle.sqlite_trees.proofs.ListLemmas.{all-permutation, all_of, filter_all, filter_none}
use Rattle.desk_types.specs.declared.proposal.Proposal.{Proposal as ShownProposal}
use Rattle.desk_history.specs.Calls.{are_apart}
use Rattle.desk_history.specs.Tables.{Tables}
use Rattle.desk_history.specs.declared.rows.ProposalRow.{ProposalRow}
use Rattle.store_schema.specs.Tables as schema
use Rattle.store_reads.specs.ProposalColumns.{head_columns, head_of}
use Rattle.store_reads.specs.Reads.{AreFound}
use Rattle.store_reads.specs.declared.proposal_head.ProposalHead.{ProposalHead}
use Rattle.store_proposals.specs.Listing.{AreListable, IsShown, IsToldOf, NamesByKind, counts_by, counts_of, shown_by, shown_row}
use Rattle.store_proposals.specs.declared.listing.EntryCounts.{EntryCounts}

-- ---- where numbers differ, each proposal is the only one of its number

neither : (a b : Bool) → (a || b) ≡ false → (a ≡ false) × (b ≡ false)
neither true b h = absurd cc
neither false b h = (refl, h)

other_way : (m n : ℕ) → (m == n) ≡ false → (n == m) ≡ false
other_way m n h = grind (arith, nat_tests)

own_number : (n : ℕ) → (n == n) ≡ true
own_number n = grind (arith, nat_tests)

none_equal : (n : ℕ) (ps : List ProposalRow) → list_any (λ (q : ProposalRow). n == q.number) ps ≡ false → AllByRecursion (λ (q : ProposalRow). (n == q.number) ≡ false) ps
none_equal n [] h = tt
none_equal n (p ∷ ps) h =
    let both = neither (n == p.number) (list_any (λ (q : ProposalRow). n == q.number) ps) h in
    (both.0, none_equal n ps both.1)

-- the proposal is the only one of its number among these
abbrev IsAlone : List ProposalRow → ProposalRow → Type 0
IsAlone ps p = filter (λ (q : ProposalRow). p.number == q.number) ps ≡ p ∷ []

still_alone : (p : ProposalRow) (ps qs : List ProposalRow) → AllByRecursion (λ (q : ProposalRow). (p.number == q.number) ≡ false) qs → AllByRecursion (IsAlone ps) qs → AllByRecursion (IsAlone (p ∷ ps)) qs
still_alone p ps [] others all = tt
still_alone p ps (q ∷ qs) others all = (
  ap (λ b. cond b (p ∷ filter (λ (r : ProposalRow). q.number == r.number) ps) (filter (λ (r : ProposalRow). q.number == r.number) ps)) (other_way p.number q.number others.0) ∙ all.0,
  still_alone p ps qs others.1 all.1,
)

all_alone : (ps : List ProposalRow) → are_apart (λ (a b : ProposalRow). a.number == b.number) ps ≡ true → AllByRecursion (IsAlone ps) ps
all_alone [] h = tt
all_alone (p ∷ ps) h =
    let among = list_any (λ (b : ProposalRow). p.number == b.number) ps in
    let both : (not among ≡ true) × (are_apart (λ (a b : ProposalRow). a.number == b.number) ps ≡ true) = and_parts (not among) (are_apart (λ (a b : ProposalRow). a.number == b.number) ps) h in
    let others = none_equal p.number ps (not-true among both.0) in (
      ap (λ b. cond b (p ∷ filter (λ (q : ProposalRow). p.number == q.number) ps) (filter (λ (q : ProposalRow). p.number == q.number) ps)) (own_number p.number)
          ∙ ap (λ l. p ∷ l) (filter_none (λ (q : ProposalRow). p.number == q.number) ps others),
      still_alone p ps ps others (all_alone ps both.1),
    )

-- ---- heads

-- the head is that of one of these proposals, the only one of its number, which names what its kind says
pub record IsHeadOf (ps : List ProposalRow) (h : ProposalHead) : Type 0 where
  pub row : ProposalRow
  pub alone : filter (λ (q : ProposalRow). h.number == q.number) ps ≡ row ∷ []
  pub is : head_of row ≡ h
  pub named : NamesByKind row

each_head : (ps qs : List ProposalRow) → AllByRecursion (IsAlone ps) qs → All NamesByKind qs → AllByRecursion (IsHeadOf ps) (map head_of qs)
each_head ps [] alone named = tt
each_head ps (q ∷ qs) alone named =
    (record { row = q; alone = alone.0; is = refl; named = All-head NamesByKind q qs named }, each_head ps qs alone.1 (All-tail NamesByKind q qs named))

-- each proposal of tables that can be listed
pub all_heads : (ps : List ProposalRow) → AreListable ps → AllByRecursion (IsHeadOf ps) (map head_of ps)
all_heads ps can = each_head ps ps (all_alone ps can.apart) can.named

heads_found : (ps : List ProposalRow) (heads : List ProposalHead) → AreListable ps → AreFound head_columns schema.proposals 1 (λ h. true) (map head_of ps) heads → AllByRecursion (IsHeadOf ps) heads
heads_found ps heads can found =
    let every = filter_all (λ (h : ProposalHead). true) (map head_of ps) (all_of (λ (h : ProposalHead). true ≡ true) (λ h. refl) (map head_of ps)) in
    all-permutation (IsHeadOf ps) (map head_of ps) heads (subst (λ l. IsPermutation l heads) every found.all) (all_heads ps can)

-- ---- what is shown of them

counts_are : (row : ProposalRow) (counts : EntryCounts) → counts_by row.kind ≡ Some counts → NamesByKind row → counts_of row.named ≡ counts
counts_are row counts e named = subst (λ o. IfSome o (λ some. counts_of row.named ≡ some)) e named

by_kind : (row : ProposalRow) (s : ShownProposal) (counts : EntryCounts) → counts_by row.kind ≡ Some counts → NamesByKind row → s ≡ shown_by (head_of row) counts → s ≡ shown_row row
by_kind row s counts e named is = is ∙ ap (shown_by (head_of row)) (sym (counts_are row counts e named))

pub one_shown : (t : Tables) (h : ProposalHead) (s : ShownProposal) → IsHeadOf t.proposals h → IsToldOf t h s → IsShown t h s
one_shown t h s it told = by (counts_by h.kind) refl told
  where
    by : (o : Option EntryCounts) → counts_by h.kind ≡ o → MatchOption o (IsShown t h s) (λ counts. s ≡ shown_by h counts) → IsShown t h s
    by None e shown = shown
    by (Some counts) e is = (
      it.row,
      it.alone,
      by_kind it.row s counts (ap (λ (x : ProposalHead). counts_by x.kind) it.is ∙ e) it.named (is ∙ ap (λ x. shown_by x counts) (sym it.is)),
    )

each_shown : (t : Tables) (heads : List ProposalHead) (shown : List ShownProposal) → AllByRecursion (IsHeadOf t.proposals) heads → AllZip (IsToldOf t) heads shown → AllZip (IsShown t) heads shown
each_shown t [] [] its told = tt
each_shown t [] (s ∷ shown) its told = absurd told
each_shown t (h ∷ heads) [] its told = absurd told
each_shown t (h ∷ heads) (s ∷ shown) its told = (one_shown t h s its.0 told.0, each_shown t heads shown its.1 told.1)

pub all_shown : (t : Tables) (heads : List ProposalHead) (shown : List ShownProposal) → AreFound head_columns schema.proposals 1 (λ h. true) (map head_of t.proposals) heads → AreListable t.proposals
    → AllZip (IsToldOf t) heads shown → AllZip (IsShown t) heads shown
all_shown t heads shown found can told = each_shown t heads shown (heads_found t.proposals heads can found) told

-- ---- one proposal more

pub told_more : (t : Tables) (heads : List ProposalHead) (shown : List ShownProposal) (h : ProposalHead) (s : ShownProposal) → AllZip (IsToldOf t) heads shown → IsToldOf t h s
    → AllZip (IsToldOf t) (heads ++ h ∷ []) (shown ++ s ∷ [])
told_more t [] [] h s all one = (one, tt)
told_more t [] (x ∷ shown) h s all one = absurd all
told_more t (y ∷ heads) [] h s all one = absurd all
told_more t (y ∷ heads) (x ∷ shown) h s all one = (all.0, told_more t heads shown h s all.1 one)

pub nothing_left : {X : Type 0} (l : List X) → length l ≡ 0 → l ≡ []
nothing_left [] h = refl
nothing_left (x ∷ xs) h = absurd (omega arith)
