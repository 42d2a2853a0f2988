-- The answers to a person who asks for proposals: all, those from a number on, and those that wait.
use Rattle.std.proofs.Common.{◌≡◌, ◌≢◌, ◌⊎◌, inl, inr, ℕ, ◌+◌, ◌-◌, ◌<◌, ◌≤◌, ◌==◌, pos, Bool, true, false, List, [], ◌∷◌, ◌++◌, map, filter, length, take, drop, min, Option, Some, None, Result, Ok, Err, refl, sym, ap, ap₂, subst, ◌∙◌, arith}
use Rattle.std.specs.Prelude.{reverse}
use Rattle.std.specs.Result.{result_map_both}
use Rattle.std.specs.List.{AllByRecursion, AllZip}
use Rattle.std.specs.List.Sorted.{IsPermutation}
use Rattle.std.specs.Ordering.{int_cmp, is_lt, ordering_then}
use Rattle.std.specs.declared.cmp.Ordering.{Ordering}
use Rattle.std.specs.declared.cmp.Ordering.TheVariants.{Less, Equal, Greater}
use Rattle.std.proofs.lemmas.Bool.Decides.{nat_tests}
use Rattle.std.proofs.lemmas.List.{length-drop, length-map, length-reverse, reverse-append, take-append-drop, take_all}
use Rattle.std.proofs.lemmas.List.Elements.{filter-append}
use Rattle.std.proofs.Math.ListN.{drop_of_length-le}
use Rattle.std.proofs.lemmas.List.Sorted.{Contains-permutation, IsPermutation-reverse, IsPermutation-sym, IsPermutation-trans}
use Rattle.sqlite.specs.declared.types.Value.TheVariants.{Int}
use Rattle.sqlite_trees.specs.Tree.{IsAscending}
use Rattle.sqlite_trees.proofs.ListLemmas.{all-filter, all-permutation, all_of, all_weaker, ascending-map, ascending_weaker, filter-map, filter_all, map-map}
use Rattle.sqlite_value.specs.Order.{value_cmp}
use Rattle.sqlite_value.proofs.OrderLemmas.{value_cmp-Int}
use Rattle.base.specs.declared.refusal.Refusal.{Refusal}
use Rattle.desk_types.specs.Callers.{caller_name}
use Rattle.desk_types.specs.declared.caller.Caller.{Caller}
use Rattle.desk_types.specs.declared.command.Call.{Call}
use Rattle.desk_types.specs.declared.command.Person.{Person}
use Rattle.desk_types.specs.declared.proposal.Proposal.{Proposal as ShownProposal}
use Rattle.desk_history.specs.Calls.{History}
use Rattle.desk_exports.specs.ListParts.{part_from, proposal_number, proposals_from}
use Rattle.desk_history.specs.Proposals.{Named, Proposal, proposal_state, proposals, proposed_by, with_next}
use Rattle.desk_history.specs.Shown.{IsGiven, proposals_for, shown_proposal}
use Rattle.desk_history.specs.Tables.{proposal_row, tables}
use Rattle.desk_exports.specs.Waiting.{awaits}
use Rattle.desk_history.specs.declared.rows.ProposalRow.{ProposalRow}
use Rattle.store_sql.specs.Queries.{by_keys}
use Rattle.store_schema.specs.Columns.{by_first}
use Rattle.store_schema.specs.Tables as schema
use Rattle.store_reads.specs.ProposalColumns.{head_columns, head_of}
use Rattle.store_reads.specs.Reads.{AreFound}
use Rattle.store_reads.specs.declared.proposal_head.ProposalHead.{ProposalHead}
use Rattle.store_reads.proofs.PartLemmas.{Ascends, one_order}
use Rattle.store_proposals.specs.Listing.{AreListable, AreListed, IsShown, shown_row}
use Rattle.store_proposals.specs.Numbered.{ListsUpTo, heads_at, picks_head}
use Rattle.store_proposals.proofs.PlaceLemmas as place
use Rattle.store_shown.proofs.ListingLemmas.{fewer}
use Rattle.store_shown.proofs.OrderLemmas.{Differ, IsOnly, all_only, differ_along, map-reverse, sorted_ascends, turned}

-- ---- numbers of proposals

lower_next : (n : ℕ) (ps : List Proposal) (c : Call) (named : Option Named) → (length ps < n → AllByRecursion (λ (p : Proposal). p.number < n) ps)
    → length (with_next ps c named) < n → AllByRecursion (λ (p : Proposal). p.number < n) (with_next ps c named)
lower_next n ps c None before h = before h
lower_next n ps c (Some named) before h = (omega (arith, h), before (omega (arith, h)))

lower : (cs : History) (n : ℕ) → length (proposals cs) < n → AllByRecursion (λ (p : Proposal). p.number < n) (proposals cs)
lower [] n h = tt
lower (i ∷ cs) n h = lower_next n (proposals cs) i.call (proposed_by i) (lower cs n) h

first_next : (ps : List Proposal) (c : Call) (named : Option Named) → ((n : ℕ) → length ps < n → AllByRecursion (λ (p : Proposal). p.number < n) ps)
    → IsAscending (λ (a b : Proposal). b.number < a.number) ps → IsAscending (λ (a b : Proposal). b.number < a.number) (with_next ps c named)
first_next ps c None above up = up
first_next ps c (Some named) above up = (above (length ps + 1) (omega arith), up)

abbrev proposal_no : Proposal → ℕ
proposal_no p = p.number

oldest_next : (ps : List Proposal) (c : Call) (named : Option Named) → place.HaveNumbers proposal_no 1 (reverse ps) → place.HaveNumbers proposal_no 1 (reverse (with_next ps c named))
oldest_next ps c None up = up
oldest_next ps c (Some named) up =
    let p : Proposal = record { number = length ps + 1; officer = caller_name c.caller; command = c.command; named = named } in
    let long = length-reverse ps in
    subst (place.HaveNumbers proposal_no 1) (sym (reverse-append (p ∷ []) ps)) (place.next_number proposal_no 1 (reverse ps) p up (omega (arith, long)))

oldest_first : (cs : History) → place.HaveNumbers proposal_no 1 (reverse (proposals cs))
oldest_first [] = tt
oldest_first (i ∷ cs) = oldest_next (proposals cs) i.call (proposed_by i) (oldest_first cs)

newest_first : (cs : History) → IsAscending (λ (a b : Proposal). b.number < a.number) (proposals cs)
newest_first [] = tt
newest_first (i ∷ cs) = first_next (proposals cs) i.call (proposed_by i) (lower cs) (newest_first cs)

-- ---- SQL's order of heads is that of their numbers

then_equal : (r : Ordering) → ordering_then r Equal ≡ r
then_equal Less = refl
then_equal Equal = refl
then_equal Greater = refl

heads_order : (x y : ProposalHead) → by_keys (by_first 1 schema.proposals) (head_columns x) (head_columns y) ≡ int_cmp (pos x.number) (pos y.number)
heads_order x y = then_equal (value_cmp (Int (pos x.number)) (Int (pos y.number))) ∙ value_cmp-Int (pos x.number) (pos y.number)

numbers_up : (m n : ℕ) → is_lt (int_cmp (pos n) (pos m)) ≡ false → m ≤ n
numbers_up m n h = grind (arith, nat_tests)

abbrev is_below : ProposalHead → ProposalHead → Bool
is_below x y = is_lt (by_keys (by_first 1 schema.proposals) (head_columns x) (head_columns y))

heads_up : (x y : ProposalHead) → is_below y x ≡ false → x.number ≤ y.number
heads_up x y h = numbers_up x.number y.number (sym (ap is_lt (heads_order y x)) ∙ h)

-- ---- heads, and what is shown of them

module _ (owner : List ℕ) (cs : History) where
  abbrev row : Proposal → ProposalRow
  row p = proposal_row (proposal_state cs p.number) p

  abbrev head : Proposal → ProposalHead
  head p = head_of (row p)

  abbrev number : ProposalHead → ℕ
  number h = h.number

  abbrev IsAlone : Proposal → Type 0
  IsAlone p = IsOnly (λ (q : Proposal). q.number) (proposals cs) p

  heads_are : (heads : List ProposalHead) → AreFound head_columns schema.proposals 1 (λ h. true) (map head_of (tables owner cs).proposals) heads → heads ≡ map head (reverse (proposals cs))
  heads_are heads found =
      let ps = proposals cs in
      let newest : List ProposalHead = map head ps in
      let oldest : List ProposalHead = map head (reverse ps) in
      let every = filter_all (λ (h : ProposalHead). true) (map head_of (map row ps)) (all_of (λ (h : ProposalHead). true ≡ true) (λ h. refl) (map head_of (map row ps))) in
      let given : IsPermutation newest heads = subst (λ l. IsPermutation l heads) (every ∙ map-map head_of row ps) found.all in
      let about : IsPermutation newest oldest = subst (IsPermutation newest) (sym (map-reverse head ps)) (IsPermutation-reverse newest) in
      let moved : IsPermutation heads oldest = IsPermutation-trans heads newest oldest (IsPermutation-sym newest heads given) about in
      let falls : IsAscending (λ (a b : ProposalHead). b.number < a.number) newest = ascending-map (λ (a b : ProposalHead). b.number < a.number) head ps (newest_first cs) in
      let rises : Ascends number oldest =
      ascending-map (λ (a b : ProposalHead). a.number < b.number) head (reverse ps) (turned (λ (a b : Proposal). a.number < b.number) ps (newest_first cs)) in
      let apart : Differ number newest =
      ascending_weaker (λ (a b : ProposalHead). b.number < a.number) (λ (a b : ProposalHead). a.number ≢ b.number) (λ a b h e. absurd (omega (arith, h, e))) newest falls in
      let up : Ascends number heads = sorted_ascends number is_below heads_up heads found.sorted (differ_along number newest heads given apart) in
      one_order number heads oldest up rises
      (λ d h. Contains-permutation heads oldest d moved h)
      (λ d h. Contains-permutation oldest heads d (IsPermutation-sym heads oldest moved) h)

  one_shown : (p : Proposal) → IsAlone p → (q : ProposalRow) (s : ShownProposal) → filter (λ (r : ProposalRow). p.number == r.number) (tables owner cs).proposals ≡ q ∷ [] → s ≡ shown_row q
      → s ≡ shown_proposal cs p
  one_shown p alone q s one is =
      let its : row p ∷ [] ≡ q ∷ [] = sym (filter-map (λ (r : ProposalRow). p.number == r.number) row (proposals cs) ∙ ap (map row) alone) ∙ one in
      let same : row p ≡ q = cc in
      is ∙ ap shown_row (sym same)

  each_shown : (ps : List Proposal) → AllByRecursion IsAlone ps → (given : List ShownProposal) → AllZip (IsShown (tables owner cs)) (map head ps) given → given ≡ map (shown_proposal cs) ps
  each_shown [] alone [] z = refl
  each_shown [] alone (s ∷ given) z = absurd z
  each_shown (p ∷ ps) alone [] z = absurd z
  each_shown (p ∷ ps) alone (s ∷ given) z = ap₂ ◌∷◌ (one_shown p alone.0 z.0.0 s z.0.1 z.0.2) (each_shown ps alone.1 given z.1)

  each_alone : AllByRecursion IsAlone (reverse (proposals cs))
  each_alone = all-permutation IsAlone (proposals cs) (reverse (proposals cs)) (IsPermutation-reverse (proposals cs)) (all_only (λ (p : Proposal). p.number) (proposals cs) (newest_first cs))

  pub are_shown : AreListable (tables owner cs).proposals → (given : List ShownProposal) → AreListed given (tables owner cs) → given ≡ map (shown_proposal cs) (reverse (proposals cs))
  are_shown can given it = each_shown (reverse (proposals cs)) each_alone given (subst (λ l. AllZip (IsShown (tables owner cs)) l given) (heads_are it.0 it.1) (it.2 can))

  -- ---- proposals read by their numbers

  abbrev at : ℕ → List ProposalHead
  at k = heads_at (tables owner cs) k

  head_alone : (p : Proposal) → IsAlone p → place.IsAt proposal_no head at p
  head_alone p only = ap (map head_of) (filter-map (λ (r : ProposalRow). p.number == r.number) row (proposals cs) ∙ ap (map row) only)

  module _ (officer : Option (List ℕ)) where
    abbrev picked : Proposal → Bool
    picked p = picks_head officer (head p)

    -- the list shows the first of those that are picked after the first k
    pub after_shown : AreListable (tables owner cs).proposals → (k last most : ℕ) → last ≡ length (tables owner cs).proposals → (given : List ShownProposal)
        → ListsUpTo officer (tables owner cs) k last most given → given ≡ map (shown_proposal cs) (take most (filter picked (drop k (reverse (proposals cs)))))
    after_shown can k last most count given it =
        let l = it.lists in
        let oldest = reverse (proposals cs) in
        let m = length l.heads in
        let rest = drop k oldest in
        let part = take m rest in
        let reached = l.reached in
        let within = it.within in
        let all : length (map row (proposals cs)) ≡ length (proposals cs) = length-map (proposals cs) row in
        let long : length oldest ≡ last = length-reverse (proposals cs) ∙ sym all ∙ sym count in
        let left : length rest ≡ length oldest - k = length-drop k oldest in
        let few : m ≤ length rest = omega (arith, reached, within, long, left) in
        let up : place.HaveNumbers proposal_no (k + 1) rest =
        subst (λ n. place.HaveNumbers proposal_no n rest) (let next : 1 + k ≡ k + 1 = omega arith in next) (place.numbers_after proposal_no k 1 oldest (oldest_first cs)) in
        let only : AllByRecursion IsAlone rest = place.all_drop IsAlone k oldest each_alone in
        let heads : l.heads ≡ map head part = place.rows_are proposal_no head at (k + 1) rest up (all_weaker IsAlone (place.IsAt proposal_no head at) head_alone rest only) l.heads l.numbered few in
        let made : AllZip (IsShown (tables owner cs)) (map head (filter picked part)) given =
        subst (λ hs. AllZip (IsShown (tables owner cs)) hs given) (ap (filter (picks_head officer)) heads ∙ filter-map (picks_head officer) head part) (l.are can) in
        let shown : given ≡ map (shown_proposal cs) (filter picked part) = each_shown (filter picked part) (all-filter IsAlone picked part (place.all_take IsAlone m rest only)) given made in
        let many : length (filter picked part) ≡ it.many = sym (length-map (filter picked part) (shown_proposal cs)) ∙ sym (ap length shown) ∙ l.count in
        let most_of : length (filter picked part) ≤ most = (let bound = it.few in omega (arith, many, bound)) in
        let ended : (length (filter picked part) ≡ most) ⊎ (filter picked (drop m rest) ≡ []) = elim it.ends [
          | inl full ↦ inl (many ∙ full)
          | inr done ↦ inr (ap (filter picked) (let low : length rest ≤ m = omega (arith, reached, done, long, left) in drop_of_length-le rest low))
        ] in
        let parts : filter picked rest ≡ filter picked part ++ filter picked (drop m rest) = ap (filter picked) (sym (take-append-drop m rest)) ∙ filter-append picked part (drop m rest) in
        shown ∙ ap (map (shown_proposal cs)) (sym (ap (take most) parts ∙ place.first_of most (filter picked part) (filter picked (drop m rest)) most_of ended))

  -- those from a number on
  pub from_shown : AreListable (tables owner cs).proposals → (n last : ℕ) → last ≡ length (tables owner cs).proposals → (given : List ShownProposal)
      → ListsUpTo None (tables owner cs) (min (n - 1) last) last 1000 given → given ≡ map (shown_proposal cs) (part_from proposal_number n (reverse (proposals cs)))
  from_shown can n last count given it =
      let oldest = reverse (proposals cs) in
      let all : length (map row (proposals cs)) ≡ length (proposals cs) = length-map (proposals cs) row in
      let long : length oldest ≡ last = length-reverse (proposals cs) ∙ sym all ∙ sym count in
      let same : drop (min (n - 1) last) oldest ≡ drop (n - 1) oldest = place.clamped (n - 1) last oldest (omega (arith, long)) in
      let every : filter (λ (p : Proposal). true) (drop (min (n - 1) last) oldest) ≡ drop (min (n - 1) last) oldest =
      filter_all (λ (p : Proposal). true) (drop (min (n - 1) last) oldest) (all_of (λ (p : Proposal). true ≡ true) (λ p. refl) (drop (min (n - 1) last) oldest)) in
      after_shown None can (min (n - 1) last) last 1000 count given it
      ∙ ap (λ ps. map (shown_proposal cs) (take 1000 ps)) (every ∙ same ∙ sym (place.from_is proposal_no n 1 oldest (oldest_first cs)))

  -- those that wait for an officer
  pub waiting_shown : AreListable (tables owner cs).proposals → (p : Person) (last : ℕ) → last ≡ length (tables owner cs).proposals → (given : List ShownProposal)
      → ListsUpTo (Some p.name) (tables owner cs) 0 last last given → given ≡ map (shown_proposal cs) (filter (awaits cs p) (reverse (proposals cs)))
  waiting_shown can p last count given it =
      let oldest = reverse (proposals cs) in
      let all : length (map row (proposals cs)) ≡ length (proposals cs) = length-map (proposals cs) row in
      let long : length oldest ≡ last = length-reverse (proposals cs) ∙ sym all ∙ sym count in
      let few = fewer (awaits cs p) oldest in
      after_shown (Some p.name) can 0 last last count given it ∙ ap (map (shown_proposal cs)) (take_all last (filter (awaits cs p) oldest) (omega (arith, few, long)))

-- ---- the answer that is due about a part

module _ (cs : History) (n : ℕ) where
  refused_of : {V : Type 0} (all : Result (List Proposal) Refusal) (r : Refusal) (shows : List Proposal → V → Type 0) → IsGiven all (Err r) shows
      → IsGiven (result_map_both (part_from proposal_number n) (λ (e : Refusal). e) all) (Err r) shows
  refused_of (Ok ps) r shows h = absurd h
  refused_of (Err e) r shows h = h

  given_of : {V : Type 0} (all : Result (List Proposal) Refusal) (shows : List Proposal → V → Type 0) (v : V) → IsGiven all (Ok v) (λ ps w. shows (part_from proposal_number n ps) w)
      → IsGiven (result_map_both (part_from proposal_number n) (λ (e : Refusal). e) all) (Ok v) shows
  given_of (Ok ps) shows v h = h
  given_of (Err e) shows v h = absurd h

  pub part_refused : {V : Type 0} (c : Caller) (r : Refusal) (shows : List Proposal → V → Type 0) → IsGiven (proposals_for cs c) (Err r) shows → IsGiven (proposals_from cs c n) (Err r) shows
  part_refused c r shows h = refused_of (proposals_for cs c) r shows h

  pub part_given : {V : Type 0} (c : Caller) (shows : List Proposal → V → Type 0) (v : V) → IsGiven (proposals_for cs c) (Ok v) (λ ps w. shows (part_from proposal_number n ps) w)
      → IsGiven (proposals_from cs c n) (Ok v) shows
  part_given c shows v h = given_of (proposals_for cs c) shows v h
