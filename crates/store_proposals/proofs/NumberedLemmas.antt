-- Proposals read by their numbers, one after another.
use Rattle.std.proofs.Common.{◌≡◌, ℕ, ◌+◌, ◌==◌, Bool, true, false, cond, List, [], ◌∷◌, ◌++◌, map, filter, length, Option, Some, None, refl, sym, ap, ap₂, subst, ◌∙◌, append-nil, length-append, arith}
use Rattle.std.specs.List.{AllByRecursion, AllZip}
use mir.Val.{bool_byte}
use Rattle.std.proofs.lemmas.List.Elements.{filter-append}
use Rattle.desk_types.specs.declared.proposal.Proposal.{Proposal}
use Rattle.desk_history.specs.Tables.{Tables}
use Rattle.desk_history.specs.declared.rows.ProposalRow.{ProposalRow}
use Rattle.store_reads.specs.ProposalColumns.{head_of}
use Rattle.store_reads.specs.Reads.{listed}
use Rattle.store_reads.specs.declared.proposal_head.ProposalHead.{ProposalHead}
use Rattle.store_proposals.specs.Listing.{AreListable, IsShown, IsTold}
use Rattle.store_proposals.specs.Numbered.{AreShownOf, ListsAfter, TakesNumbered, heads_at, picks_head}
use Rattle.store_proposals.proofs.HeadLemmas.{IsHeadOf, all_heads, one_shown}
use Rattle.store_proposals.proofs.PlaceLemmas.{numbered_more, zip_append}

-- ---- the heads of the proposals of a number

heads_of_some : (ps rs : List ProposalRow) (p : ProposalRow → Bool) → AllByRecursion (IsHeadOf ps) (map head_of rs) → AllByRecursion (IsHeadOf ps) (map head_of (filter p rs))
heads_of_some ps [] p all = tt
heads_of_some ps (r ∷ rs) p all = by (p r) (heads_of_some ps rs p all.1)
  where
    by : (b : Bool) → AllByRecursion (IsHeadOf ps) (map head_of (filter p rs)) → AllByRecursion (IsHeadOf ps) (map head_of (cond b (r ∷ filter p rs) (filter p rs)))
    by true rest = (all.0, rest)
    by false rest = rest

is_head : (t : Tables) (k : ℕ) (head : ProposalHead) → heads_at t k ≡ head ∷ [] → AreListable t.proposals → IsHeadOf t.proposals head
is_head t k head is can =
    (subst (AllByRecursion (IsHeadOf t.proposals)) is (heads_of_some t.proposals t.proposals (λ (p : ProposalRow). k == p.number) (all_heads t.proposals can))).0

picked : (officer : Option (List ℕ)) (head : ProposalHead) → picks_head officer head ≡ true → filter (picks_head officer) (head ∷ []) ≡ head ∷ []
picked officer head h = ap (λ b. cond b (head ∷ []) []) h

passed : (officer : Option (List ℕ)) (head : ProposalHead) → picks_head officer head ≡ false → filter (picks_head officer) (head ∷ []) ≡ []
passed officer head h = ap (λ b. cond b (head ∷ []) []) h

module _ (officer : Option (List ℕ)) (t : Tables) (k n : ℕ) (same : n ≡ k) (found : Option ProposalHead) (head : ProposalHead) (some : found ≡ Some head) where
  -- the result of the read of the head
  abbrev pub IsFound : Type 0
  IsFound = heads_at t n ≡ listed found

  only_head : IsFound → heads_at t k ≡ head ∷ []
  only_head e = subst (λ m. heads_at t m ≡ head ∷ []) same (e ∙ ap listed some)

  pub takes_none : (list : List Proposal) → picks_head officer head ≡ false → IsFound → TakesNumbered officer t k list list false
  takes_none list hidden e = record {
    head = head;
    is = only_head e;
    made = [];
    are = λ can. subst (λ hs. AllZip (IsShown t) hs []) (sym (passed officer head hidden)) tt;
    takes = sym (append-nil list);
    count = refl;
  }

  pub takes_one : (before after : List Proposal) (s : Proposal) → picks_head officer head ≡ true → IsFound → IsTold head s t → after ≡ before ++ s ∷ [] → TakesNumbered officer t k before after true
  takes_one before after s seen e told pushed = record {
    head = head;
    is = only_head e;
    made = s ∷ [];
    are = λ can. subst (λ hs. AllZip (IsShown t) hs (s ∷ [])) (sym (picked officer head seen)) (one_shown t head s (is_head t k head (only_head e) can) (told can.stamped), tt);
    takes = pushed;
    count = refl;
  }

-- ---- one more

module _ (officer : Option (List ℕ)) (t : Tables) where
  pub lists_none : (k : ℕ) → ListsAfter officer t k k 0 []
  lists_none k = record { heads = []; numbered = tt; reached = (let same : k + 0 ≡ k = omega arith in same); are = λ can. tt; count = refl }

  pub lists_more : (k n many : ℕ) (before after : List Proposal) (is_taken : Bool) → ListsAfter officer t k n many before → TakesNumbered officer t (n + 1) before after is_taken
      → ListsAfter officer t k (n + 1) (many + bool_byte is_taken) after
  lists_more k n many before after is_taken l it =
      let heads = l.heads ++ it.head ∷ [] in
      let long : length heads ≡ length l.heads + 1 = length-append l.heads (it.head ∷ []) in
      let reached = l.reached in
      let place : n + 1 ≡ k + 1 + length l.heads = omega (arith, reached) in
      record {
        heads = heads;
        numbered = numbered_more (heads_at t) (k + 1) l.heads it.head l.numbered (subst (λ m. heads_at t m ≡ it.head ∷ []) place it.is);
        reached = omega (arith, reached, long);
        are = λ can. subst (λ hs. AllZip (IsShown t) hs after) (sym (filter-append (picks_head officer) l.heads (it.head ∷ [])))
            (subst (AllZip (IsShown t) (filter (picks_head officer) l.heads ++ filter (picks_head officer) (it.head ∷ []))) (sym it.takes)
            (zip_append (IsShown t) (filter (picks_head officer) l.heads) (filter (picks_head officer) (it.head ∷ [])) before it.made (l.are can) (it.are can)));
        count = ap length it.takes ∙ length-append before it.made ∙ ap₂ ◌+◌ l.count it.count;
      }
