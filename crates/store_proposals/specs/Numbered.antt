-- Proposals read by their numbers, step by step. Auditors needn't believe these words.
use Rattle.std.specs.Prelude.{◌≡◌, ◌⊎◌, ◌≤◌, ℕ, ◌+◌, ◌==◌, ⊤, Bool, true, not, ◌&&◌, List, [], ◌∷◌, ◌++◌, filter, length, map, Option, Some, None, bytes_eq}
use Rattle.std.specs.List.{AllZip}
use mir.Val.{bool_byte}
use Rattle.desk_types.specs.declared.proposal.Proposal.{Proposal}
use Rattle.desk_history.specs.Refusals.{is_closed}
use Rattle.desk_history.specs.Tables.{Tables}
use Rattle.store_reads.specs.ProposalColumns.{head_of}
use Rattle.store_reads.specs.declared.proposal_head.ProposalHead.{ProposalHead}
use Rattle.store_proposals.specs.Listing.{AreListable, IsShown}

-- the proposal of this head waits for the officer of the name; any does without a name
abbrev pub picks_head : Option (List ℕ) → ProposalHead → Bool
picks_head None head = true
picks_head (Some name) head = not (is_closed head.state) && not (bytes_eq name head.officer)

-- the heads of the proposals of this number
abbrev pub heads_at : Tables → ℕ → List ProposalHead
heads_at t k = map head_of (filter (λ p. k == p.number) t.proposals)

-- these are what stands at the numbers from this one on, alone at each
abbrev pub AreNumbered : {R : Type 0} → (ℕ → List R) → ℕ → List R → Type 0
AreNumbered at k [] = ⊤
AreNumbered at k (row ∷ rows) = (at k ≡ row ∷ []) × AreNumbered at (k + 1) rows

module _ (officer : Option (List ℕ)) (t : Tables) where
  -- the proposals of those of the heads that are picked are shown, if the tables can be listed
  abbrev pub AreShownOf : List ProposalHead → List Proposal → Type 0
  AreShownOf heads shown = AreListable t.proposals → AllZip (IsShown t) (filter (picks_head officer) heads) shown

  -- the head of this number is read, the only one, and the list takes its proposal in if it is picked
  pub record TakesNumbered (k : ℕ) (before after : List Proposal) (is_taken : Bool) : Type 0 where
    pub head : ProposalHead
    pub is : heads_at t k ≡ head ∷ []
    pub made : List Proposal
    pub are : AreShownOf (head ∷ []) made
    pub takes : after ≡ before ++ made
    pub count : length made ≡ bool_byte is_taken

  -- The heads of the numbers after k up to n are read; the list holds so many proposals: those of
  -- the heads that are picked, in their order.
  pub record ListsAfter (k n many : ℕ) (shown : List Proposal) : Type 0 where
    pub heads : List ProposalHead
    pub numbered : AreNumbered (heads_at t) (k + 1) heads
    pub reached : k + length heads ≡ n
    pub are : AreShownOf heads shown
    pub count : length shown ≡ many

  -- the heads of the numbers after k are read so, up to the last or until the list holds so many
  pub record ListsUpTo (k last most : ℕ) (shown : List Proposal) : Type 0 where
    pub reached : ℕ
    pub many : ℕ
    pub lists : ListsAfter k reached many shown
    pub within : reached ≤ last
    pub few : many ≤ most
    pub ends : (many ≡ most) ⊎ (reached ≡ last)
