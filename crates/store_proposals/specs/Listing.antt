-- All proposals, each with the counts of its items.
use Rattle.std.specs.Prelude.{◌≡◌, ◌==◌, ℕ, IsTrue, List, [], ◌∷◌, filter, length, map, true, Option, Some, None, IfSome, MatchOption}
use Rattle.std.specs.List.{All, AllZip}
use Rattle.desk_types.specs.Imports.{Imported}
use Rattle.desk_types.specs.declared.proposal.Proposal.{Proposal}
use Rattle.desk_types.specs.declared.proposal.ProposalKind.{ProposalKind}
use Rattle.desk_types.specs.declared.proposal.ProposalKind.TheVariants as kinds
use Rattle.desk_history.specs.Calls.{are_apart}
use Rattle.desk_history.specs.declared.rows.ProposalRow.{ProposalRow}
use Rattle.desk_history.specs.Tables.{Tables}
use Rattle.store_schema.specs.Tables as tables
use Rattle.store_reads.specs.ProposalColumns.{head_columns, head_of}
use Rattle.store_reads.specs.Reads.{AreFound}
use Rattle.store_reads.specs.declared.proposal_head.ProposalHead.{ProposalHead}
use Rattle.store_proposals.specs.Reading.{IsStamped}
use Rattle.store_proposals.specs.declared.listing.EntryCounts.{EntryCounts}

-- how many entries of each kind an import names, repeats included
abbrev pub counts_of : Imported → EntryCounts
counts_of i = record { digests = length i.digests; certificates = length i.certificates; components = length i.components }

-- the entries that a proposal of this kind names, where the kind tells: one, unless it is an import
abbrev pub counts_by : ProposalKind → Option EntryCounts
counts_by kinds.Digest = Some (record { digests = 1; certificates = 0; components = 0 })
counts_by kinds.Certificate = Some (record { digests = 0; certificates = 1; components = 0 })
counts_by kinds.Level = Some (record { digests = 0; certificates = 0; components = 1 })
counts_by kinds.Import = None

-- the proposal names what its kind says
abbrev pub NamesByKind : ProposalRow → Type 0
NamesByKind p = IfSome (counts_by p.kind) (λ counts. counts_of p.named ≡ counts)

-- What a listing relies on, and what holds of the tables of each history that a desk may have
-- (`proposals_are_listable`): no stamp is 0, no two proposals have the same number, and each names
-- what its kind says.
pub record AreListable (ps : List ProposalRow) : Type 0 where
  pub stamped : All IsStamped ps
  pub apart : IsTrue (are_apart (λ a b. a.number == b.number) ps)
  pub named : All NamesByKind ps

-- a proposal as it is shown: how many entries of each kind it names, repeats included
abbrev pub shown_row : ProposalRow → Proposal
shown_row p = record {
  number = p.number;
  officer = p.officer;
  state = p.state;
  digests = length p.named.digests;
  certificates = length p.named.certificates;
  components = length p.named.components;
}

-- one proposal has the head's number, and this is how it is shown
abbrev pub IsShown : Tables → ProposalHead → Proposal → Type 0
IsShown t head shown = (p : ProposalRow) × (filter (λ q. head.number == q.number) t.proposals ≡ p ∷ []) × (shown ≡ shown_row p)

-- the proposal of each of these heads is shown, in order
abbrev pub AreShown : List ProposalHead → List Proposal → Tables → Type 0
AreShown heads shown t = AreListable t.proposals → AllZip (IsShown t) heads shown

-- the heads of all proposals, by number, and the proposal that is shown for each
abbrev pub AreListed : List Proposal → Tables → Type 0
AreListed shown t = (heads : List ProposalHead) × AreFound head_columns tables.proposals 1 (λ h. true) (map head_of t.proposals) heads × AreShown heads shown t

-- ---- the steps; auditors needn't believe these words

-- the head with these counts, as it is shown
abbrev pub shown_by : ProposalHead → EntryCounts → Proposal
shown_by h counts = record {
  number = h.number;
  officer = h.officer;
  state = h.state;
  digests = counts.digests;
  certificates = counts.certificates;
  components = counts.components;
}

-- the proposal of this number is shown, if no stamp is 0
abbrev pub IsCounted : ℕ → Proposal → Tables → Type 0
IsCounted k shown t = All IsStamped t.proposals → (p : ProposalRow) × (filter (λ q. k == q.number) t.proposals ≡ p ∷ []) × (shown ≡ shown_row p)

-- the proposal is shown by its kind, where that tells, and by its items otherwise
abbrev pub IsToldOf : Tables → ProposalHead → Proposal → Type 0
IsToldOf t head shown = MatchOption (counts_by head.kind) (IsShown t head shown) (λ counts. shown ≡ shown_by head counts)

-- if no stamp is 0, the proposal of this head is shown so
abbrev pub IsTold : ProposalHead → Proposal → Tables → Type 0
IsTold head shown t = All IsStamped t.proposals → IsToldOf t head shown

-- if no stamp is 0, the proposal of each of these heads is shown so, in order
abbrev pub AreTold : List ProposalHead → List Proposal → Tables → Type 0
AreTold heads shown t = All IsStamped t.proposals → AllZip (IsToldOf t) heads shown
