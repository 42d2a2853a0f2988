-- The kinds of a history's proposals, and what they name.
use Rattle.std.proofs.Common.{◌≡◌, ℕ, List, [], ◌∷◌, Option, Some, None, All, refl}
use Rattle.std.specs.Prelude.{IfSome}
use Rattle.std.proofs.lemmas.List.Elements.{All-cons, All-map, All-nil}
use Rattle.desk_types.specs.declared.command.Call.{Call}
use Rattle.desk_types.specs.declared.command.Command.{Command}
use Rattle.desk_types.specs.declared.command.Command.TheVariants as command
use Rattle.desk_history.specs.Calls.{First, History, Rules, Second, under}
use Rattle.desk_history.specs.Proposals.{Named, Proposal, named_by, proposal_state, proposals, proposed_by, with_next}
use Rattle.desk_history.specs.Tables.{proposal_row, tables}
use Rattle.store_proposals.specs.Listing.{NamesByKind, counts_by, counts_of}

-- the entries are those that the kind says
abbrev IsOfKind : Named → Type 0
IsOfKind n = IfSome (counts_by n.kind) (λ counts. counts_of n.entries ≡ counts)

named_of_kind : (given : Command) → IfSome (named_by given) IsOfKind
named_of_kind (command.RevokeDigest digest) = refl
named_of_kind (command.RevokeCertificate digest) = refl
named_of_kind (command.RaiseLevel r) = refl
named_of_kind (command.ImportRevocations i) = tt
named_of_kind _ = tt

proposed_of_kind : (c : Call) (rules : Rules) → IfSome (proposed_by (under rules c)) IsOfKind
proposed_of_kind c First = tt
proposed_of_kind c Second = named_of_kind c.command

next_of_kind : (ps : List Proposal) (c : Call) (named : Option Named) → IfSome named IsOfKind → All (λ (p : Proposal). IsOfKind p.named) ps → All (λ (p : Proposal). IsOfKind p.named) (with_next ps c named)
next_of_kind ps c None h all = all
next_of_kind ps c (Some n) h all = All-cons (λ (p : Proposal). IsOfKind p.named) _ ps h all

proposals_of_kind : (cs : History) → All (λ (p : Proposal). IsOfKind p.named) (proposals cs)
proposals_of_kind [] = All-nil (λ (p : Proposal). IsOfKind p.named)
proposals_of_kind (i ∷ cs) = next_of_kind (proposals cs) i.call (proposed_by i) (proposed_of_kind i.call i.rules) (proposals_of_kind cs)

pub rows_named : (owner : List ℕ) (cs : History) → All NamesByKind (tables owner cs).proposals
rows_named owner cs = All-map NamesByKind (λ (p : Proposal). proposal_row (proposal_state cs p.number) p) (proposals cs) (proposals_of_kind cs)
