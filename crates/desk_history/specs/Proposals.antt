-- Proposals of revocations and of raised generations. own: one officer proposes, and another
-- confirms.
use Rattle.std.specs.Prelude.{ℕ, ◌+◌, ◌==◌, Bool, List, [], ◌∷◌, length, filter_map, find, Option, Some, None}
use Rattle.std.specs.Option.{option_map_or}
use Rattle.desk_types.specs.Callers.{caller_name}
use Rattle.desk_types.specs.Imports.{Imported, no_entries}
use Rattle.desk_types.specs.declared.command.Call.{Call}
use Rattle.desk_types.specs.declared.command.Command.{Command}
use Rattle.desk_types.specs.declared.command.Command.TheVariants as command
use Rattle.desk_types.specs.declared.proposal.ProposalKind.{ProposalKind}
use Rattle.desk_types.specs.declared.proposal.ProposalKind.TheVariants as kinds
use Rattle.desk_types.specs.declared.proposal.ProposalOutcome.{ProposalOutcome}
use Rattle.desk_types.specs.declared.proposal.ProposalState.{ProposalState}
use Rattle.desk_types.specs.declared.proposal.ProposalState.TheVariants as states
use Rattle.desk_history.specs.Calls.{First, History, Item, Second}

-- the entries that a command names to be revoked or raised, written as an import, and their kind
pub record Named : Type 0 where
  pub kind : ProposalKind
  pub entries : Imported

-- the entries that a command names to be revoked or raised: four commands name some
abbrev pub named_by : Command → Option Named
named_by (command.RevokeDigest digest) =
    Some (record { kind = kinds.Digest; entries = record no_entries { digests = digest ∷ [] } })
named_by (command.RevokeCertificate digest) =
    Some (record { kind = kinds.Certificate; entries = record no_entries { certificates = digest ∷ [] } })
named_by (command.RaiseLevel r) =
    Some (record { kind = kinds.Level; entries = record no_entries { stamp = Some r.stamp; components = r.component ∷ [] } })
named_by (command.ImportRevocations i) = Some (record { kind = kinds.Import; entries = i })
named_by (command.AddPerson _) = None
named_by (command.Submit _) = None
named_by (command.Review _) = None
named_by (command.Withdraw _) = None
named_by (command.Return _) = None
named_by (command.ListCertificate _) = None
named_by (command.ListDigest _) = None
named_by (command.Unlist _) = None
named_by (command.Confirm _) = None
named_by (command.Drop _) = None
named_by (command.Explain _) = None

-- ---- proposals

-- a command that an officer proposed, and the entries that it names
pub record Proposal : Type 0 where
  pub number : ℕ
  pub officer : List ℕ
  pub command : Command
  pub named : Named

-- the entries that a call proposes. own: by the second rules all that it names, by the first none
abbrev pub proposed_by : Item → Option Named
proposed_by i = elim i.rules [ First ↦ None | Second ↦ named_by i.call.command ]

-- the proposals, with the next one first if the call proposes something
abbrev pub with_next : List Proposal → Call → Option Named → List Proposal
with_next ps c None = ps
with_next ps c (Some named) =
    record { number = length ps + 1; officer = caller_name c.caller; command = c.command; named = named } ∷ ps

-- the proposals, the newest first; the k-th proposal has the number k
abbrev pub proposals : History → List Proposal
proposals [] = []
proposals (i ∷ cs) = with_next (proposals cs) i.call (proposed_by i)

-- the proposal has this number
abbrev pub is_proposal : ℕ → Proposal → Bool
is_proposal k p = k == p.number

-- the proposal of this number
abbrev pub proposal : History → ℕ → Option Proposal
proposal cs k = find (is_proposal k) (proposals cs)

-- ---- outcomes

-- the outcome that a command gives to a proposal: a Confirm confirms the one that it names, a Drop
-- drops it
abbrev pub outcome_by : Command → Option ProposalOutcome
outcome_by (command.Confirm k) = Some (record { proposal = k; state = states.Confirmed })
outcome_by (command.Drop k) = Some (record { proposal = k; state = states.Dropped })
outcome_by (command.AddPerson _) = None
outcome_by (command.Submit _) = None
outcome_by (command.Review _) = None
outcome_by (command.Withdraw _) = None
outcome_by (command.Return _) = None
outcome_by (command.ListCertificate _) = None
outcome_by (command.ListDigest _) = None
outcome_by (command.Unlist _) = None
outcome_by (command.RevokeDigest _) = None
outcome_by (command.RevokeCertificate _) = None
outcome_by (command.RaiseLevel _) = None
outcome_by (command.ImportRevocations _) = None
outcome_by (command.Explain _) = None

-- the outcomes of the closed proposals, the newest first
abbrev pub outcomes : History → List ProposalOutcome
outcomes cs = filter_map (λ i. outcome_by i.call.command) cs

-- the state of a proposal: open, until a call closes it
abbrev pub proposal_state : History → ℕ → ProposalState
proposal_state cs k = option_map_or (λ o. o.state) (find (λ o. k == o.proposal) (outcomes cs)) states.Open
