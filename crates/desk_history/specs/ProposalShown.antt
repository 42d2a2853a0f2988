-- One proposal as it is shown, with all that it names.
use Rattle.std.specs.Prelude.{◌≡◌, ℕ, ◌+◌, IsTrue, ◌∷◌, length, Option, Some, option_map, ok_or, Result, Ok, Err, is_some}
use Rattle.base.specs.declared.refusal.Refusal.{Refusal}
use Rattle.base.specs.declared.refusal.Refusal.TheVariants as refusals
use Rattle.desk_types.specs.Callers.{caller_name}
use Rattle.desk_types.specs.declared.caller.Caller.{Caller}
use Rattle.desk_types.specs.declared.command.Person.{Person}
use Rattle.desk_types.specs.declared.proposal.ProposalState.TheVariants as states
use Rattle.desk_history.specs.Calls.{GoesOnFrom, History, Item}
use Rattle.desk_history.specs.Proposals.{Named, proposal, proposal_state, proposals, proposed_by}
use Rattle.desk_history.specs.Runs.{is_legal}
use Rattle.desk_history.specs.Shown.{officer, reader}
use Rattle.desk_history.specs.Tables.{proposal_row}
use Rattle.desk_history.specs.declared.rows.ProposalRow.{ProposalRow}

-- a proposal with its state: its number, officer and kind, and what it names: the stamp, the count
-- of entries skipped, and the digests, certificates and components in the command's order
abbrev pub proposal_shown : History → ℕ → Option ProposalRow
proposal_shown cs k = option_map (proposal_row (proposal_state cs k)) (proposal cs k)

-- the proposal, for an officer
abbrev pub shown_to_officer : Option ProposalRow → Result Person Refusal → Result ProposalRow Refusal
shown_to_officer shown (Ok p) = ok_or shown refusals.NoSuchProposal
shown_to_officer shown (Err refusal) = Err refusal

-- the answer to a caller about one proposal. own: only officers are shown it
abbrev pub proposal_for : History → Caller → ℕ → Result ProposalRow Refusal
proposal_for cs c k = shown_to_officer (proposal_shown cs k) (officer (reader cs c))

-- ---- laws

-- a proposal is shown, open and with all that its call names, from that call on
abbrev pub ShownAsProposed : Type 0
ShownAsProposed =
    (cs : History) (i : Item) (named : Named) → IsTrue (is_legal (i ∷ cs)) → proposed_by i ≡ Some named
    → proposal_shown (i ∷ cs) (length (proposals cs) + 1)
    ≡ Some (record { number = length (proposals cs) + 1; officer = caller_name i.call.caller; kind = named.kind; named = named.entries; state = states.Open })

-- no later call changes a proposal: whatever is shown later differs in its state alone
abbrev pub ProposalsStay : Type 0
ProposalsStay =
    (earlier later : History) (k : ℕ) → GoesOnFrom earlier later → IsTrue (is_some (proposal earlier k))
    → proposal later k ≡ proposal earlier k
