-- Laws of proposals.
use Rattle.std.specs.Prelude.{◌≡◌, ◌⊎◌, ℕ, ◌+◌, ◌==◌, false, not, ◌&&◌, IsTrue, List, ◌++◌, ◌∷◌, length, bytes_eq, Some, is_some, option_map}
use Rattle.std.specs.List.{list_all}
use Rattle.desk_types.specs.Callers.{caller_name}
use Rattle.desk_types.specs.Imports.{Imported}
use Rattle.desk_types.specs.declared.command.Call.{Call}
use Rattle.desk_types.specs.declared.command.Command.TheVariants as command
use Rattle.desk_types.specs.declared.command.Explanation.{Explanation}
use Rattle.desk_types.specs.declared.proposal.ProposalOutcome.{ProposalOutcome}
use Rattle.desk_types.specs.declared.proposal.ProposalState.TheVariants as states
use Rattle.desk_history.specs.Calls.{First, History, Item, Second, are_apart, is_first, item}
use Rattle.desk_history.specs.Forces.{enforced_by}
use Rattle.desk_history.specs.Proposals.{named_by, outcome_by, outcomes, proposal_state, proposals}
use Rattle.desk_history.specs.Refusals.{may_give}
use Rattle.desk_history.specs.Replies.{minute, minutes}
use Rattle.desk_history.specs.Runs.{is_legal}
use Rattle.desk_history.specs.Tables.{tables}

-- the call names these entries, to be revoked or raised
abbrev pub Names : Item → Imported → Type 0
Names i entries = option_map (λ n. n.entries) (named_by i.call.command) ≡ Some entries

-- Two officers put these entries into force: after the calls `earlier` one officer proposed them by
-- a call that names them, judged by the second rules, and another one, of another name, confirms
-- that proposal now. The roles of both allow it.
pub record TwoOfficers (cs : History) (i : Item) (entries : Imported) : Type 0 where
  pub proposing : Item
  pub between : History
  pub earlier : History
  pub stands : cs ≡ between ++ proposing ∷ earlier
  pub second : proposing.rules ≡ Second
  pub names : Names proposing entries
  pub confirms : i.call.command ≡ command.Confirm (length (proposals earlier) + 1)
  pub proposer : IsTrue (may_give earlier proposing.call.caller proposing.call.command)
  pub confirmer : IsTrue (may_give cs i.call.caller i.call.command)
  pub differ : bytes_eq (caller_name proposing.call.caller) (caller_name i.call.caller) ≡ false

-- An accepted call names the entries that it puts into force itself, by the first rules, or two
-- officers put them into force, by the second.
abbrev pub TwoOfficersPut : Type 0
TwoOfficersPut =
    (cs : History) (i : Item) (entries : Imported) → IsTrue (is_legal (i ∷ cs)) → enforced_by cs i ≡ Some entries
    → ((i.rules ≡ First) × Names i entries) ⊎ ((i.rules ≡ Second) × TwoOfficers cs i entries)

-- the first rules accept no Confirm and no Drop
abbrev pub FirstCloseNone : Type 0
FirstCloseNone =
    (cs : History) → IsTrue (is_legal cs)
    → IsTrue (list_all (λ i. not (is_first i && is_some (outcome_by i.call.command))) cs)

-- a proposal is closed once: it is never confirmed twice, dropped twice, or both confirmed and
-- dropped
abbrev pub ClosedOnce : Type 0
ClosedOnce =
    (cs : History) → IsTrue (is_legal cs) → IsTrue (are_apart (λ (a b : ProposalOutcome). a.proposal == b.proposal) (outcomes cs))

-- no call closes a proposal before it is made
abbrev pub NextIsOpen : Type 0
NextIsOpen = (cs : History) → IsTrue (is_legal cs) → proposal_state cs (length (proposals cs) + 1) ≡ states.Open

-- an Explain changes no row: its minute joins the calls, and every other table stays
abbrev pub ExplainsAlone : Type 0
ExplainsAlone =
    (owner : List ℕ) (cs : History) (c : Call) (e : Explanation) → c.command ≡ command.Explain e
    → tables owner (item c ∷ cs) ≡ record (tables owner cs) { calls = minute cs c ∷ minutes cs }
