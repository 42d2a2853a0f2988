-- One proposal, as it is shown and as it stays.
use Rattle.std.proofs.Common.{◌≡◌, ℕ, ◌+◌, ◌<◌, true, false, [], ◌∷◌, ◌++◌, length, Option, Some, None, refl, sym, ◌∙◌, ap, subst, arith}
use Rattle.std.specs.Prelude.{◌==◌, if◌then◌else◌, find, is_some, option_map}
use Rattle.std.specs.List.{cons_option}
use Rattle.std.specs.Option.{option_map_or}
use Rattle.desk_types.specs.Callers.{caller_name}
use Rattle.desk_types.specs.declared.command.Call.{Call}
use Rattle.desk_types.specs.declared.command.Command.{Command}
use Rattle.desk_types.specs.declared.command.Command.TheVariants as command
use Rattle.desk_types.specs.declared.proposal.ProposalOutcome.{ProposalOutcome}
use Rattle.desk_types.specs.declared.proposal.ProposalState.TheVariants as states
use Rattle.desk_history.specs.Calls.{First, History, Rules, Second, item, under}
use Rattle.desk_history.specs.ProposalLaws.{ExplainsAlone}
use Rattle.desk_history.specs.ProposalShown.{ProposalsStay, ShownAsProposed}
use Rattle.desk_history.specs.Proposals.{Named, Proposal, is_proposal, named_by, outcome_by, outcomes, proposal, proposal_state, proposals, proposed_by, with_next}
use Rattle.desk_history.specs.Replies.{minute, minutes}
use Rattle.desk_history.specs.Tables.{proposal_row, tables}
use Rattle.desk_history.proofs.ClosingLemmas.{clash, missing, next_is_open, no_some}
use Rattle.desk_history.proofs.ListLemmas.{number_is, number_itself}
use Rattle.desk_history.proofs.RunLemmas.{newest}

-- a call that proposes something closes nothing
names_closes : (given : Command) (n : Named) → named_by given ≡ Some n → outcome_by given ≡ None
names_closes (command.Confirm k) n e = no_some n e
names_closes (command.Drop k) n e = no_some n e
names_closes _ n e = refl

proposes_closes : (c : Call) (rules : Rules) (n : Named) → proposed_by (under rules c) ≡ Some n → outcome_by c.command ≡ None
proposes_closes c First n e = no_some n e
proposes_closes c Second n e = names_closes c.command n e

pub shown_as_proposed : ShownAsProposed
shown_as_proposed cs i named legal e =
    let k : ℕ = length (proposals cs) + 1 in
    let p : Proposal = record { number = k; officer = caller_name i.call.caller; command = i.call.command; named = named } in
    let there : proposal (i ∷ cs) k ≡ Some p =
    ap (λ o. find (is_proposal k) (with_next (proposals cs) i.call o)) e ∙ ap (λ b. if b then Some p else proposal cs k) (number_itself k) in
    let is_open : proposal_state (i ∷ cs) k ≡ states.Open =
    ap (λ o. option_map_or (λ (o : ProposalOutcome). o.state) (find (λ (o : ProposalOutcome). k == o.proposal) (cons_option o (outcomes cs))) states.Open) (proposes_closes i.call i.rules named e)
    ∙ next_is_open cs (newest cs i legal).before in
    ap (λ s. option_map (proposal_row s) (proposal (i ∷ cs) k)) is_open ∙ ap (option_map (proposal_row states.Open)) there

-- a proposal that is there isn't the next one
still_there : (cs : History) (c : Call) (k : ℕ) (o : Option Named) → is_some (proposal cs k) ≡ true → find (is_proposal k) (with_next (proposals cs) c o) ≡ proposal cs k
still_there cs c k None some = refl
still_there cs c k (Some named) some =
    elim (k == length (proposals cs) + 1) as (λ b. (k == length (proposals cs) + 1) ≡ b
    → (if b then Some (record { number = length (proposals cs) + 1; officer = caller_name c.caller; command = c.command; named = named }) else proposal cs k) ≡ proposal cs k) [
      | true ↦ λ e. (let is : k ≡ length (proposals cs) + 1 = number_is k (length (proposals cs) + 1) e in
          let above : length (proposals cs) < k = omega arith in
          clash (sym some ∙ ap is_some (missing k cs above)))
      | false ↦ λ e. refl
    ] refl

stays : (cs new : History) (k : ℕ) → is_some (proposal cs k) ≡ true → proposal (new ++ cs) k ≡ proposal cs k
stays cs [] k some = refl
stays cs (i ∷ new) k some =
    let before : proposal (new ++ cs) k ≡ proposal cs k = stays cs new k some in
    still_there (new ++ cs) i.call k (proposed_by i) (ap is_some before ∙ some) ∙ before

pub proposals_stay : ProposalsStay
proposals_stay earlier later k more some = ap (λ (l : History). proposal l k) more.1 ∙ stays earlier more.0 k some

pub explains_alone : ExplainsAlone
explains_alone owner cs c e is =
    subst (λ (g : Command). tables owner (item (record c { command = g }) ∷ cs) ≡ record (tables owner cs) { calls = minute cs (record c { command = g }) ∷ minutes cs }) (sym is) refl
