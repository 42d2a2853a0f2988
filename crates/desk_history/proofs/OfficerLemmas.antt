-- Two officers: who proposed a proposal, and who confirmed it.
use Rattle.std.proofs.Common.{◌≡◌, ◌⊎◌, ℕ, ◌+◌, Bool, true, false, List, [], ◌∷◌, ◌++◌, length, Option, Some, None, refl, sym, ◌∙◌, ap, subst, inl, inr}
use Rattle.std.specs.Prelude.{◌==◌, if◌then◌else◌, bytes_eq, find, option_map}
use Rattle.base.specs.declared.refusal.Refusal.{Refusal}
use Rattle.desk_types.specs.Callers.{caller_name}
use Rattle.desk_types.specs.Imports.{Imported}
use Rattle.desk_types.specs.declared.command.Call.{Call}
use Rattle.desk_types.specs.declared.command.Command.{Command}
use Rattle.desk_types.specs.declared.command.Command.TheVariants as command
use Rattle.desk_types.specs.declared.proposal.ProposalState.{ProposalState}
use Rattle.desk_types.specs.declared.proposal.ProposalState.TheVariants as states
use Rattle.desk_history.specs.Calls.{First, History, Item, Rules, Second, item, under}
use Rattle.desk_history.specs.Forces.{confirmed_by, enforced_by}
use Rattle.desk_history.specs.Proposals.{Named, Proposal, is_proposal, proposal, proposal_state, proposals, proposed_by, with_next}
use Rattle.desk_history.specs.ProposalLaws.{Names, TwoOfficers, TwoOfficersPut}
use Rattle.desk_history.specs.Refusals.{confirm_by, confirm_refusal, force_refusal, own_refusal}
use Rattle.desk_history.specs.Runs.{is_legal}
use Rattle.desk_history.proofs.ClosingLemmas.{no_some, some_same}
use Rattle.desk_history.proofs.ListLemmas.{number_is}
use Rattle.desk_history.proofs.ProposalLemmas.{entries_of}
use Rattle.desk_history.proofs.RefusalLemmas.{no_refusal}
use Rattle.desk_history.proofs.RunLemmas.{IsNewest, newest}

-- ---- a proposal that is found was proposed by a call

-- the call that proposed the proposal k
record Proposes (cs : History) (k : ℕ) (p : Proposal) : Type 0 where
  proposing : Item
  between : History
  earlier : History
  stands : cs ≡ between ++ proposing ∷ earlier
  proposes : proposed_by proposing ≡ Some p.named
  number : k ≡ length (proposals earlier) + 1
  officer : p.officer ≡ caller_name proposing.call.caller

and_before : (cs : History) (i : Item) (k : ℕ) (p : Proposal) → Proposes cs k p → Proposes (i ∷ cs) k p
and_before cs i k p h = record {
  proposing = h.proposing;
  between = i ∷ h.between;
  earlier = h.earlier;
  stands = ap (λ l. i ∷ l) h.stands;
  proposes = h.proposes;
  number = h.number;
  officer = h.officer;
}

abbrev next_one : List Proposal → Call → Named → Proposal
next_one ps c named = record { number = length ps + 1; officer = caller_name c.caller; command = c.command; named = named }

found_next : (cs : History) (i : Item) (k : ℕ) (p : Proposal) (o : Option Named) → proposed_by i ≡ o → (proposal cs k ≡ Some p → Proposes cs k p)
    → find (is_proposal k) (with_next (proposals cs) i.call o) ≡ Some p → Proposes (i ∷ cs) k p
found_next cs i k p None is before h = and_before cs i k p (before h)
found_next cs i k p (Some named) is before h =
    elim (k == length (proposals cs) + 1) as (λ b. (k == length (proposals cs) + 1) ≡ b → (if b then Some (next_one (proposals cs) i.call named) else proposal cs k) ≡ Some p → Proposes (i ∷ cs) k p) [
      | true ↦ λ e f. (let same : next_one (proposals cs) i.call named ≡ p = some_same (next_one (proposals cs) i.call named) p f in
          record {
            proposing = i;
            between = [];
            earlier = cs;
            stands = refl;
            proposes = is ∙ ap (λ (q : Proposal). Some q.named) same;
            number = number_is k (length (proposals cs) + 1) e;
            officer = ap (λ (q : Proposal). q.officer) (sym same);
          })
      | false ↦ λ e f. and_before cs i k p (before f)
    ] refl h

found : (cs : History) (k : ℕ) (p : Proposal) → proposal cs k ≡ Some p → Proposes cs k p
found [] k p h = no_some p h
found (i ∷ cs) k p h = found_next cs i k p (proposed_by i) refl (found cs k p) h

-- ---- two officers

legal_back : (between earlier : History) → is_legal (between ++ earlier) ≡ true → is_legal earlier ≡ true
legal_back [] earlier h = h
legal_back (i ∷ between) earlier h = legal_back between earlier (newest (between ++ earlier) i h).before

-- the entries of a proposal are those that its call names
proposed_names : (c : Call) (rules : Rules) (named : Named) → proposed_by (under rules c) ≡ Some named → Names (under rules c) named.entries
proposed_names c First named h = no_some named h
proposed_names c Second named h = ap entries_of h

-- a proposal that is confirmed isn't the caller's own
others : (cs : History) (o : Option Proposal) (state : ProposalState) (name : List ℕ) (p : Proposal) → o ≡ Some p → confirm_refusal cs o state name ≡ None → bytes_eq p.officer name ≡ false
others cs None state name p is h = no_some p is
others cs (Some q) state name p is h =
    ap (λ (r : Proposal). bytes_eq r.officer name) (sym (some_same q p is)) ∙ not_own state (bytes_eq q.officer name) (force_refusal cs q.command) h
  where
    not_own : (state : ProposalState) (own : Bool) (refused : Option Refusal) → confirm_by state own refused ≡ None → own ≡ false
    not_own states.Open false refused e = refl
    not_own states.Open true refused e = no_refusal e
    not_own states.Confirmed own refused e = no_refusal e
    not_own states.Dropped own refused e = no_refusal e

-- and by the second rules alone
proposed_second : (c : Call) (rules : Rules) (n : Named) → proposed_by (under rules c) ≡ Some n → rules ≡ Second
proposed_second c First n e = no_some n e
proposed_second c Second n e = refl

confirming : (cs : History) (c : Call) (k : ℕ) (entries : Imported) → c.command ≡ command.Confirm k → IsNewest cs (item c) → own_refusal cs (caller_name c.caller) (command.Confirm k) ≡ None
    → (o : Option Proposal) → proposal cs k ≡ o → option_map (λ (p : Proposal). p.named.entries) o ≡ Some entries → TwoOfficers cs (item c) entries
confirming cs c k entries is here own None at e = no_some entries e
confirming cs c k entries is here own (Some p) at e =
    let there = found cs k p at in
    let by = there.proposing in
    let before = newest there.earlier by (legal_back there.between (by ∷ there.earlier) (subst (λ l. is_legal l ≡ true) there.stands here.before)) in
    let entries_are : p.named.entries ≡ entries = some_same p.named.entries entries e in
    record {
      proposing = by;
      between = there.between;
      earlier = there.earlier;
      stands = there.stands;
      second = proposed_second by.call by.rules p.named there.proposes;
      names = proposed_names by.call by.rules p.named there.proposes ∙ ap Some entries_are;
      confirms = is ∙ ap command.Confirm there.number;
      proposer = before.new.allowed;
      confirmer = here.new.allowed;
      differ = ap (λ n. bytes_eq n (caller_name c.caller)) (sym there.officer) ∙ others cs (proposal cs k) (proposal_state cs k) (caller_name c.caller) p at own;
    }

second_puts : (cs : History) (c : Call) (given : Command) (entries : Imported) → c.command ≡ given → IsNewest cs (item c) → confirmed_by cs given ≡ Some entries → TwoOfficers cs (item c) entries
second_puts cs c (command.Confirm k) entries is here h =
    confirming cs c k entries is here (subst (λ g. own_refusal cs (caller_name c.caller) g ≡ None) is here.new.own) (proposal cs k) refl h
second_puts cs c _ entries is here h = no_some entries h

by_rules : (cs : History) (c : Call) (rules : Rules) (entries : Imported) → IsNewest cs (under rules c) → enforced_by cs (under rules c) ≡ Some entries
    → (let i : Item = under rules c in ((i.rules ≡ First) × Names i entries) ⊎ ((i.rules ≡ Second) × TwoOfficers cs i entries))
by_rules cs c First entries here h = inl (refl, h)
by_rules cs c Second entries here h = inr (refl, second_puts cs c c.command entries refl here h)

pub two_officers_put : TwoOfficersPut
two_officers_put cs i entries legal h = by_rules cs i.call i.rules entries (newest cs i legal) h
