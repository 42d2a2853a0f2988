-- Outcomes of proposals.
use Rattle.std.proofs.Common.{◌≡◌, ℕ, ◌+◌, ◌<◌, ◌≤◌, Bool, true, false, not, ◌&&◌, ◌||◌, List, [], ◌∷◌, length, Option, Some, None, refl, sym, ◌∙◌, ap, subst, arith}
use Rattle.std.specs.Prelude.{◌==◌, if◌then◌else◌, find, is_some}
use Rattle.std.specs.List.{cons_option, list_all, list_any}
use Rattle.std.specs.Option.{option_map_or}
use Rattle.std.proofs.lemmas.Bool.{and_parts}
use Rattle.desk_types.specs.Callers.{caller_name}
use Rattle.desk_types.specs.declared.command.Call.{Call}
use Rattle.desk_types.specs.declared.command.Command.{Command}
use Rattle.desk_types.specs.declared.command.Command.TheVariants as command
use Rattle.desk_types.specs.declared.proposal.ProposalOutcome.{ProposalOutcome}
use Rattle.desk_types.specs.declared.proposal.ProposalState.{ProposalState}
use Rattle.desk_types.specs.declared.proposal.ProposalState.TheVariants as states
use Rattle.desk_types.proofs.FormLemmas.{joined}
use Rattle.desk_history.specs.Calls.{First, History, Rules, Second, are_apart, is_first, under}
use Rattle.desk_history.specs.Proposals.{Named, Proposal, is_proposal, outcome_by, outcomes, proposal, proposal_state, proposals, proposed_by, with_next}
use Rattle.desk_history.specs.ProposalLaws.{ClosedOnce, FirstCloseNone, NextIsOpen}
use Rattle.desk_history.specs.Refusals.{confirm_refusal, drop_refusal, is_closed, own_refusal}
use Rattle.desk_history.specs.Runs.{is_legal}
use Rattle.desk_history.proofs.ListLemmas.{apart-more, number_above, number_is}
use Rattle.desk_history.proofs.RefusalLemmas.{no_refusal}
use Rattle.desk_history.proofs.RunLemmas.{IsNewest, newest}

pub no_some : {X A : Type 0} (x : X) → None ≡ Some x → A
no_some x e = cc

pub some_same : {X : Type 0} (x y : X) → Some x ≡ Some y → x ≡ y
some_same x y e = cc

-- ---- calls that close a proposal

-- a call that closes a proposal found it open
record Closes (cs : History) (o : ProposalOutcome) : Type 0 where
  there : is_some (proposal cs o.proposal) ≡ true
  was_open : proposal_state cs o.proposal ≡ states.Open

confirms_open : (cs : History) (o : Option Proposal) (state : ProposalState) (name : List ℕ) → confirm_refusal cs o state name ≡ None → (is_some o ≡ true) × (state ≡ states.Open)
confirms_open cs None state name h = no_refusal h
confirms_open cs (Some p) states.Open name h = (refl, refl)
confirms_open cs (Some p) states.Confirmed name h = no_refusal h
confirms_open cs (Some p) states.Dropped name h = no_refusal h

drops_open : (o : Option Proposal) (state : ProposalState) → drop_refusal o state ≡ None → (is_some o ≡ true) × (state ≡ states.Open)
drops_open None state h = no_refusal h
drops_open (Some p) states.Open h = (refl, refl)
drops_open (Some p) states.Confirmed h = no_refusal h
drops_open (Some p) states.Dropped h = no_refusal h

closes : (cs : History) (name : List ℕ) (given : Command) (o : ProposalOutcome) → own_refusal cs name given ≡ None → outcome_by given ≡ Some o → Closes cs o
closes cs name (command.Confirm k) o own e =
    let was = confirms_open cs (proposal cs k) (proposal_state cs k) name own in
    subst (Closes cs) (some_same (record { proposal = k; state = states.Confirmed }) o e) (record { there = was.0; was_open = was.1 })
closes cs name (command.Drop k) o own e =
    let was = drops_open (proposal cs k) (proposal_state cs k) own in
    subst (Closes cs) (some_same (record { proposal = k; state = states.Dropped }) o e) (record { there = was.0; was_open = was.1 })
closes cs name _ o own e = no_some o e

-- ---- the next proposal

next_missing : (k : ℕ) (ps : List Proposal) (c : Call) (o : Option Named) → (length ps < k → find (is_proposal k) ps ≡ None) → length (with_next ps c o) < k
    → find (is_proposal k) (with_next ps c o) ≡ None
next_missing k ps c None before h = before h
next_missing k ps c (Some named) before h = rw (number_above k (length ps + 1) (omega arith)) (before (omega arith))

pub missing : (k : ℕ) (cs : History) → length (proposals cs) < k → proposal cs k ≡ None
missing k [] h = refl
missing k (i ∷ cs) h = next_missing k (proposals cs) i.call (proposed_by i) (missing k cs) h

next_more : (ps : List Proposal) (c : Call) (o : Option Named) → length ps ≤ length (with_next ps c o)
next_more ps c None = omega arith
next_more ps c (Some named) = omega arith

abbrev is_of : ℕ → ProposalOutcome → Bool
is_of k o = k == o.proposal

pub clash : {A : Type 0} → true ≡ false → A
clash e = cc

-- another number than that of a proposal that is there
other_number : (cs : History) (k n : ℕ) → proposal cs k ≡ None → is_some (proposal cs n) ≡ true → (k == n) ≡ false
other_number cs k n none some =
    elim (k == n) as (λ b. (k == n) ≡ b → b ≡ false) [
      | true ↦ λ e. clash (sym some ∙ ap (λ m. is_some (proposal cs m)) (sym (number_is k n e)) ∙ ap is_some none)
      | false ↦ λ e. refl
    ] refl

-- nothing closed a proposal that isn't there
unclosed : (cs : History) (k : ℕ) → is_legal cs ≡ true → length (proposals cs) < k → find (is_of k) (outcomes cs) ≡ None
unclosed [] k legal h = refl
unclosed (i ∷ cs) k legal h =
    let here = newest cs i legal in
    let more = next_more (proposals cs) i.call (proposed_by i) in
    let less : length (proposals cs) < k = omega arith in
    elim (outcome_by i.call.command) as (λ o. outcome_by i.call.command ≡ o → find (is_of k) (cons_option o (outcomes cs)) ≡ None) [
      | None ↦ λ e. unclosed cs k here.before less
      | Some o ↦ λ e.
          (let was = closes cs (caller_name i.call.caller) i.call.command o here.new.own e in
          rw (other_number cs k o.proposal (missing k cs less) was.there) (unclosed cs k here.before less))
    ] refl

pub next_is_open : NextIsOpen
next_is_open cs legal =
    ap (λ o. option_map_or (λ (o : ProposalOutcome). o.state) o states.Open) (unclosed cs (length (proposals cs) + 1) legal (omega arith))

-- ---- closed once

is_closing : (given : Command) (o : ProposalOutcome) → outcome_by given ≡ Some o → is_closed o.state ≡ true
is_closing (command.Confirm k) o e = ap (λ (q : ProposalOutcome). is_closed q.state) (sym (some_same (record { proposal = k; state = states.Confirmed }) o e))
is_closing (command.Drop k) o e = ap (λ (q : ProposalOutcome). is_closed q.state) (sym (some_same (record { proposal = k; state = states.Dropped }) o e))
is_closing _ o e = no_some o e

never_open : (state : ProposalState) → is_closed state ≡ true → state ≡ states.Open → {A : Type 0} → A
never_open state h e = clash (sym h ∙ ap is_closed e)

-- one outcome more is none of an open proposal
one_outcome : (k : ℕ) (given : Command) (os : List ProposalOutcome) (q : Option ProposalOutcome) → outcome_by given ≡ q
    → (option_map_or (λ (o : ProposalOutcome). o.state) (find (is_of k) os) states.Open ≡ states.Open → list_any (is_of k) os ≡ false)
    → option_map_or (λ (o : ProposalOutcome). o.state) (find (is_of k) (cons_option q os)) states.Open ≡ states.Open → list_any (is_of k) (cons_option q os) ≡ false
one_outcome k given os None is before e = before e
one_outcome k given os (Some o) is before e =
    elim (k == o.proposal) as (λ b. option_map_or (λ (o : ProposalOutcome). o.state) (if b then Some o else find (is_of k) os) states.Open ≡ states.Open → (b || list_any (is_of k) os) ≡ false) [
      | true ↦ λ f. never_open o.state (is_closing given o is) f
      | false ↦ λ f. before f
    ] e

-- an open proposal has no outcome
open_unclosed : (cs : History) (k : ℕ) → proposal_state cs k ≡ states.Open → list_any (is_of k) (outcomes cs) ≡ false
open_unclosed [] k h = refl
open_unclosed (i ∷ cs) k h = one_outcome k i.call.command (outcomes cs) (outcome_by i.call.command) refl (open_unclosed cs k) h

pub closed_once : ClosedOnce
closed_once [] h = refl
closed_once (i ∷ cs) h =
    let here = newest cs i h in
    elim (outcome_by i.call.command) as (λ o. outcome_by i.call.command ≡ o → are_apart (λ (a b : ProposalOutcome). a.proposal == b.proposal) (cons_option o (outcomes cs)) ≡ true) [
      | None ↦ λ e. closed_once cs here.before
      | Some o ↦ λ e.
          (let was = closes cs (caller_name i.call.caller) i.call.command o here.new.own e in
          apart-more (λ (a b : ProposalOutcome). a.proposal == b.proposal) o (outcomes cs) (open_unclosed cs o.proposal was.was_open) (closed_once cs here.before))
    ] refl

-- ---- the first rules

nothing_proposed : (c : Call) (rules : Rules) → is_first (under rules c) ≡ true → proposed_by (under rules c) ≡ None
nothing_proposed c First h = refl
nothing_proposed c Second h = clash (sym h)

-- calls by the first rules propose nothing
pub none_proposed : (cs : History) → list_all is_first cs ≡ true → proposals cs ≡ []
none_proposed [] h = refl
none_proposed (i ∷ cs) h =
    let both = and_parts (is_first i) (list_all is_first cs) h in
    ap (with_next (proposals cs) i.call) (nothing_proposed i.call i.rules both.0) ∙ none_proposed cs both.1

first_closes : (cs : History) (c : Call) (rules : Rules) → IsNewest cs (under rules c) → not (is_first (under rules c) && is_some (outcome_by c.command)) ≡ true
first_closes cs c Second here = refl
first_closes cs c First here =
    elim (outcome_by c.command) as (λ o. outcome_by c.command ≡ o → not (is_some o) ≡ true) [
      | None ↦ λ e. refl
      | Some o ↦ λ e.
          (let was = closes cs (caller_name c.caller) c.command o here.new.own e in
          clash (sym was.there ∙ ap (λ ps. is_some (find (is_proposal o.proposal) ps)) (none_proposed cs here.follows)))
    ] refl

pub first_close_none : FirstCloseNone
first_close_none [] h = refl
first_close_none (i ∷ cs) h =
    let here = newest cs i h in
    joined (not (is_first i && is_some (outcome_by i.call.command))) (list_all (λ j. not (is_first j && is_some (outcome_by j.call.command))) cs)
    (first_closes cs i.call i.rules here) (first_close_none cs here.before)
