-- What an impact foretells of a Confirm: its answer, and the images that it bars.
use Rattle.std.proofs.Common.{◌≡◌, ◌⊎◌, ◌↔◌, ℕ, Bool, true, false, not, ◌&&◌, List, ◌∷◌, map, filter, Option, Some, None, refl, sym, ◌∙◌, ap, subst}
use Rattle.std.specs.Prelude.{if◌then◌else◌, IsTrue, bytes_eq, find, is_some, reverse, Ok, Err}
use Rattle.std.specs.List.{Contains}
use Rattle.std.specs.Option.{option_map_or, option_or}
use Rattle.base.specs.declared.refusal.Refusal.{Refusal}
use Rattle.base.specs.declared.refusal.Refusal.TheVariants as refusals
use Rattle.desk_types.specs.Callers.{caller_name}
use Rattle.desk_types.specs.CommandTexts.{text_of}
use Rattle.desk_types.specs.declared.caller.Caller.{Caller}
use Rattle.desk_types.specs.declared.caller.Caller.TheVariants as callers
use Rattle.desk_types.specs.declared.command.Call.{Call}
use Rattle.desk_types.specs.declared.command.Command.{Command}
use Rattle.desk_types.specs.declared.command.Command.TheVariants as command
use Rattle.desk_types.specs.declared.command.Person.{Person}
use Rattle.desk_types.specs.declared.facts.Facts.{Facts}
use Rattle.desk_types.specs.declared.proposal.ProposalState.{ProposalState}
use Rattle.desk_types.specs.declared.proposal.ProposalState.TheVariants as states
use Rattle.desk_types.specs.declared.reply.Reply.{Reply}
use Rattle.desk_types.specs.declared.reply.Reply.TheVariants as replies
use Rattle.desk_history.specs.Calls.{History, item}
use Rattle.desk_history.specs.Images.{images}
use Rattle.desk_history.specs.Impact.{Impact, after, another_refusal, confirm_of, impact, impact_of, impact_refusal}
use Rattle.desk_history.specs.ImpactLaws.{AnswersAsForetold, ComesTrue, ImpactsComeTrue, answer_by, is_proposer}
use Rattle.desk_history.specs.Limits.{is_within}
use Rattle.desk_history.specs.People.{has_name, people}
use Rattle.desk_history.specs.Proposals.{Proposal, proposal, proposal_state}
use Rattle.desk_history.specs.Refusals.{confirm_by, confirm_refusal, force_refusal, is_known, is_one_of, is_theirs, may_give, refusal_of, refuse_if}
use Rattle.desk_history.specs.Replies.{counted}
use Rattle.desk_history.specs.Requests.{state}
use Rattle.desk_history.specs.Roles.{is_for}
use Rattle.desk_history.specs.Runs.{answer, answer_known, answer_new_key, earlier, is_accepted, next}
use Rattle.desk_history.specs.Verdicts.{is_barred}
use Rattle.desk_history.specs.declared.answer.Answer.{Answer}
use Rattle.desk_history.specs.declared.answer.Answer.TheVariants.{Accepted, Refused, Repeated}
use Rattle.desk_history.specs.declared.rows.Minute.{Minute}
use Rattle.desk_history.proofs.ImpactLemmas.{barred_exactly, image_in, is_new, kept}
use Rattle.desk_history.proofs.RefusalLemmas.{no_refusal}
use Rattle.desk_history.proofs.RunLemmas.{accepted_parts}

-- ---- a Confirm

abbrev confirming : Caller → List ℕ → ℕ → Call
confirming caller key k = record { caller = caller; key = key; command = command.Confirm k }

-- whoever gives the Confirm, the history after it bars the same images
same_barred : (cs : History) (caller : Caller) (key : List ℕ) (k : ℕ) (x : Facts) → is_barred (item (confirming caller key k) ∷ cs) x ≡ is_barred (after cs k) x
same_barred cs caller key k x = refl

same_counts : (cs : History) (caller : Caller) (key : List ℕ) (k : ℕ) → counted cs (item (confirming caller key k)) ≡ counted cs (confirm_of k)
same_counts cs caller key k = refl

same_within : (cs : History) (caller : Caller) (key : List ℕ) (k : ℕ) → is_within (item (confirming caller key k) ∷ cs) ≡ is_within (after cs k)
same_within cs caller key k = refl

-- ---- the answer

refused_alike : (cs : History) (o : Option Proposal) (state : ProposalState) (name : List ℕ) → option_map_or (λ (p : Proposal). bytes_eq p.officer name) o false ≡ false
    → confirm_refusal cs o state name ≡ another_refusal cs o state
refused_alike cs None state name h = refl
refused_alike cs (Some p) state name h = ap (λ own. confirm_by state own (force_refusal cs p.command)) h

known_giver : (ps : List Person) (caller : Caller) (given : Command) → is_theirs ps caller given ≡ true → is_one_of ps caller ≡ true
known_giver ps callers.Console given h = refl
known_giver ps (callers.Person name) given h = found (find (has_name name) ps) h
  where
    found : (o : Option Person) → option_map_or (λ (p : Person). is_for p.role given) o false ≡ true → is_some o ≡ true
    found None h = h
    found (Some p) h = refl

told : (k : ℕ) (w : Impact) (r : Option Refusal) → answer_new_key r (replies.Confirmed (record { proposal = k; counts = w.adds })) ≡ answer_by k (option_map_or Err r (Ok w))
told k w None = refl
told k w (Some r) = refl

foretold_by : (cs : History) (caller : Caller) (key : List ℕ) (k : ℕ) → earlier cs (confirming caller key k) ≡ None → may_give cs caller (command.Confirm k) ≡ true
    → is_proposer cs k (caller_name caller) ≡ false → answer cs (confirming caller key k) ≡ answer_by k (impact cs k)
foretold_by cs caller key k fresh officer other =
    let c : Call = confirming caller key k in
    let reply : Reply = replies.Confirmed (record { proposal = k; counts = (impact_of cs k).adds }) in
    let full : Option Refusal = refuse_if (not (is_within (after cs k))) refusals.Full in
    let own : Option Refusal = confirm_refusal cs (proposal cs k) (proposal_state cs k) (caller_name caller) in
    ap (λ known. if not known then Refused refusals.UnknownCaller else answer_known (earlier cs c) (text_of c.command) (refusal_of cs (item c)) reply) (known_giver (people cs) caller (command.Confirm k) officer)
    ∙ ap (λ m. answer_known m (text_of c.command) (refusal_of cs (item c)) reply) fresh
    ∙ ap (λ allowed. answer_new_key (if not allowed then Some refusals.NotYourRole else option_or own full) reply) officer
    ∙ ap (λ o. answer_new_key (option_or o full) reply) (refused_alike cs (proposal cs k) (proposal_state cs k) (caller_name caller) other)
    ∙ told k (impact_of cs k) (impact_refusal cs k)

called_by : (cs : History) (c : Call) (k : ℕ) (given : Command) → given ≡ command.Confirm k → earlier cs c ≡ None → may_give cs c.caller given ≡ true
    → is_proposer cs k (caller_name c.caller) ≡ false → answer cs (record c { command = given }) ≡ answer_by k (impact cs k)
called_by cs c k given e fresh officer other =
    subst (λ (g : Command). answer cs (record c { command = g }) ≡ answer_by k (impact cs k)) (sym e)
    (foretold_by cs c.caller c.key k fresh (subst (λ g. may_give cs c.caller g ≡ true) e officer) other)

pub confirms_are_foretold : AnswersAsForetold
confirms_are_foretold cs c k h = called_by cs c k c.command h.confirms h.fresh h.officer h.other

-- ---- what comes true

unrefused_another : (cs : History) (o : Option Proposal) (state : ProposalState) (name : List ℕ) → confirm_refusal cs o state name ≡ None → another_refusal cs o state ≡ None
unrefused_another cs None state name h = h
unrefused_another cs (Some p) state name h = open_to state (bytes_eq p.officer name) (force_refusal cs p.command) h
  where
    open_to : (state : ProposalState) (own : Bool) (refused : Option Refusal) → confirm_by state own refused ≡ None → confirm_by state false refused ≡ None
    open_to states.Open false refused h = h
    open_to states.Open true refused h = no_refusal h
    open_to states.Confirmed own refused h = h
    open_to states.Dropped own refused h = h

shown_by : (w : Impact) (o : Option Refusal) (within : Bool) → o ≡ None → within ≡ true → option_map_or Err (option_or o (refuse_if (not within) refusals.Full)) (Ok w) ≡ Ok w
shown_by w o within e room = rw (e, room) refl

no_answer : {A : Type 0} → false ≡ true → A
no_answer e = cc

replied : (known : Bool) (m : Option Minute) (text : List ℕ) (refusal : Option Refusal) (reply : Reply) (a : Answer) → a ≡ (if not known then Refused refusals.UnknownCaller else answer_known m text refusal reply)
    → is_accepted a ≡ true → a ≡ Accepted reply
replied known m text refusal reply a is h = is ∙ by_parts known m refusal (ap is_accepted (sym is) ∙ h)
  where
    by_parts : (known : Bool) (m : Option Minute) (refusal : Option Refusal) → is_accepted (if not known then Refused refusals.UnknownCaller else answer_known m text refusal reply) ≡ true
        → (if not known then Refused refusals.UnknownCaller else answer_known m text refusal reply) ≡ Accepted reply
    by_parts false m refusal h = no_answer h
    by_parts true (Some m) refusal h =
        elim (bytes_eq m.text text) as (λ b. is_accepted (if b then Repeated m.reply else Refused refusals.KeyReused) ≡ true → (if b then Repeated m.reply else Refused refusals.KeyReused) ≡ Accepted reply) [ true ↦ λ e. no_answer e | false ↦ λ e. no_answer e ] h
    by_parts true None (Some refusal) h = no_answer h
    by_parts true None None h = refl

come_by : (cs : History) (caller : Caller) (key : List ℕ) (k : ℕ) → is_accepted (answer cs (confirming caller key k)) ≡ true → ComesTrue cs (confirming caller key k) k
come_by cs caller key k h =
    let c : Call = confirming caller key k in
    let new = accepted_parts cs (item c) h in
    let later : next cs c ≡ item c ∷ cs = rw h refl in
    let w : Impact = impact_of cs k in
    let all : map image_in w.bars ≡ filter (is_new cs k) (reverse (images cs)) = kept cs k (reverse (images cs)) in
    record {
      foretold = w;
      shown = shown_by w (another_refusal cs (proposal cs k) (proposal_state cs k)) (is_within (after cs k)) (unrefused_another cs (proposal cs k) (proposal_state cs k) (caller_name caller) new.own) new.within;
      counts = replied (is_known cs caller) (earlier cs c) (text_of c.command) (refusal_of cs (item c)) (replies.Confirmed (record { proposal = k; counts = w.adds })) (answer cs c) refl h;
      exact = subst (λ (l : History). map image_in w.bars ≡ filter (λ m. not (is_barred cs m.facts) && is_barred l m.facts) (reverse (images cs))) (sym later) all;
      barred = λ m among. subst (λ (l : History). IsTrue (is_barred l m.facts) ↔ (IsTrue (is_barred cs m.facts) ⊎ Contains (map image_in w.bars) m)) (sym later)
          (barred_exactly cs k (images cs) (map image_in w.bars) all m among);
    }

come_called : (cs : History) (c : Call) (k : ℕ) (given : Command) → given ≡ command.Confirm k → is_accepted (answer cs (record c { command = given })) ≡ true → ComesTrue cs (record c { command = given }) k
come_called cs c k given e h =
    subst (λ (g : Command). ComesTrue cs (record c { command = g }) k) (sym e) (come_by cs c.caller c.key k (subst (λ (g : Command). is_accepted (answer cs (record c { command = g })) ≡ true) e h))

pub impacts_come_true : ImpactsComeTrue
impacts_come_true cs c k e h = come_called cs c k c.command e h
