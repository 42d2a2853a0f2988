-- Proposals in a view that shows a history, and tables after their writes.
use Rattle.std.proofs.Common.{◌≡◌, ◌⊎◌, ℕ, ◌+◌, ◌≤◌, Bool, true, false, IfSome, List, [], ◌∷◌, length, Option, Some, None, Ok, Err, Result, refl, sym, ◌∙◌, ap, subst, inl, inr, arith}
use Rattle.std.specs.Prelude.{◌++◌, IfErr, IfOk, MatchResult, bytes_eq, find, option_map}
use Rattle.std.specs.Option.{option_map_or}
use Rattle.std.proofs.lemmas.List.{length-map}
use Rattle.base.specs.declared.refusal.Refusal.{Refusal}
use Rattle.base.specs.declared.refusal.Refusal.TheVariants as refusals
use Rattle.desk_types.specs.Callers.{caller_name}
use Rattle.desk_types.specs.Forms.{greatest_number}
use Rattle.desk_types.specs.declared.caller.Caller.{Caller}
use Rattle.desk_types.specs.declared.command.Command.{Command}
use Rattle.desk_types.specs.declared.command.Command.TheVariants as command
use Rattle.desk_types.specs.declared.command.Explanation.{Explanation}
use Rattle.desk_types.specs.declared.proposal.ProposalState.{ProposalState}
use Rattle.desk_types.specs.declared.proposal.ProposalState.TheVariants as states
use Rattle.desk_types.specs.declared.reply.Reply.TheVariants as replies
use Rattle.desk_history.specs.declared.rows.ProposalRow.{ProposalRow}
use Rattle.desk_history.specs.declared.write.Write.TheVariants as writes
use Rattle.desk_history.specs.Calls.{History, item}
use Rattle.desk_history.specs.Forces.{enforced_by}
use Rattle.desk_history.specs.Impact.{another_refusal}
use Rattle.desk_history.specs.Proposals.{Named, Proposal, named_by, proposal, proposal_state, proposals}
use Rattle.desk_history.specs.Refusals.{confirm_by, confirm_refusal, drop_by, drop_refusal, explain_refusal, force_refusal, own_refusal}
use Rattle.desk_history.specs.Replies.{minutes, reply}
use Rattle.desk_history.specs.Runs.{is_legal}
use Rattle.desk_history.specs.Tables.{proposal_row, tables}
use Rattle.desk_history.proofs.ClosingLemmas.{next_is_open}
use Rattle.desk_history.proofs.ProposalRowLemmas.{another_refused, drop_rows, refused_by, refused_by-is, row_refused, table_found}
use Rattle.desk_history.proofs.RunLemmas.{legal_proposals}
use Rattle.desk_rules.specs.declared.decisions.imports.Enforced.{Enforced}
use Rattle.desk_rules.specs.declared.decisions.imports.SoFar.{SoFar}
use Rattle.desk_rules.specs.declared.view.Changes.{Changes}
use Rattle.desk_rules.specs.declared.view.LimitedTable.TheVariants as counted
use Rattle.desk_rules.specs.declared.view.View.{View}
use Rattle.desk_rules.specs.DecisionSteps.{Decided, DecidesOwn, IsCommandStep, MatchesOwn, RefusesOwn, drop_refusal_in, explain_refusal_in, force_refusal_in, open_row}
use Rattle.desk_history.specs.Called.{called}
use Rattle.desk_rules.specs.ImportSteps.{ConfirmsAnother, FailsNamed, HasTakenAll, IsConfirmed, PutsIntoForce, PutsNamed}
use Rattle.desk_rules.specs.Keys.{import_keys, row_keys}
use Rattle.desk_rules.specs.Shown.{Shows, is_proposal_row, keys_asked, may_put}
use Rattle.desk_rules.specs.Views.{ShowsLists}
use Rattle.desk_rules.proofs.DecisionLemmas.{decided}
use Rattle.desk_rules.proofs.EnforcingLemmas.{force_seen, kept, puts, says}

-- ---- a proposal

-- the row that a proposal puts in, with its state
abbrev next_row : History → List ℕ → Named → ProposalState → ProposalRow
next_row cs officer n s = record { number = length (proposals cs) + 1; officer = officer; kind = n.kind; named = n.entries; state = s }

-- a command that names these entries proposes them
record IsProposal (owner : List ℕ) (cs : History) (caller : Caller) (key : List ℕ) (c : Command) (n : Named) : Type 0 where
  keys : keys_asked (tables owner cs) (called caller key c) ≡ import_keys n.entries
  own : own_refusal cs (caller_name caller) c ≡ force_refusal cs c
  says : reply cs (called caller key c) ≡ replies.Proposed (length (proposals cs) + 1)
  rows : record (tables owner cs) { proposals = next_row cs (caller_name caller) n (proposal_state cs (length (proposals cs) + 1)) ∷ (tables owner cs).proposals }
      ≡ record (tables owner (item (called caller key c) ∷ cs)) { calls = minutes cs }
  puts : may_put c counted.Proposals ≡ true

is_proposal : (owner : List ℕ) (cs : History) (caller : Caller) (key : List ℕ) (c : Command) → IfSome (named_by c) (IsProposal owner cs caller key c)
is_proposal owner cs caller key (command.RevokeDigest d) = record { keys = refl; own = refl; says = refl; rows = refl; puts = refl }
is_proposal owner cs caller key (command.RevokeCertificate d) = record { keys = refl; own = refl; says = refl; rows = refl; puts = refl }
is_proposal owner cs caller key (command.RaiseLevel r) = record { keys = refl; own = refl; says = refl; rows = refl; puts = refl }
is_proposal owner cs caller key (command.ImportRevocations i) = record { keys = refl; own = refl; says = refl; rows = refl; puts = refl }
is_proposal owner cs caller key _ = tt

module _ (v : View) (caller : Caller) (c : Command) (n : Named) (names : named_by c ≡ Some n) (owner : List ℕ) (cs : History) (key : List ℕ) (legal : is_legal cs ≡ true) (shown : Shows v (tables owner cs) (called caller key c)) where
  of : IsProposal owner cs caller key c n
  of = subst (λ o. IfSome o (IsProposal owner cs caller key c)) names (is_proposal owner cs caller key c)

  lists : ShowsLists v.lists (tables owner cs) (import_keys n.entries)
  lists = subst (λ k. ShowsLists v.lists (tables owner cs) k) of.keys shown.lists

  count_seen : v.sizes.proposals ≡ length (proposals cs)
  count_seen = shown.sizes counted.Proposals of.puts ∙ length-map (proposals cs) (λ p. proposal_row (proposal_state cs p.number) p)

  -- a desk that shows a legal history has numbers of proposals left
  pub has_numbers : greatest_number ≤ v.sizes.proposals → {A : Type 0} → A
  has_numbers full = absurd (no_more v.sizes.proposals (length (proposals cs)) count_seen full (legal_proposals cs legal))
    where
      no_more : (a b : ℕ) → a ≡ b → greatest_number ≤ a → b ≤ 100000 → ⊥
      no_more a b is h k = omega arith

  pub proposes : (k : ℕ) → k ≡ v.sizes.proposals + 1 → (s : SoFar) → HasTakenAll v n.entries s → (result : Result Changes Refusal) →
      Decided result (force_refusal_in v n.kind n.entries s.names) (replies.Proposed k) (writes.Propose (open_row k (caller_name caller) n.kind n.entries) ∷ []) →
      MatchesOwn owner cs (called caller key c) result
  proposes k is s taken result told =
      let at : k ≡ length (proposals cs) + 1 = is ∙ ap (λ m. m + 1) count_seen in
      decided owner cs (called caller key c) result (force_refusal_in v n.kind n.entries s.names) (replies.Proposed k) (writes.Propose (open_row k (caller_name caller) n.kind n.entries) ∷ []) told
      (force_seen v n.entries owner cs lists shown.stamp s taken n.kind ∙ (sym (refused_by-is cs c n names) ∙ sym of.own))
      (λ none. ap (λ m. replies.Proposed m) at ∙ sym of.says)
      (λ none. ap (λ m. record (tables owner cs) { proposals = open_row m (caller_name caller) n.kind n.entries ∷ (tables owner cs).proposals }) at
      ∙ (ap (λ t. record (tables owner cs) { proposals = next_row cs (caller_name caller) n t ∷ (tables owner cs).proposals }) (sym (next_is_open cs legal))
      ∙ of.rows))
      (inl refl)

-- ---- a Confirm

entries_by : (s : ProposalState) (o : Option Proposal) → option_map (λ (p : Proposal). p.named.entries) o ≡ option_map (λ (row : ProposalRow). row.named) (option_map (proposal_row s) o)
entries_by s None = refl
entries_by s (Some p) = refl

-- a closed or an own proposal is refused alike, whatever its command would be
early : (state : ProposalState) (own : Bool) (refused : Option Refusal) (r : Refusal) → confirm_by state own None ≡ Some r → confirm_by state own refused ≡ Some r
early states.Open true refused r h = h
early states.Open false refused r h = absurd cc
early states.Confirmed own refused r h = h
early states.Dropped own refused r h = h

-- every other is open
pub open_one : (state : ProposalState) (own : Bool) → confirm_by state own None ≡ None → state ≡ states.Open
open_one states.Open own h = refl
open_one states.Confirmed own h = absurd cc
open_one states.Dropped own h = absurd cc

-- and another officer's, so that it is refused as its command
late : (state : ProposalState) (own : Bool) (refused : Option Refusal) → confirm_by state own None ≡ None → confirm_by state own refused ≡ confirm_by state false refused
late states.Open true refused h = absurd cc
late states.Open false refused h = refl
late states.Confirmed own refused h = absurd cc
late states.Dropped own refused h = absurd cc

missing : (o : Option Proposal) (s : ProposalState) → option_map (proposal_row s) o ≡ None → o ≡ None
missing None s h = refl
missing (Some p) s h = cc

module _ (v : View) (caller : Caller) (k : ℕ) (owner : List ℕ) (cs : History) (key : List ℕ) (shown : Shows v (tables owner cs) (called caller key (command.Confirm k))) where
  abbrev another : Option Refusal
  another = another_refusal cs (proposal cs k) (proposal_state cs k)

  -- a proposal that isn't there
  gone : find (is_proposal_row k) v.proposals.items ≡ None → proposal cs k ≡ None
  gone none = missing (proposal cs k) (proposal_state cs k) (sym (table_found owner cs k) ∙ (sym (shown.proposal k refl) ∙ none))

  pub confirms_none : find (is_proposal_row k) v.proposals.items ≡ None → RefusesOwn refusals.NoSuchProposal cs (called caller key (command.Confirm k))
  confirms_none none = inl (ap (λ o. confirm_refusal cs o (proposal_state cs k) (caller_name caller)) (gone none))

  pub another_none : find (is_proposal_row k) v.proposals.items ≡ None → another ≡ Some refusals.NoSuchProposal
  another_none none = ap (λ o. another_refusal cs o (proposal_state cs k)) (gone none)

  module _ (row : ProposalRow) (found : find (is_proposal_row k) v.proposals.items ≡ Some row) where
    there : find (is_proposal_row k) (tables owner cs).proposals ≡ Some row
    there = sym (shown.proposal k refl) ∙ found

    another_is : another ≡ confirm_by row.state false (refused_by cs row.kind row.named)
    another_is = another_refused owner cs k row there

    -- a proposal that is closed, or the caller's own
    pub refuses_early : (r : Refusal) → confirm_by row.state (bytes_eq row.officer (caller_name caller)) None ≡ Some r → RefusesOwn r cs (called caller key (command.Confirm k))
    refuses_early r h =
        inl (row_refused owner cs (caller_name caller) k row there ∙ early row.state (bytes_eq row.officer (caller_name caller)) (refused_by cs row.kind row.named) r h)

    pub another_early : (r : Refusal) → confirm_by row.state false None ≡ Some r → another ≡ Some r
    another_early r h = another_is ∙ early row.state false (refused_by cs row.kind row.named) r h

    -- an open one, of which the components make this
    module _ (is_open : row.state ≡ states.Open) (s : SoFar) (taken : HasTakenAll v row.named s) where
      lists_seen : ShowsLists v.lists (tables owner cs) (import_keys row.named)
      lists_seen = subst (λ o. ShowsLists v.lists (tables owner cs) (row_keys o)) there shown.lists

      refusal_is : force_refusal_in v row.kind row.named s.names ≡ another
      refusal_is =
          force_seen v row.named owner cs lists_seen shown.stamp s taken row.kind
          ∙ (ap (λ state. confirm_by state false (refused_by cs row.kind row.named)) (sym is_open)
          ∙ sym another_is)

      enforced : enforced_by cs (item (called caller key (command.Confirm k))) ≡ Some row.named
      enforced = entries_by (proposal_state cs k) (proposal cs k) ∙ ap (λ o. option_map (λ (q : ProposalRow). q.named) o) (sym (table_found owner cs k) ∙ there)

      refuses_force : (r : Refusal) → force_refusal_in v row.kind row.named s.names ≡ Some r → another ≡ Some r
      refuses_force r h = sym refusal_is ∙ h

      forces : force_refusal_in v row.kind row.named s.names ≡ None → (e : Enforced) → PutsIntoForce v row.named k s e → IsConfirmed e owner cs caller key k
      forces fine e made = record {
        free = sym refusal_is ∙ fine;
        counts = says v row.named owner cs lists_seen shown.stamp s taken caller key k enforced e made;
        made = puts v row.named owner cs lists_seen shown.stamp s taken caller key k enforced e made;
        kept = kept v row.named owner cs lists_seen shown.stamp s taken caller key k enforced e made;
      }

    -- the caller's Confirm of an open one of another officer
    module _ (open_to : confirm_by row.state (bytes_eq row.officer (caller_name caller)) None ≡ None) where
      as_another : own_refusal cs (caller_name caller) (command.Confirm k) ≡ another
      as_another =
          row_refused owner cs (caller_name caller) k row there
          ∙ (late row.state (bytes_eq row.officer (caller_name caller)) (refused_by cs row.kind row.named) open_to
          ∙ sym another_is)

      pub refuses_confirm : (r : Refusal) → (another ≡ Some r) ⊎ (r ≡ refusals.NoMemory) → (result : Result Changes Refusal) → result ≡ Err r → MatchesOwn owner cs (called caller key (command.Confirm k)) result
      refuses_confirm r why result is = subst (λ (out : Result Changes Refusal). MatchesOwn owner cs (called caller key (command.Confirm k)) out) (sym is) (because why)
        where
          because : (another ≡ Some r) ⊎ (r ≡ refusals.NoMemory) → RefusesOwn r cs (called caller key (command.Confirm k))
          because (inl h) = inl (as_another ∙ h)
          because (inr e) = inr e

      pub confirms : (e : Enforced) → IsConfirmed e owner cs caller key k → (changes : Changes) → changes ≡ record { reply = replies.Confirmed (record { proposal = k; counts = e.counts }); writes = e.writes } →
          IsCommandStep changes owner cs (called caller key (command.Confirm k))
      confirms e done changes is = subst (λ (c : Changes). IsCommandStep c owner cs (called caller key (command.Confirm k))) (sym is) (record {
        accepted = as_another ∙ done.free;
        replied = ap (λ n. replies.Confirmed (record { proposal = k; counts = n })) done.counts;
        made = done.made;
        listed = inl done.kept;
      })

-- another officer's Confirm, of an open proposal
module _ (v : View) (k : ℕ) (row : ProposalRow) (found : find (is_proposal_row k) v.proposals.items ≡ Some row) (is_open : row.state ≡ states.Open) where
  pub not_in : (r : Refusal) → FailsNamed v row.kind row.named r → (result : Result Enforced Refusal) → result ≡ Err r → ConfirmsAnother v k result
  not_in r why result is owner cs caller key shown =
      subst (λ (out : Result Enforced Refusal). MatchResult out (λ e. IsConfirmed e owner cs caller key k) (λ refusal. (another_refusal cs (proposal cs k) (proposal_state cs k) ≡ Some refusal) ⊎ (refusal ≡ refusals.NoMemory))) (sym is) (because why)
    where
      because : FailsNamed v row.kind row.named r → (another_refusal cs (proposal cs k) (proposal_state cs k) ≡ Some r) ⊎ (r ≡ refusals.NoMemory)
      because (inl h) = inl (refuses_force v caller k owner cs key shown row found is_open h.so_far h.taken r h.refused)
      because (inr e) = inr e

  pub puts_in : (entries : Enforced) → PutsNamed v row.kind row.named entries → (result : Result Enforced Refusal) → IfOk result (λ e. e.counts ≡ entries.counts)
      → IfOk result (λ e. e.writes.items ≡ entries.writes.items ++ writes.ProposalState (record { proposal = k; state = states.Confirmed }) ∷ []) → IfErr result (λ r. r ≡ refusals.NoMemory)
      → ConfirmsAnother v k result
  puts_in entries h (Ok e) counts wrote failed owner cs caller key shown =
      forces v caller k owner cs key shown row found is_open h.so_far h.taken h.free e (record { entries = entries; enters = h.enters; counts = counts; wrote = wrote })
  puts_in entries h (Err r) counts wrote failed owner cs caller key shown = inr failed

-- ---- a Drop

drop_of : (o : Option Proposal) (s : ProposalState) → option_map_or (λ (row : ProposalRow). drop_by row.state) (option_map (proposal_row s) o) (Some refusals.NoSuchProposal) ≡ drop_refusal o s
drop_of None s = refl
drop_of (Some p) s = refl

pub drops : (v : View) (caller : Caller) (k : ℕ) (result : Result Changes Refusal) →
    Decided result (drop_refusal_in v k) (replies.Dropped k) (writes.ProposalState (record { proposal = k; state = states.Dropped }) ∷ []) → DecidesOwn v caller (command.Drop k) result
drops v caller k result told owner cs key legal shown =
    decided owner cs (called caller key (command.Drop k)) result (drop_refusal_in v k) (replies.Dropped k) (writes.ProposalState (record { proposal = k; state = states.Dropped }) ∷ []) told
    (ap (λ o. option_map_or (λ (row : ProposalRow). drop_by row.state) o (Some refusals.NoSuchProposal)) (shown.proposal k refl ∙ table_found owner cs k) ∙ drop_of (proposal cs k) (proposal_state cs k))
    (λ none. refl)
    (λ none. ap (λ rows. record (tables owner cs) { proposals = rows }) (drop_rows owner cs caller key k))
    (inl refl)

-- ---- an Explain

explain_of : (o : Option Proposal) (s : ProposalState) → option_map_or (λ (row : ProposalRow). None) (option_map (proposal_row s) o) (Some refusals.NoSuchProposal) ≡ explain_refusal o
explain_of None s = refl
explain_of (Some p) s = refl

pub explains : (v : View) (caller : Caller) (e : Explanation) (result : Result Changes Refusal) →
    Decided result (explain_refusal_in v e.proposal) (replies.Explained e.proposal) [] → DecidesOwn v caller (command.Explain e) result
explains v caller e result told owner cs key legal shown =
    decided owner cs (called caller key (command.Explain e)) result (explain_refusal_in v e.proposal) (replies.Explained e.proposal) [] told
    (ap (λ o. option_map_or (λ (row : ProposalRow). None) o (Some refusals.NoSuchProposal)) (shown.proposal e.proposal refl ∙ table_found owner cs e.proposal) ∙ explain_of (proposal cs e.proposal) (proposal_state cs e.proposal))
    (λ none. refl)
    (λ none. refl)
    (inl refl)
