-- The level, as a history goes on: no generation falls, and no stamp.
use Rattle.std.proofs.Common.{◌≡◌, ◌≤◌, ℕ, Bool, true, false, not, ◌&&◌, ◌||◌, IfSome, List, [], ◌∷◌, ◌++◌, map, Option, Some, None, refl, sym, ap, subst, ◌∙◌, append_assoc, arith, true≢false}
use Rattle.std.specs.Prelude.{if◌then◌else◌, bytes_eq, nat_le, nat_lt, option_map, unwrap_or}
use Rattle.std.specs.Option.{option_map_or}
use Rattle.std.specs.List.{list_any}
use Rattle.std.proofs.lemmas.Bool.Decides.{nat_tests}
use Rattle.std.proofs.lemmas.List.{map-append}
use Rattle.std.proofs.lemmas.List.Sorted.{list_any-IsPermutation}
use Rattle.sbat.specs.declared.component.Component.{Component}
use Rattle.base.specs.declared.refusal.Refusal.{Refusal}
use Rattle.base.specs.declared.refusal.Refusal.TheVariants as refusals
use Rattle.desk_types.specs.Callers.{caller_name}
use Rattle.desk_types.specs.Imports.{Imported}
use Rattle.desk_types.specs.declared.command.Call.{Call}
use Rattle.desk_types.specs.declared.command.Command.{Command}
use Rattle.desk_types.specs.declared.command.Command.TheVariants as command
use Rattle.desk_types.specs.declared.proposal.ProposalState.{ProposalState}
use Rattle.desk_types.specs.declared.proposal.ProposalState.TheVariants as states
use Rattle.desk_types.proofs.FormLemmas.{both, joined}
use Rattle.desk_history.specs.Calls.{First, History, Item, Rules, Second, is_among, under}
use Rattle.desk_history.specs.Forces.{confirmed_by, enforced_by, forced, into_force, nothing}
use Rattle.desk_history.specs.Level.{generations, greater_of, greatest, is_above, is_sbat, level, names, raises_some, stamp}
use Rattle.desk_history.specs.Proposals.{Proposal, named_by, proposal, proposal_state}
use Rattle.desk_history.specs.Refusals.{confirm_by, confirm_refusal, force_refusal, is_later, own_refusal, refuse_if}
use Rattle.desk_history.specs.Runs.{is_legal}
use Rattle.desk_history.specs.Tables.{level_row, level_rows}
use Rattle.desk_history.proofs.ListLemmas.{any_after, any_once, bytes_eq-refl, same_text}
use Rattle.desk_history.proofs.ProposalLemmas.{HasNames, entries_of, found_named}
use Rattle.desk_history.proofs.RefusalLemmas.{no_refusal}
use Rattle.desk_history.proofs.RunLemmas.{newest}
use Rattle.desk_exports.specs.Exports.{level_components}
use Rattle.desk_exports.proofs.OrderLemmas.{sort_moved}
use Rattle.desk_exports.proofs.ShimLemmas.{any_map}
use Rattle.desk_minutes.specs.Growth.{RequireAll, requires}
use Rattle.desk_minutes.proofs.EntryGrowthLemmas.{passes_among, passing}

-- ---- generations

-- these components name it, with no lower greatest generation
record IsNamed (name : List ℕ) (generation : ℕ) (named : List Component) : Type 0 where
  among : is_among (names named) name ≡ true
  least : nat_le generation (unwrap_or (greatest named name) 0) ≡ true

-- the level's row of a name has it, and no lower generation
abbrev row_requires : List ℕ → ℕ → List Component → List ℕ → Bool
row_requires name generation named text = bytes_eq name text && nat_le generation (unwrap_or (greatest named text) 0)

module _ (name : List ℕ) (generation : ℕ) where
  rows_require : (cs : History) → requires name generation (level_components cs) ≡ list_any (row_requires name generation (generations cs)) (names (generations cs))
  rows_require cs =
      let rows = level_rows (generations cs) in
      let meets : Component → Bool = λ x. bytes_eq name x.name && nat_le generation x.generation in
      sym (list_any-IsPermutation meets rows (level_components cs) (sort_moved (λ (x : Component). x.name) rows))
      ∙ any_map meets (level_row (generations cs)) (names (generations cs))

  named_by_rows : (named : List Component) → list_any (row_requires name generation named) (names named) ≡ true → IsNamed name generation named
  named_by_rows named h =
      let one = passing (row_requires name generation named) (names named) h in
      let parts = both (bytes_eq name one.text) (nat_le generation (unwrap_or (greatest named one.text) 0)) one.passes in
      let same : one.text ≡ name = sym (same_text name one.text parts.0) in
      record {
        among = subst (λ t. is_among (names named) t ≡ true) same one.among;
        least = subst (λ t. nat_le generation (unwrap_or (greatest named t) 0) ≡ true) same parts.1;
      }

  in_rows : (named : List Component) → IsNamed name generation named → list_any (row_requires name generation named) (names named) ≡ true
  in_rows named n =
      passes_among (row_requires name generation named) (names named) name n.among
      (joined (bytes_eq name name) (nat_le generation (unwrap_or (greatest named name) 0)) (bytes_eq-refl name) n.least)

  no_lower : (m : ℕ) (o : Option ℕ) → nat_le generation (unwrap_or o 0) ≡ true → nat_le generation (greater_of m o) ≡ true
  no_lower m None h = grind (arith, nat_tests)
  no_lower m (Some k) h = grind (arith, nat_tests)

  greatest_more : (xs ys : List Component) → nat_le generation (unwrap_or (greatest ys name) 0) ≡ true → nat_le generation (unwrap_or (greatest (xs ++ ys) name) 0) ≡ true
  greatest_more [] ys h = h
  greatest_more (x ∷ xs) ys h =
      let rest = greatest_more xs ys h in
      elim (bytes_eq name x.name) as (λ b. nat_le generation (unwrap_or (if b then Some (greater_of x.generation (greatest (xs ++ ys) name)) else greatest (xs ++ ys) name) 0) ≡ true) [
        | true ↦ no_lower x.generation (greatest (xs ++ ys) name) rest
        | false ↦ rest
      ]

  names_more : (xs ys : List Component) → IsNamed name generation ys → IsNamed name generation (xs ++ ys)
  names_more xs ys n = record {
    among =
        any_once name (map (λ (x : Component). x.name) (xs ++ ys)) ∙ ap (λ ts. is_among ts name) (map-append (λ (x : Component). x.name) xs ys)
        ∙ any_after (bytes_eq name) (map (λ (x : Component). x.name) xs) (map (λ (x : Component). x.name) ys) (sym (any_once name (map (λ (x : Component). x.name) ys)) ∙ n.among);
    least = greatest_more xs ys n.least;
  }

generations_after : (cs new : History) → (before : List Component) × (generations (new ++ cs) ≡ before ++ generations cs)
generations_after cs [] = ([], refl)
generations_after cs (i ∷ new) =
    let rest = generations_after cs new in
    let own = (into_force (new ++ cs) i).components in
    (own ++ rest.0, ap (λ gs. own ++ gs) rest.1 ∙ sym (append_assoc own rest.0 (generations cs)))

pub level_grows : (cs new : History) → RequireAll (level_components cs) (level_components (new ++ cs))
level_grows cs new name generation h =
    let before = generations_after cs new in
    let now = named_by_rows name generation (generations cs) (sym (rows_require name generation cs) ∙ h) in
    rows_require name generation (new ++ cs)
    ∙ in_rows name generation (generations (new ++ cs)) (subst (IsNamed name generation) (sym before.1) (names_more name generation before.0 (generations cs) now))

-- ---- the stamp

-- these entries leave the stamp, or raise it
abbrev KeepsStamp : History → Option Imported → Type 0
KeepsStamp cs o = raises_some cs (option_map_or forced o nothing) ≡ true → stamp cs ≤ unwrap_or (option_map_or forced o nothing).stamp (stamp cs)

later_stamp : (now : ℕ) (o : Option ℕ) → is_later now o ≡ true → now ≤ unwrap_or o now
later_stamp now None h = absurd (true≢false (sym h))
later_stamp now (Some s) h = grind (arith, nat_tests)

raise_later : (same lower later : Bool) → (if same || lower then Some refusals.NotHigher else refuse_if (not later) refusals.StampNotLater) ≡ None → later ≡ true
raise_later true lower later h = no_refusal h
raise_later false true later h = no_refusal h
raise_later false false true h = refl
raise_later false false false h = no_refusal h

import_later : (raises later : Bool) → refuse_if (raises && not later) refusals.StampNotLater ≡ None → raises ≡ true → later ≡ true
import_later true true h k = refl
import_later true false h k = no_refusal h
import_later false later h k = absurd (true≢false (sym k))

-- those that a command names, if it isn't refused
named_stamp : (cs : History) (given : Command) → force_refusal cs given ≡ None → KeepsStamp cs (entries_of (named_by given))
named_stamp cs (command.RaiseLevel r) h some =
    later_stamp (stamp cs) (Some r.stamp)
    (raise_later (is_sbat r.component.name) (not (is_above r.component.generation (level cs r.component.name))) (nat_lt (stamp cs) r.stamp) h)
named_stamp cs (command.ImportRevocations i) h some =
    later_stamp (stamp cs) i.stamp (import_later (raises_some cs (forced i)) (is_later (stamp cs) i.stamp) h some)
named_stamp cs _ h some = absurd (true≢false (sym some))

own_force : (cs : History) (name : List ℕ) (given : Command) → own_refusal cs name given ≡ None → force_refusal cs given ≡ None
own_force cs name (command.RevokeDigest _) own = own
own_force cs name (command.RevokeCertificate _) own = own
own_force cs name (command.RaiseLevel _) own = own
own_force cs name (command.ImportRevocations _) own = own
own_force cs name _ own = refl

confirmed_force : (state : ProposalState) (own : Bool) (refused : Option Refusal) → confirm_by state own refused ≡ None → refused ≡ None
confirmed_force states.Open false refused h = h
confirmed_force states.Open true refused h = no_refusal h
confirmed_force states.Confirmed own refused h = no_refusal h
confirmed_force states.Dropped own refused h = no_refusal h

-- those of a proposal that is confirmed
proposed_stamp : (cs : History) (o : Option Proposal) (state : ProposalState) (name : List ℕ) → IfSome o HasNames → confirm_refusal cs o state name ≡ None
    → KeepsStamp cs (option_map (λ (p : Proposal). p.named.entries) o)
proposed_stamp cs None state name is h = no_refusal h
proposed_stamp cs (Some p) state name is h =
    subst (λ named. KeepsStamp cs (entries_of named)) is
    (named_stamp cs p.command (confirmed_force state (bytes_eq p.officer name) (force_refusal cs p.command) h))

confirmed_stamp : (cs : History) (name : List ℕ) (given : Command) → own_refusal cs name given ≡ None → KeepsStamp cs (confirmed_by cs given)
confirmed_stamp cs name (command.Confirm k) own = proposed_stamp cs (proposal cs k) (proposal_state cs k) name (found_named cs k) own
confirmed_stamp cs name _ own = λ some. absurd (true≢false (sym some))

accepted_stamp : (cs : History) (c : Call) (rules : Rules) → own_refusal cs (caller_name c.caller) c.command ≡ None → KeepsStamp cs (enforced_by cs (under rules c))
accepted_stamp cs c First own = named_stamp cs c.command (own_force cs (caller_name c.caller) c.command own)
accepted_stamp cs c Second own = confirmed_stamp cs (caller_name c.caller) c.command own

next_stamp : (cs : History) (i : Item) → is_legal (i ∷ cs) ≡ true → stamp cs ≤ stamp (i ∷ cs)
next_stamp cs i h =
    let f = into_force cs i in
    elim (raises_some cs f) as (λ b. raises_some cs f ≡ b → stamp cs ≤ (if b then unwrap_or f.stamp (stamp cs) else stamp cs)) [
      | true ↦ λ e. accepted_stamp cs i.call i.rules (newest cs i h).new.own e
      | false ↦ λ e. omega arith
    ] refl

pub stamp_grows : (cs new : History) → is_legal (new ++ cs) ≡ true → stamp cs ≤ stamp (new ++ cs)
stamp_grows cs [] h = omega arith
stamp_grows cs (i ∷ new) h =
    let here : stamp (new ++ cs) ≤ stamp (i ∷ (new ++ cs)) = next_stamp (new ++ cs) i h in
    let before : stamp cs ≤ stamp (new ++ cs) = stamp_grows cs new (newest (new ++ cs) i h).before in
    omega (arith, here, before)
