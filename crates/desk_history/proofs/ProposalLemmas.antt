-- Proposals: their numbers, and what they name.
use Rattle.std.proofs.Common.{◌≡◌, ℕ, ◌+◌, ◌<◌, ◌≤◌, Bool, true, false, All, IfSome, List, [], ◌∷◌, length, map, Option, Some, None, refl, subst, arith}
use Rattle.std.specs.Prelude.{◌==◌, if◌then◌else◌, find, option_map}
use Rattle.std.specs.List.{list_any}
use Rattle.std.proofs.lemmas.List.Elements.{All-cons, All-head, All-nil, All-tail}
use Rattle.desk_types.specs.Callers.{caller_name}
use Rattle.desk_types.specs.Commands.{IsCommand}
use Rattle.desk_types.specs.Formed.{IsCall, IsWithin}
use Rattle.desk_types.specs.Forms.{most_imported}
use Rattle.desk_types.specs.Imports.{Imported, named_count}
use Rattle.desk_types.specs.declared.command.Call.{Call}
use Rattle.desk_types.specs.declared.command.Command.{Command}
use Rattle.desk_types.specs.declared.command.Command.TheVariants as command
use Rattle.desk_types.specs.declared.proposal.ProposalState.{ProposalState}
use Rattle.desk_history.specs.Calls.{First, History, Rules, Second, are_apart, under}
use Rattle.desk_history.specs.Forces.{confirmed_by, enforced_by}
use Rattle.desk_history.specs.Formed.{IsItem}
use Rattle.desk_history.specs.Proposals.{Named, Proposal, is_proposal, named_by, proposal, proposals, proposed_by, with_next}
use Rattle.desk_history.specs.Tables.{proposal_row}
use Rattle.desk_history.specs.declared.rows.ProposalRow.{ProposalRow}
use Rattle.desk_history.proofs.ListLemmas.{apart-more, number_above, or_none}

-- ---- numbers: those of the proposals before are lower

module _ (at : Proposal → ProposalState) where
  abbrev rows : List Proposal → List ProposalRow
  rows ps = map (λ p. proposal_row (at p) p) ps

  any_next : (n : ℕ) (ps : List Proposal) (c : Call) (named : Option Named) → (length ps < n → list_any (λ (b : ProposalRow). n == b.number) (rows ps) ≡ false)
      → length (with_next ps c named) < n → list_any (λ (b : ProposalRow). n == b.number) (rows (with_next ps c named)) ≡ false
  any_next n ps c None before h = before h
  any_next n ps c (Some named) before h =
      or_none (n == length ps + 1) (list_any (λ (b : ProposalRow). n == b.number) (rows ps)) (number_above n (length ps + 1) (omega arith)) (before (omega arith))

  any_proposal : (n : ℕ) (cs : History) → length (proposals cs) < n → list_any (λ (b : ProposalRow). n == b.number) (rows (proposals cs)) ≡ false
  any_proposal n [] h = refl
  any_proposal n (i ∷ cs) h = any_next n (proposals cs) i.call (proposed_by i) (any_proposal n cs) h

  next_apart : (ps : List Proposal) (c : Call) (named : Option Named) → ((n : ℕ) → length ps < n → list_any (λ (b : ProposalRow). n == b.number) (rows ps) ≡ false)
      → are_apart (λ (a b : ProposalRow). a.number == b.number) (rows ps) ≡ true → are_apart (λ (a b : ProposalRow). a.number == b.number) (rows (with_next ps c named)) ≡ true
  next_apart ps c None above h = h
  next_apart ps c (Some named) above h =
      let p : Proposal = record { number = length ps + 1; officer = caller_name c.caller; command = c.command; named = named } in
      apart-more (λ (a b : ProposalRow). a.number == b.number) (proposal_row (at p) p) (rows ps) (above (length ps + 1) (omega arith)) h

  pub proposals_apart : (cs : History) → are_apart (λ (a b : ProposalRow). a.number == b.number) (rows (proposals cs)) ≡ true
  proposals_apart [] = refl
  proposals_apart (i ∷ cs) = next_apart (proposals cs) i.call (proposed_by i) (λ n. any_proposal n cs) (proposals_apart cs)

-- ---- the entries that they name

-- the proposal names what its command names, which is in its forms and keeps within its limits
pub record IsProposed (p : Proposal) : Type 0 where
  pub names : named_by p.command ≡ Some p.named
  pub forms : IsCommand p.command
  pub limits : IsWithin p.command

one_proposed : (ps : List Proposal) (c : Call) (rules : Rules) → IsCommand c.command → IsWithin c.command → All IsProposed ps → All IsProposed (with_next ps c (proposed_by (under rules c)))
one_proposed ps c First f w h = h
one_proposed ps c Second f w h =
    elim (named_by c.command) as (λ o. named_by c.command ≡ o → All IsProposed (with_next ps c o)) [
      | None ↦ λ e. h
      | Some named ↦ λ e. All-cons IsProposed (record { number = length ps + 1; officer = caller_name c.caller; command = c.command; named = named }) ps (record { names = e; forms = f; limits = w }) h
    ] refl

pub all_proposed : (cs : History) → All IsItem cs → All IsProposed (proposals cs)
all_proposed [] h = All-nil IsProposed
all_proposed (i ∷ cs) h =
    let here = All-head IsItem i cs h in
    one_proposed (proposals cs) i.call i.rules here.forms here.limits (all_proposed cs (All-tail IsItem i cs h))

-- the item that is found is one of the list
found_all : {X : Type 0} (P : X → Type 0) (p : X → Bool) (xs : List X) → All P xs → IfSome (find p xs) P
found_all P p [] h = tt
found_all P p (x ∷ xs) h =
    elim (p x) as (λ b. IfSome (if b then Some x else find p xs) P) [
      | true ↦ All-head P x xs h
      | false ↦ found_all P p xs (All-tail P x xs h)
    ]

-- the proposal of a number names what its command names
pub found_proposed : (cs : History) (k : ℕ) → All IsItem cs → IfSome (proposal cs k) IsProposed
found_proposed cs k h = found_all IsProposed (is_proposal k) (proposals cs) (all_proposed cs h)

-- ---- each names what its command names

abbrev pub HasNames : Proposal → Type 0
HasNames p = named_by p.command ≡ Some p.named

one_named : (ps : List Proposal) (c : Call) (rules : Rules) → All HasNames ps → All HasNames (with_next ps c (proposed_by (under rules c)))
one_named ps c First h = h
one_named ps c Second h =
    elim (named_by c.command) as (λ o. named_by c.command ≡ o → All HasNames (with_next ps c o)) [
      | None ↦ λ e. h
      | Some named ↦ λ e. All-cons HasNames (record { number = length ps + 1; officer = caller_name c.caller; command = c.command; named = named }) ps e h
    ] refl

all_named : (cs : History) → All HasNames (proposals cs)
all_named [] = All-nil HasNames
all_named (i ∷ cs) = one_named (proposals cs) i.call i.rules (all_named cs)

pub found_named : (cs : History) (k : ℕ) → IfSome (proposal cs k) HasNames
found_named cs k = found_all HasNames (is_proposal k) (proposals cs) (all_named cs)

-- ---- entries that are put into force

-- the entries that a command names
abbrev pub entries_of : Option Named → Option Imported
entries_of o = option_map (λ n. n.entries) o

-- a fact of all entries that a command in its forms names
module _ (P : Imported → Type 0) (names_so : (c : Command) → IsCommand c → IsWithin c → IfSome (entries_of (named_by c)) P) where
  proposed_so : (o : Option Proposal) → IfSome o IsProposed → IfSome (option_map (λ (p : Proposal). p.named.entries) o) P
  proposed_so None h = tt
  proposed_so (Some p) h = subst (λ o. IfSome (entries_of o) P) h.names (names_so p.command h.forms h.limits)

  confirmed_so : (cs : History) (c : Command) → All IsItem cs → IfSome (confirmed_by cs c) P
  confirmed_so cs (command.Confirm k) h = proposed_so (proposal cs k) (found_proposed cs k h)
  confirmed_so cs _ h = tt

  -- holds of all that a call in its forms puts into force
  pub enforced_so : (cs : History) (c : Call) (rules : Rules) → All IsItem cs → IsCall c → IfSome (enforced_by cs (under rules c)) P
  enforced_so cs c First h given = names_so c.command given.forms given.limits
  enforced_so cs c Second h given = confirmed_so cs c.command h

abbrev pub AreFew : Imported → Type 0
AreFew i = named_count i.passed i.digests i.certificates i.components ≤ most_imported

named_few : (c : Command) → IsCommand c → IsWithin c → IfSome (entries_of (named_by c)) AreFew
named_few (command.RevokeDigest d) f w = omega arith
named_few (command.RevokeCertificate d) f w = omega arith
named_few (command.RaiseLevel r) f w = omega arith
named_few (command.ImportRevocations i) f w = w.entries
named_few _ f w = tt

-- a call in its forms puts no more entries into force than an import may name
pub enforced_few : (cs : History) (c : Call) (rules : Rules) → All IsItem cs → IsCall c → IfSome (enforced_by cs (under rules c)) AreFew
enforced_few cs c rules h given = enforced_so AreFew named_few cs c rules h given
