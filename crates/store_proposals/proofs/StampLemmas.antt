-- The stamps of a history's proposals.
use Rattle.std.proofs.Common.{◌≡◌, ◌<◌, ℕ, true, List, [], ◌∷◌, Option, Some, None, All, arith}
use Rattle.std.specs.Prelude.{IfSome}
use Rattle.std.proofs.lemmas.Bool.Decides.{nat_tests}
use Rattle.std.proofs.lemmas.List.Elements.{All-cons, All-head, All-map, All-nil, All-tail}
use Rattle.sbat.specs.Fields.{is_stamp}
use Rattle.desk_types.specs.Commands.{IsCommand, IsStamp}
use Rattle.desk_types.specs.declared.command.Call.{Call}
use Rattle.desk_types.specs.declared.command.Command.{Command}
use Rattle.desk_types.specs.declared.command.Command.TheVariants as command
use Rattle.desk_history.specs.Calls.{First, History, Rules, Second, under}
use Rattle.desk_history.specs.Formed.{IsItem}
use Rattle.desk_history.specs.Proposals.{Named, Proposal, named_by, proposal_state, proposals, proposed_by, with_next}
use Rattle.desk_history.specs.Tables.{proposal_row, tables}
use Rattle.store_proposals.specs.Reading.{IsStamped}

-- a stamp that is named isn't 0
abbrev HasStamp : Option ℕ → Type 0
HasStamp stamp = IfSome stamp (λ s. 0 < s)

above : (s : ℕ) → is_stamp s ≡ true → 0 < s
above s h = grind (arith, nat_tests, h)

any_above : (stamp : Option ℕ) → IsStamp stamp → HasStamp stamp
any_above None h = tt
any_above (Some s) h = above s h

named_stamped : (given : Command) → IsCommand given → IfSome (named_by given) (λ n. HasStamp n.entries.stamp)
named_stamped (command.RaiseLevel r) h = above r.stamp h.1
named_stamped (command.ImportRevocations i) h = any_above i.stamp h.stamp
named_stamped (command.RevokeDigest _) h = tt
named_stamped (command.RevokeCertificate _) h = tt
named_stamped _ h = tt

proposed_stamped : (c : Call) (rules : Rules) → IsCommand c.command → IfSome (proposed_by (under rules c)) (λ n. HasStamp n.entries.stamp)
proposed_stamped c First h = tt
proposed_stamped c Second h = named_stamped c.command h

next_stamped : (ps : List Proposal) (c : Call) (named : Option Named) → IfSome named (λ n. HasStamp n.entries.stamp) → All (λ (p : Proposal). HasStamp p.named.entries.stamp) ps
    → All (λ (p : Proposal). HasStamp p.named.entries.stamp) (with_next ps c named)
next_stamped ps c None h all = all
next_stamped ps c (Some n) h all = All-cons (λ (p : Proposal). HasStamp p.named.entries.stamp) _ ps h all

proposals_stamped : (cs : History) → All IsItem cs → All (λ (p : Proposal). HasStamp p.named.entries.stamp) (proposals cs)
proposals_stamped [] h = All-nil (λ (p : Proposal). HasStamp p.named.entries.stamp)
proposals_stamped (i ∷ cs) h =
    next_stamped (proposals cs) i.call (proposed_by i) (proposed_stamped i.call i.rules (All-head IsItem i cs h).forms) (proposals_stamped cs (All-tail IsItem i cs h))

pub rows_stamped : (owner : List ℕ) (cs : History) → All IsItem cs → All IsStamped (tables owner cs).proposals
rows_stamped owner cs h = All-map IsStamped (λ (p : Proposal). proposal_row (proposal_state cs p.number) p) (proposals cs) (proposals_stamped cs h)
