use Rattle.std.proofs.Common.{◌≡◌, ◌++◌, length, List, IsTrue}
use Rattle.std.specs.Vec.Iter.{into_iter_items, into_iter_len}
use Rattle.sqlite.specs.Held.{state}
use Rattle.sqlite.specs.State.{HasCleanDisk, Survives}
use Rattle.store_reads.specs.Reads.{ReadsTables}
use Rattle.store_reads.specs.declared.proposal_head.ProposalHead.{ProposalHead}
use Rattle.store_proposals.specs.Listing.{AreTold}
use Rattle.store_proposals.proofs.listing.all_of.Given as goal

abbrev pub invariant-loop-head : goal.invariant-loop-head
invariant-loop-head g l =
    let first = state g.S.Store l.fn.tx.conn.now in
    let now = state g.S.Store l.tx.conn.now in
    (l.tx.conn.ghost_name ≡ l.fn.tx.conn.ghost_name) × Survives first now (λ _. ⊥)
    × (into_iter_len l.head-iterator ≡ length (into_iter_items l.head-iterator))
    × (HasCleanDisk now → IsTrue first.in_transaction
    → (done : List ProposalHead) × (done ++ into_iter_items l.head-iterator ≡ into_iter_items l.initial.head-iterator) × ReadsTables (AreTold done l.all.items) first now)
