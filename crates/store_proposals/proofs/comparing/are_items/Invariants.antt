use Rattle.std.proofs.Common.{◌≡◌, ◌≤◌, ◌-◌, length, take}
use Rattle.desk_history.specs.Items.{items_from, items_of}
use Rattle.store_proposals.proofs.comparing.are_items.Given as goal

abbrev pub invariant-loop-place : goal.invariant-loop-place
invariant-loop-place l =
    (l.place ≤ length l.rows) × (take l.place l.rows ≡ items_from l.proposal 0 (take l.place (items_of l.named)))

abbrev pub decreases-loop-place : goal.decreases-loop-place
decreases-loop-place l = length l.rows - l.place
