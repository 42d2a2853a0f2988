use Rattle.std.proofs.Common.{◌≡◌, ◌++◌, length, map}
use Rattle.std.specs.Vec.Iter.{into_iter_items, into_iter_len}
use Rattle.desk_history.specs.Shown.{shown_vote}
use Rattle.store_shown.proofs.making.votes_in.Given as goal

abbrev pub invariant-loop-row : goal.invariant-loop-row
invariant-loop-row l =
    (l.votes.items ++ map shown_vote (into_iter_items l.row-iterator) ≡ map shown_vote (into_iter_items l.initial.row-iterator))
    × (into_iter_len l.row-iterator ≡ length (into_iter_items l.row-iterator))
