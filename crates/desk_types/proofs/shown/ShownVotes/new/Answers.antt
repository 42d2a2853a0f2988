use Rattle.std.proofs.Common.{rules}
use Rattle.std.specs.Ordering.{is_lt, nat_cmp}
use Rattle.std.specs.Cmp.Lexicographic.{slice_cmp}
use Rattle.std.proofs.lemmas.Cmp.{nat_list_cmp_total}
use Rattle.std.proofs.lemmas.List.Sorted.{answers_always, ranks_by}
use Rattle.desk_types.proofs.shown.ShownVotes.new.Goals as goal

-- names compare by a total order, so the sort leaves the votes in it
pub invariant_of-result : goal.invariant_of-result
invariant_of-result c =
    c.sort_unstable_by.ensures.sorted
    (λ one other. is_lt (slice_cmp nat_cmp one.reviewer other.reviewer))
    (ranks_by nat_list_cmp_total (λ vote. vote.reviewer))
    (answers_always _ _ _ (λ f a r g called. search rules))

pub returns-clause-order : goal.returns-clause-order
returns-clause-order c = invariant_of-result c
