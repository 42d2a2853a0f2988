use Rattle.std.proofs.Common.{rules, tests}
use Rattle.std.specs.Cmp.Lexicographic.{slice_cmp}
use Rattle.std.specs.Ordering.{is_lt, nat_cmp}
use Rattle.std.proofs.lemmas.List.Sorted.{answers_always}
use Rattle.desk_types.proofs.ItemReadingLemmas.{ascending_by}
use Rattle.desk_types.proofs.facts_reading.is_ascending.Goals as goal

pub returns : goal.returns
returns c =
    ascending_by c.args.digests.now c.is_sorted_by.result
    (c.is_sorted_by.ensures.cases (λ x y. is_lt (slice_cmp nat_cmp x y)) (answers_always _ _ _ (λ f a r g called. search (rules, tests))))
