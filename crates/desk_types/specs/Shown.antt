-- Requests as a reader sees them.
use Rattle.std.specs.Prelude.{List}
use Rattle.std.specs.List.Sorted.{IsSortedByKey}
use Rattle.std.specs.Ordering.{nat_cmp}
use Rattle.std.specs.Cmp.Lexicographic.{slice_cmp}
use Rattle.desk_types.specs.declared.shown.ShownVote.{ShownVote}

-- own: the votes ascend by the bytes of their reviewers' names
abbrev pub AreByReviewer : List ShownVote → Type 0
AreByReviewer votes = IsSortedByKey (λ v. v.reviewer) (slice_cmp nat_cmp) votes
