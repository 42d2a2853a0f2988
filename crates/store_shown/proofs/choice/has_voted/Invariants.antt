use Rattle.std.proofs.Common.{◌≡◌, drop}
use Rattle.std.specs.Prelude.{bytes_eq}
use Rattle.std.specs.List.{list_any}
use Rattle.store_shown.proofs.choice.has_voted.Given as goal

abbrev pub invariant-loop-vote : goal.invariant-loop-vote
invariant-loop-vote l = list_any (λ v. bytes_eq l.reader.name v.reviewer) (drop l.vote-index l.votes) ≡ list_any (λ v. bytes_eq l.reader.name v.reviewer) l.votes
