use Rattle.std.proofs.Common.{◌≡◌, ◌++◌, ℕ, List, slice_range}
use Rattle.sha2.specs.Hashers.{Holds256}
use Rattle.pe_image.specs.Passes.{first_pass_of}
use Rattle.authenticode.specs.Hashing.{bytes_between}
use Rattle.authenticode.proofs.SumsLemmas.{Meets}
use Rattle.authenticode.proofs.summing.feed_piece.Given as goal

abbrev pub invariant-loop-span : goal.invariant-loop-span
invariant-loop-span l = record {
  meets : (f m : List ℕ) → l.piece ≡ slice_range f l.at l.end → Holds256 l.initial.hasher m
      → Meets l.hasher f l.at l.end l.span-iterator (m ++ bytes_between f l.at l.end (first_pass_of l.layout));
}
