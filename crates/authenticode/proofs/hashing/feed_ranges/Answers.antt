use Rattle.std.proofs.Common.{◌<◌, ◌≤◌, ◌++◌, ℕ, List, length, slice_range, subst, rules}
use Rattle.std.specs.Prelude.{All}
use Rattle.std.proofs.lemmas.List.Elements.{All-tail}
use Rattle.sha2.specs.Hashers.{Holds256}
use Rattle.pe_image.specs.Spans.{EndWithin, bytes_at}
use Rattle.authenticode.proofs.HashingLemmas.{Feeds, Feeds-next}
use Rattle.authenticode.proofs.hashing.feed_ranges.Goals as goal

pub loop-span-preserved : goal.loop-span-preserved
loop-span-preserved g c =
    let file = g.S.Source.content c.args.source.now in
    let span = c.in-Some.span in
    let rest = c.next.new.self in
    let steps = c.in-Some.ensures.steps in
    record {
      feeds = λ m held.
          let message = m ++ bytes_at file c.args.ranges in
          Feeds-next c.loop-span.hasher c.feed.new.hasher file span rest message
          (subst (λ left. Feeds c.loop-span.hasher file left message) steps (c.loop-span.invariant.feeds m held))
          (subst (λ f. (m : List ℕ) → Holds256 c.loop-span.hasher m → Holds256 c.feed.new.hasher (m ++ slice_range f span.from span.to)) c.loop-span.invariant.reads.same c.in_ok-feed.ensures.ok);
      full = All-tail (λ s. s.from < s.to) span rest (subst (All (λ s. s.from < s.to)) steps c.loop-span.invariant.full);
      within = All-tail (λ s. s.to ≤ length file) span rest (subst (EndWithin (length file)) steps c.loop-span.invariant.within);
      reads = record { same = search rules; kept = search rules };
    }
