use Rattle.std.proofs.Common.{◌≡◌, ◌++◌, length, slice_range, ap, ◌∙◌, subst, append_assoc, arith, rules}
use Rattle.std.proofs.lemmas.List.{places}
use Rattle.sha2.specs.Hashers.{Holds256}
use Rattle.authenticode.proofs.HashingLemmas.{block_fed, block_read}
use Rattle.authenticode.proofs.hashing.feed.Goals as goal

pub loop-at-preserved : goal.loop-at-preserved
loop-at-preserved g c =
    let file = g.S.Source.content c.args.source.now in
    let at = c.loop-at.at in
    let from = c.args.span.from in
    let size = c.min-size.result in
    let out = c.read_at.new.out in
    let piece = c.loop-at.piece in
    let read = block_read (g.S.Source.content c.loop-at.source) file out piece at size c.loop-at.invariant.reads.same (omega arith) c.in_ok-read_at.ensures.ok in
    let wide : length out ≡ size = search (rules, places) in
    let fed = block_fed file out piece from at size read wide (omega arith) (omega (arith, c.requires.within)) in
    record {
      after = search rules;
      before = search rules;
      piece = search (rules, places);
      reads = record { same = search rules; kept = search rules };
      fed = λ m held.
          subst (Holds256 c.update.new.self) (append_assoc m (slice_range file from at) _ ∙ ap (λ l. m ++ l) fed)
          (c.update.ensures (m ++ slice_range file from at) (c.loop-at.invariant.fed m held));
    }
