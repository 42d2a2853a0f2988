use Rattle.std.proofs.Common.{◌+◌, ◌-◌, ◌++◌, ◌∙◌, ap, drop, max, min, length, subst, take, arith}
use Rattle.sha2.specs.Hashers.{Holds256}
use Rattle.pe_image.specs.Passes.{first_pass_of}
use Rattle.authenticode.specs.Hashing.{bytes_between}
use Rattle.authenticode.proofs.SumsLemmas.{Meets, Meets-next, slice-in}
use Rattle.authenticode.proofs.summing.feed_piece.Goals as goal

pub loop-span-preserved-then-begin-stop : goal.loop-span-preserved-then-begin-stop
loop-span-preserved-then-begin-stop c =
    let at = c.args.at in
    let end = at + length c.args.piece.now in
    let span = c.in-Some.span in
    let begin = c.max-begin.ensures in
    let stop = c.min-stop.ensures in
    record {
      meets = λ f m is held.
          let message = m ++ bytes_between f at end (first_pass_of c.args.layout.now) in
          let part = slice-in f c.args.piece.now at end (max span.from at) (min span.to end) is (omega arith) (omega arith) (omega arith) in
          let piece = c.args.piece.now in
          let shown = ap (λ i. take ((c.min-stop.result - at) - (i - at)) (drop (i - at) piece)) begin
          ∙ ap (λ j. take ((j - at) - (max span.from at - at)) (drop (max span.from at - at) piece)) stop ∙ part in
          Meets-next c.loop-span.hasher c.update.new.self f at end span c.next.new.self message
          (subst (λ left. Meets c.loop-span.hasher f at end left message) c.in-Some.ensures.steps (c.loop-span.invariant.meets f m is held))
          (λ said told. subst (λ l. Holds256 c.update.new.self (said ++ l)) shown (c.update.ensures said told));
    }
