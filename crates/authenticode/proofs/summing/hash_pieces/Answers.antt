use Rattle.std.proofs.Common.{◌≡◌, ◌+◌, ◌≤◌, ◌++◌, ◌∙◌, ap, refl, length, slice_range, sym, subst, arith, rules}
use Rattle.std.proofs.lemmas.List.{places}
use Rattle.sha2.specs.Hashers.{Holds256}
use Rattle.pe_image.specs.Passes.{first_pass_of}
use Rattle.pe_image.proofs.PassesLemmas.{first-chain, first-between}
use Rattle.authenticode.specs.Hashing.{bytes_between}
use Rattle.authenticode.proofs.HashingLemmas.{block_fed, block_front, block_read}
use Rattle.authenticode.proofs.SumsLemmas.{between-all, between-before, between-next}
use Rattle.authenticode.proofs.summing.hash_pieces.Goals as goal

pub loop-at-init : goal.loop-at-init
loop-at-init g c =
    let file = g.S.Source.content c.args.source.now in
    let p = c.args.layout.now in
    let none = between-before file 0 0 0 (first_pass_of p) (first-chain file p c.requires) (omega arith) in
    record {
      before = omega arith;
      piece = search rules;
      file = search rules;
      ranges = subst (Holds256 c.new-ranges.result) (sym none) c.new-ranges.ensures;
      reads = record { same = refl; kept = omega arith };
    }

pub loop-at-preserved : goal.loop-at-preserved
loop-at-preserved g c =
    let file = g.S.Source.content c.args.source.now in
    let p = c.args.layout.now in
    let at = c.loop-at.at in
    let size = c.min-size.result in
    let out = c.read_at.new.out in
    let piece = c.loop-at.piece in
    let small = c.min-size.ensures in
    let read = block_read (g.S.Source.content c.loop-at.source) file out piece at size c.loop-at.invariant.reads.same (omega arith) c.in_ok-read_at.ensures.ok in
    let wide : length out ≡ size = search (rules, places) in
    let fits : at + size ≤ length file = omega (arith, small, c.len-end.ensures) in
    let front = block_front out piece size wide in
    let fed = block_fed file out piece 0 at size read wide (omega arith) fits in
    let chain = first-chain file p c.requires in
    let next = between-next file 0 at (at + size) (first_pass_of p) chain (omega arith) fits in
    let ss = first_pass_of p in
    let met = bytes_between file 0 at ss in
    let count = ap length front ∙ wide in
    let shown = front ∙ read ∙ ap (λ k. slice_range file at (at + k)) (sym count) in
    record {
      before = search rules;
      piece = search (rules, places);
      file = subst (Holds256 c.update.new.self) fed (c.update.ensures (slice_range file 0 at) c.loop-at.invariant.file);
      ranges = subst (Holds256 c.feed_piece.new.hasher) (ap (λ k. met ++ bytes_between file at (at + k) ss) count ∙ sym next)
          (c.feed_piece.ensures file met shown c.loop-at.invariant.ranges);
      reads = record { same = search rules; kept = search rules };
    }

pub returns-clause-ranges : goal.returns-clause-ranges
returns-clause-ranges g c =
    let file = g.S.Source.content c.args.source.now in
    let p = c.args.layout.now in
    let done : c.loop-at.at ≡ length file = omega (arith, c.len-end.ensures) in
    let all = between-all file (length file) (first_pass_of p) (first-between file p c.requires).within in
    subst (Holds256 c.loop-at.ranges) (ap (λ n. bytes_between file 0 n (first_pass_of p)) done ∙ all) c.loop-at.invariant.ranges
