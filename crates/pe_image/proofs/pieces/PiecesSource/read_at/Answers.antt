use Rattle.std.proofs.Common.{◌≡◌, ◌≤◌, ◌∙◌, ◌++◌, ap, length, take, length-take-le, arith, rules}
use Rattle.std.proofs.lemmas.List.{places, take-take}
use Rattle.pe_image.proofs.PiecesLemmas.{take-behind, slice-more}
use Rattle.pe_image.proofs.pieces.PiecesSource.read_at.Goals as goal

pub loop-done-preserved : goal.loop-done-preserved
loop-done-preserved c =
    let all = c.args.self.now in
    let at = c.args.at in
    let done = c.loop-done.done in
    let out = c.loop-done.out in
    let count = c.min-count.result in
    let rest = c.rest_of_piece-rest.result.now in
    let new = c.copy_from_slice.new.self in
    let few : count ≤ length rest = omega (arith, c.min-count.ensures) in
    let shown : new ≡ take count rest = search rules in
    let width : length new ≡ count = ap length shown ∙ length-take-le count rest few in
    let front = length-take-le done out c.loop-done.invariant.bound in
    let read = take-behind (take done out) new _ done count front (omega arith) in
    let more = slice-more all rest at done count c.rest_of_piece-rest.ensures.exact few (omega (arith, c.min-count.ensures, c.requires)) in
    record {
      bound = search (rules, places);
      width = search (rules, places);
      read = read ∙ ap (λ l. take done out ++ take count l) shown ∙ ap (λ l. take done out ++ l) (take-take count count rest (omega arith))
          ∙ ap (λ l. l ++ take count rest) c.loop-done.invariant.read ∙ more;
    }
