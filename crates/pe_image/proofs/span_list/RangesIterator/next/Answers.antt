use Rattle.std.proofs.Common.{◌≡◌, ◌<◌, ◌+◌, ◌∷◌, length, take, drop, ◌∙◌, sym, ap, arith}
use Rattle.std.proofs.lemmas.List.{drop_more, get_or-take, length-take-le}
use Rattle.pe_image.proofs.span_list.RangesIterator.next.Goals as goal
use Rattle.pe_image.specs.Spans.{span}

pub returns-clause-steps : goal.returns-clause-steps
returns-clause-steps c =
    let spans = c.self.inside.spans in
    let next = c.self.inside.next in
    let end = c.self.inside.end in
    let fits : next < end = grind arith in
    let size : length (take end spans) ≡ end = length-take-le end spans (omega arith) in
    let first = drop_more (take end spans) next (span 0 0) (omega arith) in
    sym c.self.view_is ∙ first ∙ ap (λ s. s ∷ drop (next + 1) (take end spans)) (get_or-take end spans next (span 0 0) fits)
