use Rattle.std.proofs.Common.{◌≡◌, ◌-◌, ◌≤◌, ◌∙◌, ap, length, max, take, arith}
use Rattle.pe_image.proofs.PassesLemmas.{but-last-left}
use Rattle.pe_image.proofs.span_list.Ranges.but_last.Goals as goal

pub returns : goal.returns
returns c =
    let r = c.self.inside in
    let fits : r.end ≤ length r.spans = omega (arith, c.self.invariant) in
    let next : c.max.result ≡ max (r.end - 1) r.next = omega (arith, c.max.ensures, c.saturating_sub.ensures) in
    but-last-left r.spans r.next r.end c.max.result c.self.invariant.0 fits next ∙ ap (λ l. take (length l - 1) l) c.self.view_is
