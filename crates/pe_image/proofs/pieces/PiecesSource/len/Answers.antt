use Rattle.std.proofs.Common.{ℕ, ap, length, length-append, arith}
use Rattle.pe_image.proofs.PiecesLemmas.{length-pieces}
use Rattle.pe_image.proofs.pieces.PiecesSource.len.Goals as goal

pub returns : goal.returns
returns c =
    let full = length-pieces (λ piece. piece.items) c.self.inside.full.items c.self.invariant.0 in
    let all = ap length c.self.view_is in
    omega (arith, length-append {A = ℕ})
