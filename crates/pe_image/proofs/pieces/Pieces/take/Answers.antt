use Rattle.std.proofs.Common.{◌≡◌, ℕ, length, length-append, arith, rules}
use Rattle.std.proofs.lemmas.Grind.{common_steps}
use Rattle.std.specs.List.{flat_map}
use Rattle.pe_image.proofs.PiecesLemmas.{length-pieces}
use Rattle.pe_image.proofs.pieces.Pieces.take.Goals as goal

pub returns-then-len-lt-PIECE-clause-bound : goal.returns-then-len-lt-PIECE-clause-bound
returns-then-len-lt-PIECE-clause-bound g c =
    let full = length-pieces (λ piece. piece.items) c.loop-full.full.items c.loop-full.invariant.pieces in
    let size : c.len.result ≡ length c.in_ok-piece.piece.items = search rules in
    let both = length-append {A = ℕ} (flat_map (λ piece. piece.items) c.loop-full.full.items) c.in_ok-piece.piece.items in
    omega (arith, c.in_ok-piece.ensures.bound, c.min-room.ensures)

pub returns-then-len-lt-PIECE-clause-end : goal.returns-then-len-lt-PIECE-clause-end
returns-then-len-lt-PIECE-clause-end g c = λ short.
    let full = length-pieces (λ piece. piece.items) c.loop-full.full.items c.loop-full.invariant.pieces in
    let size : c.len.result ≡ length c.in_ok-piece.piece.items = search rules in
    let both = length-append {A = ℕ} (flat_map (λ piece. piece.items) c.loop-full.full.items) c.in_ok-piece.piece.items in
    c.in_ok-piece.ensures.end (omega (arith, c.min-room.ensures))

pub loop-full-preserved : goal.loop-full-preserved
loop-full-preserved g c = grind (arith, common_steps)
