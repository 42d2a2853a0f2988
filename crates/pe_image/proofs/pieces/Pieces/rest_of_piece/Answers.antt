use Rattle.std.proofs.Common.{◌<◌, ◌≤◌, ◌/◌, length, arith, rules}
use Rattle.pe_image.proofs.PiecesLemmas.{is-in_last, rest-of_full, rest-of_last}
use Rattle.pe_image.proofs.pieces.Pieces.rest_of_piece.Goals as goal

pub slice_bounds-result-count-else-index-len : goal.slice_bounds-result-count-else-index-len
slice_bounds-result-count-else-index-len c =
    let p = c.self.inside in
    let behind : length p.full.items ≤ c.args.at / 65536 = search rules in
    let place = is-in_last (λ piece. piece.items) p.full.items p.last.items c.args.self.now c.deref-else-index-len.result.now c.args.at c.self.view_is
    c.self.invariant.0 behind c.self.invariant.1 c.requires c.deref-else-index-len.ensures.value in
    omega arith

pub slice_bounds-result-start-else-index-len : goal.slice_bounds-result-start-else-index-len
slice_bounds-result-start-else-index-len c =
    let p = c.self.inside in
    let behind : length p.full.items ≤ c.args.at / 65536 = search rules in
    let place = is-in_last (λ piece. piece.items) p.full.items p.last.items c.args.self.now c.deref-else-index-len.result.now c.args.at c.self.view_is
    c.self.invariant.0 behind c.self.invariant.1 c.requires c.deref-else-index-len.ensures.value in
    omega arith

pub returns-then-index-len-clause-exact : goal.returns-then-index-len-clause-exact
returns-then-index-len-clause-exact c =
    let p = c.self.inside in
    let within : c.args.at / 65536 < length p.full.items = search rules in
    rest-of_full (λ piece. piece.items) p.full.items p.last.items c.args.self.now c.deref.result.now c.index.result.now c.args.at c.self.view_is
    c.self.invariant.0 within c.index.ensures c.deref.ensures.value

pub returns-else-index-len-clause-some : goal.returns-else-index-len-clause-some
returns-else-index-len-clause-some c =
    let p = c.self.inside in
    let behind : length p.full.items ≤ c.args.at / 65536 = search rules in
    let place = is-in_last (λ piece. piece.items) p.full.items p.last.items c.args.self.now c.deref-else-index-len.result.now c.args.at c.self.view_is
    c.self.invariant.0 behind c.self.invariant.1 c.requires c.deref-else-index-len.ensures.value in
    search rules

pub returns-else-index-len-clause-exact : goal.returns-else-index-len-clause-exact
returns-else-index-len-clause-exact c =
    let p = c.self.inside in
    let behind : length p.full.items ≤ c.args.at / 65536 = search rules in
    rest-of_last (λ piece. piece.items) p.full.items p.last.items c.args.self.now c.deref-else-index-len.result.now c.args.at c.self.view_is
    c.self.invariant.0 behind c.self.invariant.1 c.requires c.deref-else-index-len.ensures.value
