use Rattle.std.proofs.Common.{arith, refl, []}
use Rattle.std.proofs.KnownBytes.{Consumes-nil}
use Rattle.http_net.proofs.ReadingOffLemmas.{fits_room, read_more}
use Rattle.http_net.proofs.reading_off.read_off.Goals as goal

pub loop-rest-init : goal.loop-rest-init
loop-rest-init g c = ([], Consumes-nil _, refl)

pub returns-then-count-eq0 : goal.returns-then-count-eq0
returns-then-count-eq0 g c =
    let fits = fits_room c.read_piece-count.result c.min-room.result c.loop-rest.rest c.loop-rest.piece c.read_piece-count.ensures.bound (omega (arith, c.min-room.ensures)) in
    let all = read_more _ _ _ _ _ _ c.loop-rest.invariant c.read_piece-count.ensures.bytes fits in
    (all.0, all.1, omega (arith, all.2))

pub loop-rest-preserved : goal.loop-rest-preserved
loop-rest-preserved g c =
    let fits = fits_room c.read_piece-count.result c.min-room.result c.loop-rest.rest c.loop-rest.piece c.read_piece-count.ensures.bound (omega (arith, c.min-room.ensures)) in
    read_more _ _ _ _ _ _ c.loop-rest.invariant c.read_piece-count.ensures.bytes fits

pub returns : goal.returns
returns g c = (c.loop-rest.invariant.0, c.loop-rest.invariant.1, omega (arith, c.loop-rest.invariant.2))
