use Rattle.std.proofs.Common.{arith, ◌∙◌}
use Rattle.http_requests.proofs.FillingLemmas.{filled, filled_length}
use Rattle.http_requests.proofs.heads.body_reading.fill.Goals as goal

pub loop-count-preserved : goal.loop-count-preserved
loop-count-preserved g c =
    let few = c.in-Ok.ensures.bound.0 in
    let long = filled_length c.loop-count.count c.loop-count.buffer c.read.new.buf (omega arith) (omega arith) in
    record {
      bound = omega (arith, long, few);
      size = long ∙ c.loop-count.invariant.size;
      taken = filled _ _ _ c.loop-count.count c.in-Ok.more c.loop-count.buffer c.read.new.buf (omega arith) (omega arith) few c.loop-count.invariant.taken c.in-Ok.ensures.bytes.0;
    }
