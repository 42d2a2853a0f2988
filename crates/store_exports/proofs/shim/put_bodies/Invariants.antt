use Rattle.std.proofs.Common.{flat_map, take}
use Rattle.std.specs.Io.KnownBytes.{Appends}
use Rattle.store_exports.specs.Gathering.{bodies_text}
use Rattle.store_exports.proofs.shim.put_bodies.Given as goal

abbrev pub invariant-loop-one : goal.invariant-loop-one
invariant-loop-one g l = Appends (g.W.Write.contents l.fn.writer) (g.W.Write.contents l.writer)
    (flat_map (bodies_text l.owner) (take l.one-index l.gathered))
