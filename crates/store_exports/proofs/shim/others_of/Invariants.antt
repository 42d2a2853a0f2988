use Rattle.std.proofs.Common.{◌≡◌, take}
use Rattle.store_exports.specs.Gathering.{bodiless}
use Rattle.store_exports.proofs.shim.others_of.Given as goal

abbrev pub invariant-loop-one : goal.invariant-loop-one
invariant-loop-one l = l.others.items ≡ bodiless (take l.one-index l.gathered)
