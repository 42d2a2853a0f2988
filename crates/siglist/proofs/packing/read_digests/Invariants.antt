use Rattle.std.proofs.Common.{◌≡◌}
use Rattle.base.specs.Lines.{parted}
use Rattle.siglist.specs.Packing.{digests_in}
use Rattle.base.proofs.NamedLemmas.{put_before}
use Rattle.siglist.proofs.packing.read_digests.Given as goal

abbrev pub invariant-loop-line : goal.invariant-loop-line
invariant-loop-line l = put_before l.digests.items (digests_in l.line-iterator) ≡ digests_in (parted l.text)
