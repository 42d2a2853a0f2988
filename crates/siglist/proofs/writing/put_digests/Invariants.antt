use Rattle.std.proofs.Common.{◌++◌, take}
use Rattle.std.specs.Io.KnownBytes.{Appends}
use Rattle.siglist.proofs.WritingLemmas.{digest_head, entries_text}
use Rattle.siglist.proofs.writing.put_digests.Given as goal

abbrev pub invariant-loop-digest : goal.invariant-loop-digest
invariant-loop-digest g l = Appends (g.W.Write.contents l.fn.writer) (g.W.Write.contents l.writer)
    (digest_head l.kind l.after l.digests ++ entries_text l.owner l.after (take l.digest-index l.digests))
