use Rattle.std.proofs.Common.{length, rules, ap, arith}
use Rattle.siglist.proofs.PackingLemmas.{IsPacked-given, IsPartlyPacked-given, Packs-given, few_digests}
use Rattle.siglist.proofs.packing.pack.Goals as goal

pub write_sha256-requires : goal.write_sha256-requires
write_sha256-requires g c =
    let few = few_digests c.deref.result.now c.in_ok-digests.digests.items c.in_ok-digests.ensures.ok in
    let text = ap length c.deref.ensures.value in
    record { few = omega (arith, few, text, c.in_ok-text.ensures.bound, c.deref-2.ensures.len, c.arrange.ensures.fewer, c.in_ok-digests.digests.ok.0) }

pub returns-clause-ok : goal.returns-clause-ok
returns-clause-ok g c =
    let packs = Packs-given _ c.in_ok-text.text.items _ _ _ c.in_ok-text.ensures.whole c.in_ok-text.ensures.bound c.deref.ensures.value c.in_ok-digests.ensures.ok c.arrange.ensures.arranged in
    IsPacked-given _ _ c.arrange.new.digests.items _ _ _ packs (search rules) (rw c.deref-2.ensures.value at c.in_ok-write_sha256.ensures.ok)

pub returns-in_err-write_sha256-clause-write : goal.returns-in_err-write_sha256-clause-write
returns-in_err-write_sha256-clause-write g c = λ _.
    let packs = Packs-given _ c.in_ok-text.text.items _ _ _ c.in_ok-text.ensures.whole c.in_ok-text.ensures.bound c.deref.ensures.value c.in_ok-digests.ensures.ok c.arrange.ensures.arranged in
    IsPartlyPacked-given _ _ c.arrange.new.digests.items _ _ packs (rw c.deref-2.ensures.value at c.in_err-write_sha256.ensures.err)
