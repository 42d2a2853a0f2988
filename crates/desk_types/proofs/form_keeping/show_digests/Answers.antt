use Rattle.std.proofs.Common.{subst, sym, take}
use Rattle.std.proofs.lemmas.List.{take_all}
use Rattle.std.proofs.lemmas.List.Elements.{All-more, All-same}
use Rattle.desk_types.specs.Commands.{IsDigest}
use Rattle.desk_types.proofs.form_keeping.show_digests.Goals as goal

pub loop-digest-preserved : goal.loop-digest-preserved
loop-digest-preserved c =
    All-more IsDigest c.args.digests.now c.loop-digest.digest-index c.digest-item.result c.loop-digest-test.true c.loop-digest.invariant
    (subst IsDigest c.digest-item.is c.show_digest.ensures)

pub returns : goal.returns
returns c =
    let items = c.args.digests.now in
    let last = c.loop-digest.digest-index in
    All-same IsDigest items (take last items) (sym (take_all last items c.loop-digest-test.false)) c.loop-digest.invariant
