use Rattle.std.proofs.Common.{Err, ap}
use Rattle.hex.specs.Hex.{encode_lower}
use Rattle.desk_types.specs.Commands.{IsDigest}
use Rattle.desk_types.proofs.ItemReadingLemmas.{Reads-ends, Reads-more, Reads-not_last, Reads-not_more, equal_not, passed_on}
use Rattle.desk_types.proofs.ValueLemmas.{digest_items}
use Rattle.desk_types.proofs.items_reading.digests_of.Goals as goal

pub returns-in_err-add_digest-clause-only : goal.returns-in_err-add_digest-clause-only
returns-in_err-add_digest-clause-only c = λ fault.
    Reads-not_more IsDigest encode_lower digest_items c.args.text.now c.loop-item.digests.items c.loop-item.rest.now c.in-Some.item.now c.in-Some.more.now c.loop-item.invariant
    c.in-Some.ensures.found (c.in_err-add_digest.ensures.only (ap Err (passed_on c.from_residual.result _ _ c.from_residual.ensures fault)))
    (equal_not c.args.text.now c.as_slice.result.now _ c.eq.result c.as_slice.ensures c.eq.ensures c.if-eq.false)

pub loop-item-preserved : goal.loop-item-preserved
loop-item-preserved c =
    Reads-more IsDigest encode_lower c.args.text.now c.loop-item.digests.items c.add_digest.new.digests.items c.loop-item.rest.now c.in-Some.item.now c.in-Some.more.now c.loop-item.invariant
    c.in-Some.ensures.found c.in_ok-add_digest.ensures.found

pub returns-in_err-add_digest-2-clause-only : goal.returns-in_err-add_digest-2-clause-only
returns-in_err-add_digest-2-clause-only c = λ fault.
    Reads-not_last IsDigest encode_lower digest_items c.args.text.now c.loop-item.digests.items c.loop-item.rest.now c.loop-item.invariant c.in_default.ensures.only
    (c.in_err-add_digest-2.ensures.only (ap Err (passed_on c.from_residual-in_err-add_digest-2.result _ _ c.from_residual-in_err-add_digest-2.ensures fault)))
    (equal_not c.args.text.now c.as_slice.result.now _ c.eq.result c.as_slice.ensures c.eq.ensures c.if-eq.false)

pub returns-clause-found : goal.returns-clause-found
returns-clause-found c =
    Reads-ends IsDigest encode_lower c.args.text.now c.loop-item.digests.items c.add_digest-2.new.digests.items c.loop-item.rest.now c.loop-item.invariant c.in_default.ensures.only
    c.in_ok-add_digest-2.ensures.found
