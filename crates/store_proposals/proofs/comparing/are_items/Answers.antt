use Rattle.std.proofs.Common.{refl, arith}
use Rattle.desk_history.specs.Items.{items_of}
use Rattle.store_proposals.proofs.CompareLemmas.{one_compared}
use Rattle.store_proposals.proofs.comparing.are_items.Goals as goal

pub loop-place-preserved : goal.loop-place-preserved
loop-place-preserved c =
    let row = c.index-rows-place.result in
    let is = c.if-not-is_row.ensures in (
      omega (arith, c.loop-place-test.true),
      one_compared c.args.proposal c.loop-place.place c.args.rows.now (items_of c.args.named.now) row c.loop-place-test.true c.index-rows-place.is
          (is.proposal refl) (is.place refl) (is.item refl) c.loop-place.invariant.1,
    )
