use Rattle.std.proofs.Common.{◌≡◌, [], ◌∷◌, ◌++◌, ◌+◌, sym, subst, take}
use Rattle.std.proofs.lemmas.List.{take_all}
use Rattle.std.specs.List.{AllZip}
use Rattle.store_reads.proofs.ValueLemmas.{IsValue, are_read, one_more}
use Rattle.store_reads.proofs.reading.values_of.Goals as goal

pub loop-row-preserved : goal.loop-row-preserved
loop-row-preserved g c =
    let pushed : c.push.new.self.items ≡ c.loop-row.values.items ++ c.in_ok-value.value ∷ [] = rw c.if-is_err.ensures.negation at c.push.ensures.items in
    subst (AllZip (IsValue g.T.FromRow.shown) (take (c.loop-row.row-index + 1) c.args.rows.now)) (sym pushed)
    (one_more (IsValue g.T.FromRow.shown) c.args.rows.now c.loop-row.row-index c.row-item.result c.loop-row.values.items c.in_ok-value.value c.loop-row-test.true c.row-item.is c.loop-row.invariant
    (c.in_ok-value.ensures.only, c.in_ok-value.ensures.value))

pub returns : goal.returns
returns g c =
    let whole : take c.loop-row.row-index c.args.rows.now ≡ c.args.rows.now = take_all c.loop-row.row-index c.args.rows.now c.loop-row-test.false in
    are_read g.T.FromRow.shown c.args.rows.now c.loop-row.values.items (subst (λ l. AllZip (IsValue g.T.FromRow.shown) l c.loop-row.values.items) whole c.loop-row.invariant)
