use Rattle.std.proofs.Common.{[], filter, reverse, sym}
use Rattle.store_impacts.specs.Touching.{brought, is_touched}
use Rattle.store_impacts.proofs.LoopLemmas.{all_brought, all_told, bars_none}
use Rattle.store_impacts.proofs.laws.untouched_bars_none.Goals as goal

pub returns : goal.returns
returns c entries cs k alike none =
    all_told entries cs c.entries_bar_alone.ensures.tell k alike [] (bars_none entries cs (filter (is_touched entries) (reverse (brought cs))) (all_brought entries cs) (sym none))
