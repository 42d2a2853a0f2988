use Rattle.std.proofs.Common.{◌∙◌}
use Rattle.siglist.specs.EntryViews.{seen_entry}
use Rattle.desk_inputs.proofs.ReadingLemmas.{Keeping-begins, Keeping-next}
use Rattle.desk_inputs.proofs.imports.from_lists.keep_list.Goals as goal

pub loop-entry-init : goal.loop-entry-init
loop-entry-init c =
    Keeping-begins _ _ _ _ c.kind-kind.ensures (c.into_iter-entry-iterator.ensures.into_iter_gives ∙ c.entries-entry-items.ensures) c.requires

pub loop-entry-preserved : goal.loop-entry-preserved
loop-entry-preserved c =
    Keeping-next _ _ _ _ (seen_entry c.in-Some.entry) _ _ _ _ c.loop-entry.invariant c.in-Some.ensures.steps c.item_of.ensures.value c.in_ok-keep.ensures.ok
