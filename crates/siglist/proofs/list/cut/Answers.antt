use Rattle.std.proofs.Common.{◌+◌, ◌-◌, ◌/◌, take, drop, refl, ap, ◌∙◌}
use Rattle.std.proofs.lemmas.List.{drop-drop}
use Rattle.siglist.specs.Steps.Reading.{entries_of, list_with, placed}
use Rattle.siglist.proofs.HeadLemmas.{same_list}
use Rattle.siglist.proofs.list.cut.Goals as goal

pub returns-clause-list : goal.returns-clause-list
unfolding list_with
returns-clause-list c =
    let after = c.split_at-2.ensures.back in
    let header = c.split_at-3.ensures.front ∙ ap (take c.args.header_size) after in
    let rest = c.split_at-3.ensures.back ∙ ap (drop c.args.header_size) after ∙ drop-drop c.args.header_size 28 c.args.bytes.now in
    ap (placed c.args.offset) (same_list _ _ _ _ _ _ _ _ c.first_guid.ensures header refl
    (ap (entries_of ((c.args.size - (28 + c.args.header_size)) / c.args.entry_size) c.args.entry_size) rest))
