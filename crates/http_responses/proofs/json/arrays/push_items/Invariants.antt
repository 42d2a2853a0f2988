use Rattle.std.proofs.Common.{◌≡◌, ◌++◌, take}
use Rattle.http_responses.specs.json.Arrays.{after_commas}
use Rattle.http_responses.proofs.json.arrays.push_items.Given as goal

abbrev pub invariant-loop-item : goal.invariant-loop-item
invariant-loop-item g l =
    l.text.items ≡ l.fn.text.items ++ after_commas g.T.JsonText.as_data (take l.item-index l.items)
