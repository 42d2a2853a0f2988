use Rattle.std.proofs.Common.{string_bytes, rules}
use Rattle.hex.specs.Hex.{encode_lower}
use Rattle.desk_types.proofs.ItemLemmas.{listed}
use Rattle.desk_types.proofs.items.digests_text.Goals as goal

pub returns : goal.returns
returns c =
    listed encode_lower c.args.digests.now c.in-Some.first.now c.in-Some.rest.now (string_bytes c.loop-digest.text) (string_bytes c.in_ok-text.text)
    c.loop-digest.digest-index (search rules) c.in_ok-text.ensures.ok c.loop-digest.invariant c.loop-digest-test.false
