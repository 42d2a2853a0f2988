use Rattle.std.proofs.Common.{◌≡◌, decimal, string_bytes, ap, rules}
use Rattle.hex.specs.Hex.{encode_lower}
use Rattle.desk_types.specs.Items.{digests_text, components_text}
use Rattle.desk_types.proofs.ItemLemmas.{seven}
use Rattle.desk_types.proofs.items.facts_text.Goals as goal

pub returns : goal.returns
returns c =
    let facts = c.args.facts.now in
    let carried : string_bytes c.in_ok-carried.carried ≡ digests_text facts.carried = search rules in
    let components : string_bytes c.in_ok-components.components ≡ components_text facts.components = search rules in
    seven c.format.result (decimal c.length-length.result) (decimal c.gap-gap.result) (string_bytes c.in_ok-digests.digests)
    (string_bytes c.in_ok-carried.carried) (string_bytes c.in_ok-components.components)
    (decimal facts.extent.length) (decimal facts.extent.gap) (encode_lower facts.file) (encode_lower facts.digest) (encode_lower facts.signing)
    (digests_text facts.carried) (components_text facts.components)
    (ap decimal c.length-length.ensures.value) (ap decimal c.gap-gap.ensures.value) c.in_ok-digests.ensures carried components (search rules)
