use Rattle.std.proofs.Common.{◌≡◌, refl, rules, subst, slice_range}
use Rattle.hex.specs.Hex.{decode_of}
use Rattle.base.specs.Guids.{IsGuidText, swapped}
use Rattle.base.proofs.GuidLemmas.{decoded, groups_joined, joined}
use Rattle.base.proofs.guid.Guid.parse.Goals as goal

pub returns-clause-ok : goal.returns-clause-ok
returns-clause-ok c =
    let text = c.as_bytes-text.result.now in
    let is : c.swap_groups.result ≡ swapped (joined c.in_ok-first.first c.in_ok-second.second c.in_ok-third.third c.in_ok-fourth.fourth c.in_ok-fifth.fifth) = c.swap_groups.ensures in
    let g = groups_joined c.in_ok-first.first c.in_ok-second.second c.in_ok-third.third c.in_ok-fourth.fourth c.in_ok-fifth.fifth
    (search rules) (search rules) (search rules) (search rules) (search rules) in
    let whole : IsGuidText text (swapped (joined c.in_ok-first.first c.in_ok-second.second c.in_ok-third.third c.in_ok-fourth.fourth c.in_ok-fifth.fifth)) = record {
      stored = refl;
      size = search rules;
      first_hyphen = search rules;
      second_hyphen = search rules;
      third_hyphen = search rules;
      fourth_hyphen = search rules;
      first = decoded (decode_of (slice_range text 0 8)) _ _ c.in_ok-first.ensures g.first;
      second = decoded (decode_of (slice_range text 9 13)) _ _ c.in_ok-second.ensures g.second;
      third = decoded (decode_of (slice_range text 14 18)) _ _ c.in_ok-third.ensures g.third;
      fourth = decoded (decode_of (slice_range text 19 23)) _ _ c.in_ok-fourth.ensures g.fourth;
      fifth = decoded (decode_of (slice_range text 24 36)) _ _ c.in_ok-fifth.ensures g.fifth;
    } in
    subst (λ t. IsGuidText t c.swap_groups.result) c.as_bytes-text.ensures.value (rw is whole)
