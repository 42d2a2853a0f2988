use Rattle.std.proofs.Common.{◌≡◌, ◌++◌, ◌∷◌, string_bytes, take}
use Rattle.std.specs.List.{flat_map}
use Rattle.hex.specs.Hex.{encode_lower}
use Rattle.desk_types.proofs.items.digests_text.Given as goal

abbrev pub invariant-loop-digest : goal.invariant-loop-digest
invariant-loop-digest l =
    string_bytes l.text ≡ string_bytes l.initial.text ++ flat_map (λ d. 44 ∷ encode_lower d) (take l.digest-index l.rest)
