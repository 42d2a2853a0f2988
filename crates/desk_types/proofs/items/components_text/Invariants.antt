use Rattle.std.proofs.Common.{◌≡◌, ◌++◌, ◌∷◌, string_bytes, take}
use Rattle.std.specs.List.{flat_map}
use Rattle.desk_types.specs.Items.{component_text}
use Rattle.desk_types.proofs.items.components_text.Given as goal

abbrev pub invariant-loop-component : goal.invariant-loop-component
invariant-loop-component l =
    string_bytes l.text ≡ string_bytes l.initial.text ++ flat_map (λ c. 44 ∷ component_text c) (take l.component-index l.rest)
