-- own: the parts of a canonical text.
use Rattle.std.specs.Prelude.{ℕ, List, [], ◌∷◌, Option, Some, None, codes, decimal, map}
use Rattle.std.specs.List.{join_with_byte}
use Rattle.hex.specs.Hex.{encode_lower}
use Rattle.sbat.specs.declared.component.Component.{Component}
use Rattle.desk_types.specs.declared.facts.Facts.{Facts}

-- parts joined by one space
abbrev pub spaced : List (List ℕ) → List ℕ
spaced parts = join_with_byte 32 parts

-- items joined by commas, or a hyphen where there is none
abbrev pub list_text : List (List ℕ) → List ℕ
list_text [] = codes "-"
list_text (item ∷ items) = join_with_byte 44 (item ∷ items)

-- the digests in lower case, in their order
abbrev pub digests_text : List (List ℕ) → List ℕ
digests_text digests = list_text (map encode_lower digests)

-- a component: GENERATION:NAME
abbrev pub component_text : Component → List ℕ
component_text component = join_with_byte 58 (decimal component.generation ∷ component.name ∷ [])

-- the components in their order
abbrev pub components_text : List Component → List ℕ
components_text components = list_text (map component_text components)

-- a stamp, or 0 for none
abbrev pub stamp_text : Option ℕ → List ℕ
stamp_text None = codes "0"
stamp_text (Some stamp) = decimal stamp

-- LENGTH GAP HEX (file) HEX (digest) HEX (signing digest) LIST (carried) LIST (components)
abbrev pub facts_text : Facts → List ℕ
facts_text facts =
    spaced (decimal facts.extent.length ∷ decimal facts.extent.gap ∷ encode_lower facts.file ∷ encode_lower facts.digest
    ∷ encode_lower facts.signing ∷ digests_text facts.carried ∷ components_text facts.components ∷ [])
