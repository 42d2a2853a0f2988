-- JSON values (RFC 8259). own: the forms of digests and components in JSON.
use Rattle.std.specs.Prelude.{ℕ, List, [], ◌∷◌, map}
use Rattle.hex.specs.Hex.{encode_lower}
use Rattle.sbat.specs.declared.component.Component.{Component}
use Rattle.serde_json.specs.Data.{Data, Members, array, member, no_members, number, object, string, unsigned}
use Rattle.serde_json.specs.View.{items_of}

-- the members of these keys and values, in this order
abbrev pub members_from : List (List ℕ × Data) → Members
members_from [] = no_members
members_from (m ∷ ms) = member m.0 m.1 (members_from ms)

-- the object of these members
abbrev pub object_from : List (List ℕ × Data) → Data
object_from ms = object (members_from ms)

-- a whole number
abbrev pub whole : ℕ → Data
whole n = number (unsigned n)

-- a digest: its 64 hexadecimal digits in lower case
abbrev pub digest_data : List ℕ → Data
digest_data digest = string (encode_lower digest)

-- digests, in their order
abbrev pub digests_data : List (List ℕ) → Data
digests_data digests = array (items_of (map digest_data digests))

-- a component: [NAME,GENERATION]
abbrev pub component_data : Component → Data
component_data c = array (items_of (string c.name ∷ whole c.generation ∷ []))

-- components, in their order
abbrev pub components_data : List Component → Data
components_data components = array (items_of (map component_data components))
