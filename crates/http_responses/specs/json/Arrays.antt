-- own: an array in JSON, written item by item.
use Rattle.std.specs.Prelude.{ℕ, List, [], ◌∷◌, ◌++◌, flat_map}
use Rattle.serde_json.specs.Data.{Data}
use Rattle.serde_json.specs.Written.{compact_text}

-- an item, after a comma
abbrev pub after_comma : Data → List ℕ
after_comma item = 44 ∷ compact_text item

-- items, each after a comma
abbrev pub after_commas : {X : Type 0} → (X → Data) → List X → List ℕ
after_commas as_data items = flat_map (λ item. after_comma (as_data item)) items

-- items, with a comma between two
abbrev pub with_commas : {X : Type 0} → (X → Data) → List X → List ℕ
with_commas as_data [] = []
with_commas as_data (first ∷ others) = compact_text (as_data first) ++ after_commas as_data others

-- items, each after a comma, as an array: the opening bracket replaces the first comma
abbrev pub bracketed : List ℕ → List ℕ
bracketed [] = 91 ∷ 93 ∷ []
bracketed (comma ∷ rest) = 91 ∷ rest ++ 93 ∷ []
