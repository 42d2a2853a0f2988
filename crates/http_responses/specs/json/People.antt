-- own: people in JSON, the keys ascending.
use Rattle.std.specs.Prelude.{List, [], ◌∷◌, codes, map}
use Rattle.serde_json.specs.Data.{Data, array, string}
use Rattle.serde_json.specs.View.{items_of}
use Rattle.desk_types.specs.Words.{role_text}
use Rattle.desk_history.specs.declared.shown_person.ShownPerson.{ShownPerson}
use Rattle.http_responses.specs.json.Values.{object_from}

-- a person
abbrev pub person_data : ShownPerson → Data
person_data p = object_from (
    (codes "name", string p.name)
    ∷ (codes "role", string (role_text p.role))
    ∷ [])

-- people, in their order
abbrev pub people_data : List ShownPerson → Data
people_data people = array (items_of (map person_data people))
