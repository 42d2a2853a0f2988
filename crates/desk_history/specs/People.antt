-- The people of a desk: those whom the console added.
use Rattle.std.specs.Prelude.{ℕ, Bool, List, Option, filter_map, find, bytes_eq}
use Rattle.desk_types.specs.Naming.{person_added}
use Rattle.desk_types.specs.declared.command.Person.{Person}
use Rattle.desk_history.specs.Calls.{History}

-- those who were added, the newest first
abbrev pub people : History → List Person
people cs = filter_map (λ i. person_added i.call.command) cs

-- the person has this name
abbrev pub has_name : List ℕ → Person → Bool
has_name name p = bytes_eq name p.name

-- the person has the token of this SHA-256
abbrev pub has_token : List ℕ → Person → Bool
has_token token p = bytes_eq token p.token

-- the person of this name
abbrev pub person : History → List ℕ → Option Person
person cs name = find (has_name name) (people cs)
