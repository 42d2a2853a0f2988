-- People who are kept between reads.
use Rattle.std.specs.Prelude.{◌≡◌, List, [], ◌∷◌, Option, IfSome, filter}
use Rattle.desk_types.specs.declared.command.Person.{Person}
use Rattle.desk_history.specs.People.{has_name}

-- a person who is kept, if there is one, is the only one of that name among these people
abbrev pub IsOneOf : Option Person → List Person → Type 0
IsOneOf kept people = IfSome kept (λ p. filter (has_name p.name) people ≡ p ∷ [])
