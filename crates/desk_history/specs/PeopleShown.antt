-- The people of a desk as they are shown, and to whom.
use Rattle.std.specs.Prelude.{List, map, Result}
use Rattle.std.specs.Cmp.Lexicographic.{slice_cmp}
use Rattle.std.specs.List.Sorted.{IsPermutation, IsSorted}
use Rattle.std.specs.Ordering.{nat_cmp}
use Rattle.std.specs.Result.{result_map_both}
use Rattle.std.specs.declared.cmp.Ordering.{Ordering}
use Rattle.base.specs.declared.refusal.Refusal.{Refusal}
use Rattle.desk_types.specs.declared.caller.Caller.{Caller}
use Rattle.desk_types.specs.declared.command.Person.{Person}
use Rattle.desk_history.specs.Calls.{History}
use Rattle.desk_history.specs.People.{people}
use Rattle.desk_history.specs.Shown.{officer, reader}
use Rattle.desk_history.specs.declared.shown_person.ShownPerson.{ShownPerson}

-- a person, as shown: without the SHA-256 of the token
abbrev pub shown_person : Person → ShownPerson
shown_person p = record { name = p.name; role = p.role }

-- names are compared byte by byte
abbrev pub by_name : ShownPerson → ShownPerson → Ordering
by_name x y = slice_cmp nat_cmp x.name y.name

-- each of these people is shown once, and nobody else, ascending by name
pub record ShowsPeople (ps : List Person) (shown : List ShownPerson) : Type 0 where
  pub all : IsPermutation (map shown_person ps) shown
  pub sorted : IsSorted by_name shown

-- the answer to a caller about people. own: only officers are shown them
abbrev pub people_for : History → Caller → Result (List Person) Refusal
people_for cs c = result_map_both (λ p. people cs) (λ refusal. refusal) (officer (reader cs c))
