use Rattle.std.proofs.Common.{◌≡◌, ◌++◌, length, map}
use Rattle.std.specs.Vec.Iter.{into_iter_items, into_iter_len}
use Rattle.desk_history.specs.PeopleShown.{shown_person}
use Rattle.store_shown.proofs.all_people.shown_people.Given as goal

abbrev pub invariant-loop-person : goal.invariant-loop-person
invariant-loop-person l =
    (l.shown.items ++ map shown_person (into_iter_items l.person-iterator) ≡ map shown_person (into_iter_items l.initial.person-iterator))
    × (into_iter_len l.person-iterator ≡ length (into_iter_items l.person-iterator))
