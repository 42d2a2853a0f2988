-- Why a person isn't shown impacts, from whether they are an officer.
use Rattle.std.proofs.Common.{◌≡◌, List, ℕ, Option, Some, None, Result, Ok, Err, refl, ap, subst}
use Rattle.std.specs.Prelude.{⊤}
use Rattle.base.specs.declared.refusal.Refusal.{Refusal}
use Rattle.desk_types.specs.declared.caller.Caller.TheVariants as callers
use Rattle.desk_types.specs.declared.command.Person.{Person}
use Rattle.desk_history.specs.Calls.{History}
use Rattle.desk_history.specs.Shown.{IsGiven, officer, reader}
use Rattle.store_shown.specs.Telling.{IsOfficer}
use Rattle.store_impacts.specs.Reading.{refusal_to, refused}

none_by : (due : Result Person Refusal) → IsGiven {A = Person} {B = Unit {0}} due (Ok tt) (λ _ _. ⊤) → None ≡ refused due
none_by (Ok p) h = refl
none_by (Err refusal) h = absurd h

some_by : (due : Result Person Refusal) (r : Refusal) → IsGiven {A = Person} {B = Unit {0}} due (Err r) (λ _ _. ⊤) → Some r ≡ refused due
some_by (Ok p) r h = absurd h
some_by (Err refusal) r h = ap Some h

pub refuses_none : (cs : History) (name : List ℕ) → IsOfficer cs name (Ok tt) → None ≡ refusal_to cs (callers.Person name)
refuses_none cs name h = none_by (officer (reader cs (callers.Person name))) h

pub refuses_some : (cs : History) (name : List ℕ) (r : Refusal) → IsOfficer cs name (Err r) → Some r ≡ refusal_to cs (callers.Person name)
refuses_some cs name r h = some_by (officer (reader cs (callers.Person name))) r h
