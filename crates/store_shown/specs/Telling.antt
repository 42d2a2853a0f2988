-- The answers about the requests and proposals of a desk's history.
use Rattle.std.specs.Prelude.{◌≡◌, ◌⊎◌, ⊤, ℕ, List, Option, Result, IfErr, IfOk, IsTrue}
use Rattle.sqlite.specs.State.{State}
use Rattle.base.specs.declared.refusal.Refusal.{Refusal}
use Rattle.base.specs.declared.refusal.Refusal.TheVariants as refusals
use Rattle.desk_exports.specs.Readings.{IsShownTo, may_refuse}
use Rattle.desk_exports.specs.declared.reading.Reading.{Reading}
use Rattle.desk_exports.specs.declared.shown.Shown.{Shown}
use Rattle.desk_types.specs.declared.caller.Caller.TheVariants as callers
use Rattle.desk_types.specs.declared.command.Person.{Person}
use Rattle.desk_types.specs.declared.shown.ShownRequest.{ShownRequest}
use Rattle.desk_history.specs.Calls.{History}
use Rattle.desk_history.specs.Formed.{IsHistory}
use Rattle.desk_history.specs.People.{people}
use Rattle.desk_history.specs.Shown.{IsGiven, officer, reader}
use Rattle.store_reads.specs.People.{IsOneOf}
use Rattle.store_schema.specs.rows.Contents.{contents}
use Rattle.store_schema.specs.rows.Histories.{rows_of}
use Rattle.store_sql.specs.States.{Changes, Sees}
use Rattle.store_schema.specs.Tables.{desk_layout}

-- Nothing changes, and this holds of each history that a desk may have and whose tables the store
-- holds.
pub record TellsOf (told : History → Type 0) (old new : State) : Type 0 where
  pub kept : Changes desk_layout contents old new (λ t. t)
  pub tells : (owner : List ℕ) (cs : History) → IsHistory cs → Sees desk_layout old (rows_of owner cs) → told cs

-- what the person is shown by this reading, whoever owns the desk
abbrev pub IsDue : {L : Type 0} → (L → List ShownRequest → Type 0) → Person → Reading → Result (Shown L) Refusal → History → Type 0
IsDue holds p reading given cs = (owner : List ℕ) → IsShownTo holds owner cs p reading given

-- That is given at each such history. Who is kept must be one of its people.
abbrev pub ShowsTo : {L : Type 0} → (L → List ShownRequest → Type 0) → Option Person → Person → Reading → Result (Shown L) Refusal → State → State → Type 0
ShowsTo holds kept p reading given = TellsOf (λ cs. IsOneOf kept (people cs) → IsDue holds p reading given cs)

-- a refusal is one that this reading may have
abbrev pub RefusesAs : {A E : Type 0} → Reading → Result (Result A Refusal) E → Type 0
RefusesAs reading result = IfOk result (λ given. IfErr given (λ refusal. IsTrue (may_refuse reading refusal)))

-- own: nobody has the name, or the person isn't an officer
abbrev pub IsOfficerRefusal : Refusal → Type 0
IsOfficerRefusal refusal = (refusal ≡ refusals.UnknownCaller) ⊎ (refusal ≡ refusals.NotYourRole)

-- the person of this name is an officer, or this is the refusal that is due
abbrev pub IsOfficer : History → List ℕ → Result (Unit {0}) Refusal → Type 0
IsOfficer cs name given = IsGiven (officer (reader cs (callers.Person name))) given (λ _ _. ⊤)
