-- The histories that a desk shows, and its failures, for any kind of desk.
use Rattle.std.specs.Prelude.{◌≡◌, ◌≢◌, ◌⊎◌, ℕ, List, Option, Result, Err, IfErr, IsErrOf, IsTrue, find}
use Rattle.base.specs.declared.refusal.Refusal.{Refusal}
use Rattle.base.specs.declared.refusal.Refusal.TheVariants as refusals
use Rattle.desk_types.specs.declared.command.Person.{Person}
use Rattle.desk_types.specs.declared.shown.ShownRequest.{ShownRequest}
use Rattle.desk_history.specs.Calls.{History}
use Rattle.desk_history.specs.People.{has_token, people}
use Rattle.desk_exports.specs.Readings.{IsShownTo, may_refuse}
use Rattle.desk_exports.specs.declared.reading.Reading.{Reading}
use Rattle.desk_exports.specs.declared.shown.Shown.{Shown}

-- this holds of each owner and history that a desk shows
abbrev pub ForEachShown : (List ℕ → History → Type 0) → (List ℕ → History → Type 0) → Type 0
ForEachShown shows told = (owner : List ℕ) (cs : History) → shows owner cs → told owner cs

-- all that was shown is still shown
abbrev pub StillShows : (List ℕ → History → Type 0) → (List ℕ → History → Type 0) → Type 0
StillShows before after = (owner : List ℕ) (cs : History) → before owner cs → after owner cs

-- a stop leaves what was shown
abbrev pub LeavesShown : (List ℕ → History → Type 0) → (List ℕ → History → History → Type 0) → Type 0
LeavesShown shows leaves = ForEachShown shows (λ owner cs. leaves owner cs cs)

-- the person who has the token of this SHA-256
abbrev pub person_with : List ℕ → History → Option Person
person_with token cs = find (has_token token) (people cs)

-- own: the desk can't answer
abbrev pub IsOutage : Refusal → Type 0
IsOutage refusal = (refusal ≡ refusals.NoMemory) ⊎ ((refusal ≡ refusals.Store) ⊎ (refusal ≡ refusals.Reopen))

-- the refusals of a reading: those that are due, or an outage
abbrev pub IsReadingRefusal : Reading → Refusal → Type 0
IsReadingRefusal reading refusal = IsTrue (may_refuse reading refusal) ⊎ IsOutage refusal

-- the desk has to be opened again
abbrev pub IsReopened : {X : Type 0} → Result X Refusal → Type 0
IsReopened result = result ≡ Err refusals.Reopen

-- own: the desk has to be opened again, or the answer is due at each history, for example that the
-- person's role has no report
abbrev pub IsShut : {L : Type 0} → (L → List ShownRequest → Type 0) → Person → Reading → Result (Shown L) Refusal → Type 0
IsShut holds p reading result =
    IsReopened result ⊎ ((owner : List ℕ) (cs : History) → IsShownTo holds owner cs p reading result)

-- own: any call of a desk, and its failures. `shows` says what a desk shows, `clean` that its disk
-- has returned what was written, `failed` that its store failed, `may_come` which refusals there
-- are, `shut` what a desk that had failed may answer
pub record FailsSafely {D X : Type 0} (shows : D → List ℕ → History → Type 0) (clean failed : D → Type 0) (may_come : Refusal → Type 0) (shut : Result X Refusal → Type 0) (old new : D) (result : Result X Refusal) : Type 0 where
  -- a disk that is clean after the call was clean before
  pub before : clean new → clean old
  pub named : IfErr result may_come
  -- a desk that shows a history needn't be opened again
  pub usable : ForEachShown (shows old) (λ _ _. result ≢ Err refusals.Reopen)
  pub poisons : IsErrOf result refusals.Store → failed new
  -- a desk that had failed doesn't change
  pub closed : failed old → shut result × (new ≡ old)
