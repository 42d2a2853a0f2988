-- Reasons why SBAT text is refused.
use Rattle.std.specs.Prelude.{◌≡◌, ℕ, ◌<◌, ◌≤◌, ⊤, length, List, Option, Some, None, Result, Ok, Err, IsOkAnd}
use Rattle.std.specs.FinMap.{len}
use Rattle.base.specs.Limits.{most_components}
use Rattle.base.specs.declared.refusal.Refusal.{Refusal}
use Rattle.base.specs.declared.refusal.Refusal.TheVariants as refusal
use Rattle.sbat.specs.Levels.{Stamped, level_of}
use Rattle.sbat.specs.Rows.{Row, components_of}
use Rattle.sbat.specs.declared.fault.SbatFault.{SbatFault}
use Rattle.sbat.specs.declared.fault.SbatFault.TheVariants as fault

-- own: the most names of a level
abbrev pub most_names : ℕ
most_names = 10000

-- own: its row in the table of refusals
abbrev pub refusal_of : SbatFault → Refusal
refusal_of (fault.Row line) = refusal.SbatRow
refusal_of fault.TooLong = refusal.TooLong
refusal_of fault.NoMemory = refusal.NoMemory

-- own: its place: the number of the wrong line
abbrev pub place_of : SbatFault → Option ℕ
place_of (fault.Row line) = Some line
place_of fault.TooLong = None
place_of fault.NoMemory = None

-- why a reading is refused: the number of the first wrong line, or, if `TooMany` holds, that it
-- passes the limit; NoMemory may come at any time
abbrev pub IsRefused : {X : Type 0} → Result X ℕ → (X → Type 0) → SbatFault → Type 0
IsRefused read TooMany (fault.Row line) = read ≡ Err line
IsRefused read TooMany fault.TooLong = IsOkAnd read TooMany
IsRefused read TooMany fault.NoMemory = ⊤

-- all lines of the text are right, and these are its components, within the limit
abbrev pub IsComponents : List ℕ → List Row → Type 0
IsComponents text rows = (components_of text ≡ Ok rows) × (length rows ≤ most_components)

-- own: the text is refused for this; TooLong only where its lines are all right
abbrev pub RefusesComponents : List ℕ → SbatFault → Type 0
RefusesComponents text = IsRefused (components_of text) (λ rows. most_components < length rows)

-- own: the level has more names than the limit
abbrev pub PassesNames : Stamped → Type 0
PassesNames level = most_names < len level.generations

-- this level was read, and is within the limit
abbrev pub IsRead : Result Stamped ℕ → Stamped → Type 0
IsRead read level = (read ≡ Ok level) × (len level.generations ≤ most_names)

-- all lines of the text are right, and this is its level, within the limit
abbrev pub IsLevelOf : List ℕ → Stamped → Type 0
IsLevelOf text level = IsRead (level_of text) level

-- own: the text is refused for this; TooLong only where its lines are all right, counting different
-- names
abbrev pub RefusesLevel : List ℕ → SbatFault → Type 0
RefusesLevel text = IsRefused (level_of text) PassesNames
