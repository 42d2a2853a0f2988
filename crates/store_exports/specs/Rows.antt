-- Rows of an answer as bytes that are written one after another.
use Rattle.std.specs.Prelude.{◌≡◌, ◌⊎◌, ℕ, List, [], ◌∷◌, ◌++◌, Option, Result, MatchResult, IsTrue}
use Rattle.std.specs.Io.KnownBytes.{Appends}
use Rattle.sqlite.specs.Held.{Held, state}
use Rattle.sqlite.specs.Order.{Row}
use Rattle.sqlite.specs.State.{State, HasCleanDisk}
use Rattle.sqlite.specs.Store.{Ghosts}
use Rattle.base.specs.Output.{AppendsBeginning}
use Rattle.store_sql.specs.Effects.{Streams}
use Rattle.store_sql.specs.Streaming.{BeginsAnswer, SparesShown, StaysShown}

-- the bytes are this part of each value that the row may show
abbrev pub IsPart : {X : Type 0} → (X → Row) → (X → List ℕ) → Row → List ℕ → Type 0
IsPart {X} shown part row bytes = (x : X) → row ≡ shown x → bytes ≡ part x

-- the row's bytes are written
pub record WritesRow (spells : List ℕ → Type 0) (before after : Option (List ℕ)) : Type 0 where
  pub bytes : List ℕ
  pub spelt : spells bytes
  pub written : Appends before after bytes

-- a prefix of them is written
abbrev pub BeginsRow : (List ℕ → Type 0) → Option (List ℕ) → Option (List ℕ) → Type 0
BeginsRow spells before after = (bytes : List ℕ) → spells bytes → AppendsBeginning before after bytes

-- the bytes are those of these rows, one after another
abbrev pub AreSpelt : (Row → List ℕ → Type 0) → List Row → List ℕ → Type 0
AreSpelt spells [] bytes = bytes ≡ []
AreSpelt spells (row ∷ rows) bytes = (one : List ℕ) × (others : List ℕ) × spells row one × AreSpelt spells rows others × (bytes ≡ one ++ others)

-- the bytes of a query's answer are written
pub record WritesAnswer (spells : Row → List ℕ → Type 0) (text : List ℕ) (params : Row) (old new : State) (before after : Option (List ℕ)) : Type 0 where
  pub answer : List Row
  pub bytes : List ℕ
  pub live : IsTrue old.is_open
  pub exact : Streams text params old new answer
  pub spelt : AreSpelt spells answer bytes
  pub written : Appends before after bytes

-- a prefix of the answer's next row is written, or nothing of it
abbrev pub EndsIn : (Row → List ℕ → Type 0) → List ℕ → Row → State → List Row → Option (List ℕ) → Option (List ℕ) → Type 0
EndsIn spells text params s taken mid after =
    (mid ≡ after) ⊎ ((row : Row) × BeginsRow (spells row) mid after × BeginsAnswer text params s (taken ++ row ∷ []))

-- the bytes of the first rows of an answer are written, and a prefix of the next row's
pub record WritesFirst (spells : Row → List ℕ → Type 0) (text : List ℕ) (params : Row) (s : State) (before after : Option (List ℕ)) : Type 0 where
  pub taken : List Row
  pub bytes : List ℕ
  pub mid : Option (List ℕ)
  pub spelt : AreSpelt spells taken bytes
  pub written : Appends before mid bytes
  pub begins : (taken ≡ []) ⊎ BeginsAnswer text params s taken
  pub ends : EndsIn spells text params s taken mid after

-- The rows of a query's answer are written, or, after a failure, the first of them; and the effect
-- on the connection
pub record PutsRows {S X E : Type 0} (g : Ghosts S) (spells : Row → List ℕ → Type 0) (text : List ℕ) (params : Row) (old new : Held S) (before after : Option (List ℕ)) (result : Result X E) : Type 0 where
  pub wrote : HasCleanDisk (state g new)
      → MatchResult result (λ _. WritesAnswer spells text params (state g old) (state g new) before after) (λ _. WritesFirst spells text params (state g old) before after)
  pub same : StaysShown text (state g old) (state g new)
  pub spares : SparesShown g text old new
  pub clean : HasCleanDisk (state g new) → HasCleanDisk (state g old)
