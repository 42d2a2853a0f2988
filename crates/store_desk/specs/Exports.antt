-- The bytes of a desk's export.
use Rattle.std.specs.Prelude.{ℕ, List, Option}
use Rattle.std.specs.Io.KnownBytes.{Appends}
use Rattle.sqlite.specs.Store.{Ghosts}
use Rattle.base.specs.Output.{AppendsBeginning}
use Rattle.desk_history.specs.Calls.{History}
use Rattle.store_sql.specs.States.{Spares}
use Rattle.store_desk.specs.Desks.{ShowsDesk}
use Rattle.store_desk.specs.declared.desk.Desk.{Desk}

-- these bytes are written
abbrev pub Writes : Option (List ℕ) → Option (List ℕ) → (List ℕ → History → List ℕ) → List ℕ → History → Type 0
Writes before after bytes owner cs = Appends before after (bytes owner cs)

-- a prefix of them is written
abbrev pub WritesBeginning : Option (List ℕ) → Option (List ℕ) → (List ℕ → History → List ℕ) → List ℕ → History → Type 0
WritesBeginning before after bytes owner cs = AppendsBeginning before after (bytes owner cs)

-- if the desk shows a history, a stop leaves only what it could have left before
abbrev pub SparesDesk : {S : Type 0} → Ghosts S → Desk S → Desk S → Type 0
SparesDesk g old new = (owner : List ℕ) (cs : History) → ShowsDesk g old owner cs → Spares g old.conn new.conn
