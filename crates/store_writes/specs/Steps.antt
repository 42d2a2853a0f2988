-- The effect of a step inside a transaction on the desk's tables, from the connection before and
-- after it.
use Rattle.std.specs.Prelude.{⊤, ℕ, pos, List, [], ◌∷◌, ◌++◌, map, Result}
use Rattle.sqlite.specs.declared.types.Value.TheVariants.{Int, Text, Blob}
use Rattle.sqlite.specs.Order.{Row}
use Rattle.sqlite.specs.State.{State}
use Rattle.sqlite.specs.Store.{Ghosts}
use Rattle.sqlite.specs.Held.{Held}
use Rattle.store_sql.specs.Contents.{Contents, change_at, no_rows}
use Rattle.store_sql.specs.States.{Changes, DoesInside, Moves, Turns}
use Rattle.store_schema.specs.Tables.{desk_layout, desk_schema}
use Rattle.desk_types.specs.declared.proposal.ItemKind.{ItemKind}
use Rattle.desk_types.specs.Words.{item_kind_text}
use Rattle.desk_history.specs.declared.rows.ProposalItemRow.{ProposalItemRow}
use Rattle.desk_history.specs.Tables.{Tables, tables}
use Rattle.store_schema.specs.rows.Contents.{contents}
use Rattle.store_schema.specs.rows.Values.{item_values}

-- after a success, the tables hold what this change makes of their contents
abbrev pub Steps : {S X E : Type 0} → Ghosts S → Held S → Held S → Result X E → (Tables → Tables) → Type 0
Steps g old new result change = DoesInside g old new result (λ _ before after. Changes desk_layout contents before after change)

-- after a success in tables without rows, they hold those of this owner's desk without calls
abbrev pub Begins : {S X E : Type 0} → Ghosts S → Held S → Held S → Result X E → List ℕ → Type 0
Begins g old new result owner =
    DoesInside g old new result (λ _ before after. Turns desk_layout (λ (_ : ⊤). no_rows desk_schema.tables) (λ _. contents (tables owner [])) before after)

-- the tables of a desk without calls, before the row that says how many calls were accepted by the
-- first rules
abbrev pub unmigrated : List ℕ → Tables
unmigrated owner = record (tables owner []) { migrated = [] }

-- after a success in tables without rows, they hold these
abbrev pub MakesDesk : {S X E : Type 0} → Ghosts S → Held S → Held S → Result X E → Tables → Type 0
MakesDesk g old new result t =
    DoesInside g old new result (λ _ before after. Turns desk_layout (λ (_ : ⊤). no_rows desk_schema.tables) (λ _. contents t) before after)

-- the tables with the row that says how many calls were accepted by the first rules
abbrev pub with_migrated : ℕ → Tables → Tables
with_migrated calls t = record t { migrated = record { id = 1; calls = calls } ∷ t.migrated }

-- the tables with this version
abbrev pub with_version : ℕ → Tables → Tables
with_version version t = record t { desk = record t.desk { version = version } }

-- an item of a proposal by its columns
abbrev pub item_columns : ℕ → ℕ → ItemKind → List ℕ → List ℕ → ℕ → Row
item_columns proposal place kind digest name generation =
    Int (pos proposal) ∷ Int (pos place) ∷ Text (item_kind_text kind) ∷ Blob digest ∷ Text name ∷ Int (pos generation) ∷ []

-- the contents with one more row among the items of proposals
abbrev pub with_item : Row → Contents → Contents
with_item row c = change_at 13 (λ rows. row ∷ rows) c

-- the row is added among the items of proposals, and nothing else changes
unfoldable pub AddsItem : Row → State → State → Type 0
AddsItem row old new = Moves desk_layout (with_item row) old new

-- the rows of the tables, with these items of a proposal besides
abbrev pub contents_with : List ProposalItemRow → Tables → Contents
contents_with items t = change_at 13 (λ rows. map item_values items ++ rows) (contents t)
