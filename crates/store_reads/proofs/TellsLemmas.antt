-- Reads one after another, and the facts of the tables that they give.
use Rattle.std.proofs.Common.{IsTrue}
use Rattle.sqlite.specs.State.{State}
use Rattle.desk_history.specs.Tables.{Tables}
use Rattle.store_schema.specs.rows.Contents.{contents}
use Rattle.store_sql.proofs.StopLemmas.{changes_then, turns_none}
use Rattle.store_schema.specs.Tables.{desk_layout}
use Rattle.store_reads.specs.Reads.{ReadsTables}

-- a fact of any tables, without a read
pub tells_none : (s : State) (P : Tables → Type 0) → IsTrue s.in_transaction → ((t : Tables) → P t) → ReadsTables P s s
tells_none s P inside p = record { kept = turns_none desk_layout contents s inside; tells = λ t sees. p t }

pub tells_then : (first mid new : State) (P Q : Tables → Type 0) → ReadsTables P first mid → ReadsTables Q mid new → ReadsTables (λ t. P t × Q t) first new
tells_then first mid new P Q a b = record {
  kept = changes_then desk_layout contents first mid new (λ t. t) (λ t. t) a.kept b.kept;
  tells = λ t sees. (a.tells t sees, b.tells t (a.kept.value t sees));
}

pub tells_so : (old new : State) (P Q : Tables → Type 0) → ((t : Tables) → P t → Q t) → ReadsTables P old new → ReadsTables Q old new
tells_so old new P Q f a = record { kept = a.kept; tells = λ t sees. f t (a.tells t sees) }
