-- Reads one after another, and the facts of a history that they give.
use Rattle.std.proofs.Common.{IsTrue, ℕ, List}
use Rattle.sqlite.specs.State.{State}
use Rattle.desk_history.specs.Calls.{History}
use Rattle.desk_history.specs.Formed.{IsHistory}
use Rattle.desk_history.specs.Tables.{Tables, tables}
use Rattle.store_schema.specs.Tables.{desk_layout}
use Rattle.store_schema.specs.rows.Contents.{contents}
use Rattle.store_sql.proofs.StopLemmas.{changes_then, turns_none}
use Rattle.store_reads.specs.Reads.{ReadsTables}
use Rattle.store_shown.specs.Telling.{TellsOf}

-- a fact of the tables, as one of the history whose tables they are
pub of_tables : (old new : State) (P : Tables → Type 0) (Q : History → Type 0) → ((owner : List ℕ) (cs : History) → IsHistory cs → P (tables owner cs) → Q cs) → ReadsTables P old new → TellsOf Q old new
of_tables old new P Q f a = record { kept = a.kept; tells = λ owner cs h sees. f owner cs h (a.tells (tables owner cs) sees) }

-- a fact of any history, without a read
pub of_none : (s : State) (P : History → Type 0) → IsTrue s.in_transaction → ((cs : History) → P cs) → TellsOf P s s
of_none s P inside p = record { kept = turns_none desk_layout contents s inside; tells = λ owner cs h sees. p cs }

pub of_then : (first mid new : State) (P Q : History → Type 0) → TellsOf P first mid → TellsOf Q mid new → TellsOf (λ cs. P cs × Q cs) first new
of_then first mid new P Q a b = record {
  kept = changes_then desk_layout contents first mid new (λ t. t) (λ t. t) a.kept b.kept;
  tells = λ owner cs h sees. (a.tells owner cs h sees, b.tells owner cs h (a.kept.value (tables owner cs) sees));
}

pub of_so : (old new : State) (P Q : History → Type 0) → ((cs : History) → P cs → Q cs) → TellsOf P old new → TellsOf Q old new
of_so old new P Q f a = record { kept = a.kept; tells = λ owner cs h sees. f cs (a.tells owner cs h sees) }
