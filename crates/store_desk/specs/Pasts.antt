-- Histories before a call, for what a desk remembers of them.
use Rattle.std.specs.Prelude.{ℕ, List}
use Rattle.desk_types.specs.declared.command.Call.{Call}
use Rattle.desk_history.specs.Calls.{History}
use Rattle.desk_history.specs.Formed.{IsHistory}
use Rattle.desk_history.specs.Runs.{next}
use Rattle.desk_history.specs.Tables.{tables}
use Rattle.store_schema.specs.rows.Histories.{rows_of}
use Rattle.store_decision_rows.specs.remembered.Current.{IsCurrent}
use Rattle.store_decision_rows.specs.declared.remembered.Remembered.{Remembered}
use Rattle.store_sql.specs.Contents.{Contents}

-- A history that the tables may represent, with the desk's owner: a desk may have it, and what is
-- remembered is current for its tables.
pub record Past (r : Remembered) : Type 0 where
  pub owner : List ℕ
  pub calls : History
  pub history : IsHistory calls
  pub right : IsCurrent r (tables owner calls)

-- its rows
abbrev pub before : (r : Remembered) → Past r → Contents
before r p = rows_of p.owner p.calls

-- the rows of the history after a call
abbrev pub after : (r : Remembered) → Call → Past r → Contents
after r c p = rows_of p.owner (next p.calls c)
