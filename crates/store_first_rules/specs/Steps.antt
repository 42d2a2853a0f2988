-- The tables with a count of calls. Auditors needn't believe these words.
use Rattle.std.specs.Prelude.{ℕ, map}
use Rattle.desk_history.specs.Tables.{MigratedRow, Tables}

-- the row with this number of calls
abbrev pub set_calls : ℕ → MigratedRow → MigratedRow
set_calls calls row = record row { calls = calls }

-- the tables with this number of calls that were accepted by the first rules
abbrev pub with_first_calls : ℕ → Tables → Tables
with_first_calls calls t = record t { migrated = map (set_calls calls) t.migrated }
