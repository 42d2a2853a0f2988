-- Answers to questions about a desk's history.
use Rattle.std.specs.Prelude.{ℕ, List}
use Rattle.sqlite.specs.State.{State}
use Rattle.store_schema.specs.rows.Contents.{contents}
use Rattle.store_schema.specs.rows.Histories.{rows_of}
use Rattle.desk_history.specs.Calls.{History}
use Rattle.desk_history.specs.Formed.{IsHistory}
use Rattle.store_sql.specs.States.{Changes, Sees}
use Rattle.store_schema.specs.Tables.{desk_layout}

-- Nothing changes, and this holds of each history that a desk may have and whose tables the store
-- holds, with the owner.
pub record AnswersQuestion (told : List ℕ → History → Type 0) (old new : State) : Type 0 where
  pub same : Changes desk_layout contents old new (λ t. t)
  pub tells : (owner : List ℕ) (cs : History) → IsHistory cs → Sees desk_layout old (rows_of owner cs) → told owner cs
