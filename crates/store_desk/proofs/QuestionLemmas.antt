-- The step from a read of any tables, or of any history, to the answer to a question.
use Rattle.std.proofs.Common.{refl, arith, ℕ, List, Result, Ok, Err, IsTrue}
use Rattle.std.specs.Prelude.{IfOk, OnOk}
use Rattle.sqlite.specs.Store as store
use Rattle.sqlite.specs.Held.{Held, state}
use Rattle.sqlite.specs.State.{State, HasCleanDisk, Survives}
use Rattle.desk_history.specs.Calls.{History}
use Rattle.desk_history.specs.Formed.{IsHistory}
use Rattle.desk_history.specs.Tables.{Tables, tables}
use Rattle.store_schema.specs.rows.Histories.{ShowsHistory}
use Rattle.store_sql.proofs.CommitLemmas.{begun}
use Rattle.store_reads.specs.Reads.{ReadsTables}
use Rattle.store_shown.specs.Telling.{TellsOf}
use Rattle.store_desk.specs.Questions.{AnswersQuestion}

pub of_tables : (old new : State) (P : Tables → Type 0) → ReadsTables P old new → AnswersQuestion (λ owner cs. P (tables owner cs)) old new
of_tables old new P it = record { same = it.kept; tells = λ owner cs history sees. it.tells (tables owner cs) sees }

pub of_history : (old new : State) (P : History → Type 0) → TellsOf P old new → AnswersQuestion (λ owner cs. P cs) old new
of_history old new P it = record { same = it.kept; tells = it.tells }

-- a read in a transaction holds for each history that the connection showed before
pub read_told : {S X E : Type 0} (g : store.Ghosts S) (old last : Held S) (tells : X → List ℕ → History → Type 0) (r : Result X E) → Survives (begun g old) (state g last) (λ _. ⊥)
    → HasCleanDisk (state g last) → IfOk r (λ x. AnswersQuestion (tells x) (begun g old) (state g last)) → OnOk r (IsTrue (state g last).is_open × IsTrue (state g last).in_transaction)
    → IfOk r (λ x. (owner : List ℕ) (cs : History) → IsHistory cs → ShowsHistory (state g old) owner cs → tells x owner cs)
read_told g old last tells (Ok x) spared late it inside = λ owner cs history shows.
    it.tells owner cs history (record { inside = refl; holds = (shows.holds (omega (arith, spared.clean, late)) (it.same.kept.was_open inside.0)).0 })
read_told g old last tells (Err e) spared late it inside = tt
