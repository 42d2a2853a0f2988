-- The desk's own row, by the answer of its query.
use Rattle.std.proofs.Common.{◌≡◌, pos, List, [], ◌∷◌, refl, sym, ◌∙◌, IsTrue}
use Rattle.sqlite.proofs.Callers.{one_permutation}
use Rattle.sqlite.specs.declared.types.Value.TheVariants.{Int, Text, Blob}
use Rattle.sqlite.specs.Order.{Row}
use Rattle.sqlite.specs.State.{State, Shown}
use Rattle.desk_history.specs.Tables.{DeskRow}
use Rattle.store_schema.specs.Columns.{by_first, columns_after, names_of}
use Rattle.store_schema.specs.Tables.{desk, desk_layout}
use Rattle.store_schema.specs.declared.selecting.TheConstants.{SELECT_DESK}
use Rattle.store_schema.specs.rows.Contents.{contents}
use Rattle.store_schema.specs.rows.Values.{desk_values}
use Rattle.store_schema.proofs.SelectFacts.{select_desk}
use Rattle.store_sql.proofs.ItemLemmas.{turns}
use Rattle.store_sql.proofs.ReadLemmas.{selects}
use Rattle.store_reads.specs.Own.{IsOwn, ReadsBy, own_columns}
use Rattle.store_reads.specs.Reads.{ReadsTables}
use Rattle.store_reads.specs.declared.desk_row.OwnRow.{OwnRow}

-- the row of the tables as the query shows it
abbrev shown_row : DeskRow → Row
shown_row d = Int (pos d.id) ∷ Text d.mark ∷ Int (pos d.version) ∷ Blob d.owner ∷ Int (pos d.stamp) ∷ []

same_version : (d : DeskRow) (own : OwnRow) → ◌≡◌ {A = List Row} (shown_row d ∷ []) (own_columns own.owner own.version own.stamp ∷ []) → own.version ≡ pos d.version
same_version d own e = cc

same_owner : (d : DeskRow) (own : OwnRow) → ◌≡◌ {A = List Row} (shown_row d ∷ []) (own_columns own.owner own.version own.stamp ∷ []) → own.owner ≡ d.owner
same_owner d own e = cc

same_stamp : (d : DeskRow) (own : OwnRow) → ◌≡◌ {A = List Row} (shown_row d ∷ []) (own_columns own.owner own.version own.stamp ∷ []) → own.stamp ≡ d.stamp
same_stamp d own e = cc

-- an answer that reads as a desk's says what the desk's tables do
pub tells_own : (old new : State) (answer : List Row) (own : OwnRow) → IsTrue old.in_transaction → Shown SELECT_DESK.now [] old new answer → ReadsBy answer own
    → ReadsTables (IsOwn own) old new
tells_own old new answer own inside shown reads =
    let it = selects SELECT_DESK.now [] old new answer inside shown desk_layout 0 desk [] (by_first 1 desk) (columns_after 1 desk) (names_of desk) select_desk in
    record {
      kept = turns desk_layout contents contents (λ c. c) old new it.0 (λ t. refl);
      tells = λ t sees.
          let one = one_permutation (shown_row t.desk) answer (it.1 (contents t) (desk_values t.desk ∷ []) sees refl).same in
          let same = sym one ∙ reads.2 in
          (same_version t.desk own same, same_owner t.desk own same, same_stamp t.desk own same);
    }
