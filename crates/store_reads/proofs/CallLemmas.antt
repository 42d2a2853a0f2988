-- The calls of a caller with a key, and those of a number, by their texts.
use Rattle.std.proofs.Common.{◌≡◌, ◌&&◌, ◌==◌, ℕ, pos, List, [], ◌∷◌, map, filter, bytes_eq, Option, Some, refl, sym, ap, ◌∙◌, codes}
use Rattle.sqlite.specs.declared.types.Value.TheVariants.{Int, Text}
use Rattle.sqlite.specs.State.{State}
use Rattle.sqlite_trees.proofs.ListLemmas.{filter-map, map-map}
use Rattle.desk_history.specs.Runs.{has_key}
use Rattle.desk_history.specs.Tables.{Tables}
use Rattle.store_schema.specs.Columns.{columns_of, names_of}
use Rattle.store_schema.specs.Named.{equals}
use Rattle.store_schema.specs.Tables as tables
use Rattle.store_schema.specs.declared.selecting.TheConstants.{SELECT_CALL, SELECT_CALL_NUMBERED}
use Rattle.store_schema.proofs.SelectFacts.{select_call, select_call_numbered}
use Rattle.store_reads.specs.CallColumns.{call_columns, texts_of}
use Rattle.store_reads.specs.Reads.{Finds, ReadsTables, listed}
use Rattle.store_reads.specs.declared.call_texts.CallTexts.{CallTexts}
use Rattle.store_reads.proofs.FindLemmas.{tells_row}
use Rattle.store_reads.proofs.KeyLemmas.{call_row, is_call, is_call_numbered}

pub tells_call : (caller key : List ℕ) (old new : State) (found : Option CallTexts) → Finds call_columns SELECT_CALL.now (Text caller ∷ Text key ∷ []) (listed found) old new
    → ReadsTables (λ t. map texts_of (filter (has_key caller key) t.calls) ≡ listed found) old new
tells_call caller key old new found f =
    let p : CallTexts → _ = λ x. bytes_eq caller x.caller && bytes_eq key x.key in
    let it = tells_row 2 tables.calls SELECT_CALL.now (equals tables.calls (codes "caller") 0 ∷ equals tables.calls (codes "key") 1 ∷ []) 0 (columns_of tables.calls) (names_of tables.calls) select_call call_row call_columns
    (λ (t : Tables). map texts_of t.calls) (λ t. ap Some (sym (map-map call_row texts_of t.calls))) (Text caller ∷ Text key ∷ []) (λ x. refl) p (is_call caller key) old new found f in
    record { kept = it.kept; tells = λ t sees. sym (filter-map p texts_of t.calls) ∙ it.tells t sees }

pub tells_numbered : (k : ℕ) (old new : State) (found : Option CallTexts) → Finds call_columns SELECT_CALL_NUMBERED.now (Int (pos k) ∷ []) (listed found) old new
    → ReadsTables (λ t. map texts_of (filter (λ m. k == m.number) t.calls) ≡ listed found) old new
tells_numbered k old new found f =
    let p : CallTexts → _ = λ x. k == x.number in
    let it = tells_row 2 tables.calls SELECT_CALL_NUMBERED.now (equals tables.calls (codes "no") 0 ∷ []) 0 (columns_of tables.calls) (names_of tables.calls) select_call_numbered call_row call_columns
    (λ (t : Tables). map texts_of t.calls) (λ t. ap Some (sym (map-map call_row texts_of t.calls))) (Int (pos k) ∷ []) (λ x. refl) p (is_call_numbered k) old new found f in
    record { kept = it.kept; tells = λ t sees. sym (filter-map p texts_of t.calls) ∙ it.tells t sees }
