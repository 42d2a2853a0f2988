-- The answers of the queries for all calls and for the revoked certificates.
use Rattle.std.proofs.Common.{◌≡◌, ℕ, List, [], map, reverse, Some, true, refl, sym, ap, ◌∙◌, ◌∷◌}
use Rattle.std.specs.Prelude.{IsTrue, pos}
use Rattle.sqlite.specs.Order.{Row}
use Rattle.sqlite.specs.State.{State, HasCleanDisk}
use Rattle.sqlite.specs.declared.types.Value.TheVariants.{Int, Null, Text}
use Rattle.sqlite_trees.proofs.ListLemmas.{map-map}
use Rattle.desk_types.specs.declared.kind.ListedKind.TheVariants as kinds
use Rattle.desk_history.specs.Calls.{History, distinct}
use Rattle.desk_history.specs.Revocations.{revocations}
use Rattle.desk_history.specs.Tables.{tables}
use Rattle.desk_exports.specs.Exports.{revoked}
use Rattle.store_sql.specs.Contents.{Holds}
use Rattle.store_sql.specs.Effects.{IsSelected, Streams}
use Rattle.store_sql.specs.Queries.{by_keys}
use Rattle.store_sql.proofs.ItemLemmas.{lists}
use Rattle.store_schema.specs.Columns.{by_first, columns_after, names_of}
use Rattle.store_schema.specs.Tables as schema
use Rattle.store_schema.specs.rows.Contents.{contents}
use Rattle.store_schema.specs.rows.Histories.{ShowsHistory}
use Rattle.store_schema.specs.rows.Values.{digest_values}
use Rattle.store_schema.specs.declared.selecting.TheConstants.{SELECT_CALLS, SELECT_REVOKED_CERTIFICATES}
use Rattle.store_schema.proofs.SelectFacts as facts
use Rattle.store_exports.specs.Lines.{Columns, columns_of, columns_row}
use Rattle.store_exports.proofs.ListLemmas.{called, calls_in_order, digests_in_order}
use Rattle.store_exports.proofs.OrderLemmas.{certificates_order}

abbrev stored : Columns → Row
stored c = Int (pos c.number) ∷ Null ∷ Text c.caller ∷ Text c.key ∷ Text c.text ∷ Text c.reply ∷ []

-- on a connection that was open and shows the history, the answer is these rows
module _ (s new : State) (answer : List Row) (clean : HasCleanDisk s) (live : IsTrue s.is_open) where
  pub calls_are : Streams SELECT_CALLS.now [] s new answer → (owner : List ℕ) (cs : History) → ShowsHistory s owner cs → answer ≡ map columns_row (reverse (called cs))
  calls_are exact owner cs was =
      let t = tables owner cs in
      let held : Holds schema.desk_layout s.now (contents t) = (was.holds clean live).0 in
      let it : IsSelected schema.calls [] (by_first 1 schema.calls) (columns_after 1 schema.calls) [] (map stored (called cs)) answer =
      (exact schema.desk_layout 2 schema.calls [] (by_first 1 schema.calls) (columns_after 1 schema.calls) (names_of schema.calls) facts.select_calls held.fits).1
      (contents t) (map stored (called cs)) held (ap Some (sym (map-map stored columns_of t.calls))) in
      let ys = lists schema.calls [] [] stored (λ _. true) (λ x. refl) (by_first 1 schema.calls) (columns_after 1 schema.calls) columns_row (λ x. refl) (called cs) answer it in
      ys.2 ∙ ap (map columns_row) (calls_in_order cs ys.0 ys.1 ys.3)

  pub certificates_are : Streams SELECT_REVOKED_CERTIFICATES.now [] s new answer → (owner : List ℕ) (cs : History) → ShowsHistory s owner cs → answer ≡ map digest_values (revoked kinds.Certificate cs)
  certificates_are exact owner cs was =
      let t = tables owner cs in
      let table = schema.revoked_certificates in
      let held : Holds schema.desk_layout s.now (contents t) = (was.holds clean live).0 in
      let it : IsSelected table [] (by_first 1 table) (columns_after 1 table) [] (map digest_values t.revoked_certificates) answer =
      (exact schema.desk_layout 10 table [] (by_first 1 table) (columns_after 1 table) (names_of table) facts.select_revoked_certificates held.fits).1
      (contents t) (map digest_values t.revoked_certificates) held refl in
      let ys = lists table [] [] digest_values (λ _. true) (λ x. refl) (by_first 1 table) (columns_after 1 table) digest_values (λ x. refl) t.revoked_certificates answer it in
      ys.2 ∙ ap (map digest_values)
      (digests_in_order (λ x y. by_keys (by_first 1 table) (digest_values x) (digest_values y)) certificates_order (distinct (revocations kinds.Certificate cs)) ys.0 ys.1 ys.3)
