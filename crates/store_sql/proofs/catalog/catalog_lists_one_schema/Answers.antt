use Rattle.std.proofs.Common.{◌≡◌, ◌∙◌, List, [], filter, sym, ap, ap₂, subst}
use Rattle.std.specs.List.{AllZip}
use Rattle.sqlite_catalog.specs.Listing.{IsIndexRow, IsViewRow, is_index_row, is_table_row, is_view_row}
use Rattle.sqlite_schema.specs.declared.schema.Schema.{Schema}
use Rattle.sqlite_schema.specs.declared.schema.Table.{Table}
use Rattle.sqlite_schema.specs.declared.schema.View.{View as Stored}
use Rattle.store_sql.proofs.CatalogLemmas.{none_listed, same_indexes, same_tables}
use Rattle.store_sql.proofs.catalog.catalog_lists_one_schema.Goals as goal

same_schema : (s t : Schema) → s.tables ≡ t.tables → s.indexes ≡ t.indexes → s.views ≡ t.views → s ≡ t
same_schema s t tables indexes views =
    ap₂ (λ x y. record { tables = x; indexes = y; views = s.views }) tables indexes ∙ ap (λ v. record { tables = t.tables; indexes = t.indexes; views = v }) views

pub returns : goal.returns
returns c objects one other none a b =
    let tables : one.tables ≡ other.tables = same_tables (filter is_table_row objects) one.tables other.tables a.tables b.tables in
    let indexes : one.indexes ≡ other.indexes =
    same_indexes one.tables (filter is_index_row objects) one.indexes other.indexes a.named a.indexes
    (subst (λ (ts : List Table). AllZip (IsIndexRow ts) (filter is_index_row objects) other.indexes) (sym tables) b.indexes) in
    let empty : other.views ≡ [] =
    none_listed IsViewRow (filter is_view_row objects) other.views (subst (λ (vs : List Stored). AllZip IsViewRow (filter is_view_row objects) vs) none a.views) b.views in
    let views : one.views ≡ other.views = none ∙ sym empty in
    same_schema one other tables indexes views
