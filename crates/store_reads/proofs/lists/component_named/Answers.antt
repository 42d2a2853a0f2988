use Rattle.std.proofs.Common.{refl, [], ◌∷◌, codes}
use Rattle.sqlite.specs.Held.{state}
use Rattle.sqlite.specs.declared.types.Value.TheVariants.{Text}
use Rattle.store_schema.specs.Columns.{columns_of, names_of}
use Rattle.store_schema.specs.Named.{equals}
use Rattle.store_schema.specs.Tables as tables
use Rattle.store_schema.specs.declared.selecting.TheConstants.{SELECT_COMPONENT}
use Rattle.store_schema.proofs.SelectFacts as facts
use Rattle.desk_history.specs.Writes.{is_named}
use Rattle.desk_history.specs.Tables.{Tables}
use Rattle.store_schema.specs.rows.Values as values
use Rattle.store_reads.proofs.FindLemmas.{tells_row}
use Rattle.store_reads.proofs.KeyLemmas.{is_of_name}
use Rattle.store_reads.proofs.lists.component_named.Goals as goal

pub returns-clause-value : goal.returns-clause-value
returns-clause-value g c clean inside =
    tells_row 11 tables.components SELECT_COMPONENT.now (equals tables.components (codes "name") 0 ∷ []) 0 (columns_of tables.components) (names_of tables.components) facts.select_component values.component_values values.component_values (λ (t : Tables). t.components) (λ t. refl)
    (Text c.args.name.now ∷ []) (λ x. refl) (is_named c.args.name.now) (is_of_name c.args.name.now)
    (state g.S.Store c.args.tx.now.conn.now) (state g.S.Store c.row_of.new.tx.conn.now) c.in_ok-row.row
    (rw (c.params-to_sql.ensures, c.as_str.ensures.value) at (c.in_ok-row.ensures.value clean inside))
