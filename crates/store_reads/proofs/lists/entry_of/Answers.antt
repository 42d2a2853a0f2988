use Rattle.std.proofs.Common.{refl, [], ◌∷◌, codes}
use Rattle.sqlite.specs.Held.{state}
use Rattle.sqlite.specs.declared.types.Value.TheVariants.{Text, Blob}
use Rattle.store_schema.specs.Columns.{columns_of, names_of}
use Rattle.store_schema.specs.Named.{equals}
use Rattle.store_schema.specs.Tables as tables
use Rattle.store_schema.specs.declared.selecting.TheConstants.{SELECT_LISTED}
use Rattle.store_schema.proofs.SelectFacts as facts
use Rattle.desk_history.specs.Listing.{is_entry}
use Rattle.desk_types.specs.Words.{kind_text}
use Rattle.desk_history.specs.Tables.{Tables}
use Rattle.store_schema.specs.rows.Values as values
use Rattle.store_reads.proofs.FindLemmas.{tells_row}
use Rattle.store_reads.proofs.KeyLemmas.{is_it}
use Rattle.store_reads.proofs.lists.entry_of.Goals as goal

pub returns-clause-value : goal.returns-clause-value
returns-clause-value g c clean inside =
    tells_row 8 tables.listed SELECT_LISTED.now (equals tables.listed (codes "kind") 0 ∷ equals tables.listed (codes "digest") 1 ∷ []) 0 (columns_of tables.listed) (names_of tables.listed) facts.select_listed values.entry_values values.entry_values (λ (t : Tables). t.listed) (λ t. refl)
    (Text (kind_text c.args.kind) ∷ Blob c.args.digest.now ∷ []) (λ x. refl) (is_entry c.args.kind c.args.digest.now) (is_it c.args.kind c.args.digest.now)
    (state g.S.Store c.args.tx.now.conn.now) (state g.S.Store c.row_of.new.tx.conn.now) c.in_ok-row.row
    (rw (c.params-to_sql.ensures, c.params-to_sql-2.ensures, c.text.ensures, c.as_bytes.ensures.value) at (c.in_ok-row.ensures.value clean inside))
