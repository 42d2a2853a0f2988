use Rattle.std.proofs.Common.{refl, [], ◌∷◌, ◌==◌, pos, codes}
use Rattle.sqlite.specs.Held.{state}
use Rattle.sqlite.specs.declared.types.Value.TheVariants.{Int}
use Rattle.store_schema.specs.Columns.{columns_of, names_of}
use Rattle.store_schema.specs.Named.{equals}
use Rattle.store_schema.specs.Tables as tables
use Rattle.store_schema.specs.declared.selecting.TheConstants.{SELECT_RETURN}
use Rattle.store_schema.proofs.SelectFacts as facts
use Rattle.desk_history.specs.Tables.{Tables}
use Rattle.store_schema.specs.rows.Values as values
use Rattle.store_reads.specs.Answers.{return_columns}
use Rattle.store_reads.proofs.FindLemmas.{tells_row}
use Rattle.store_reads.proofs.KeyLemmas.{is_return}
use Rattle.store_reads.proofs.requests.return_of.Goals as goal

pub returns-clause-value : goal.returns-clause-value
returns-clause-value g c clean inside =
    tells_row 7 tables.returns SELECT_RETURN.now (equals tables.returns (codes "request") 0 ∷ []) 0 (columns_of tables.returns) (names_of tables.returns) facts.select_return values.return_values return_columns (λ (t : Tables). t.returns) (λ t. refl)
    (Int (pos c.args.request) ∷ []) (λ x. refl) (λ r. c.args.request == r.request) (is_return c.args.request)
    (state g.S.Store c.args.tx.now.conn.now) (state g.S.Store c.row_of.new.tx.conn.now) c.in_ok-row.row
    (rw (c.params-to_sql.ensures, c.key_of-key.ensures) at (c.in_ok-row.ensures.value clean inside))
