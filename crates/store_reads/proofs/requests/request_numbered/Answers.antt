use Rattle.std.proofs.Common.{refl, [], ◌∷◌, ◌==◌, pos, codes}
use Rattle.sqlite.specs.Held.{state}
use Rattle.sqlite.specs.declared.types.Value.TheVariants.{Int}
use Rattle.store_schema.specs.Columns.{columns_of, names_of}
use Rattle.store_schema.specs.Named.{equals}
use Rattle.store_schema.specs.Tables as tables
use Rattle.store_schema.specs.declared.selecting.TheConstants.{SELECT_REQUEST}
use Rattle.store_schema.proofs.SelectFacts as facts
use Rattle.desk_history.specs.Tables.{Tables}
use Rattle.store_schema.specs.rows.Values as values
use Rattle.store_reads.specs.Answers.{request_columns}
use Rattle.store_reads.proofs.FindLemmas.{tells_row}
use Rattle.store_reads.proofs.KeyLemmas.{is_request}
use Rattle.store_reads.proofs.requests.request_numbered.Goals as goal

pub returns-clause-value : goal.returns-clause-value
returns-clause-value g c clean inside =
    tells_row 3 tables.requests SELECT_REQUEST.now (equals tables.requests (codes "no") 0 ∷ []) 0 (columns_of tables.requests) (names_of tables.requests) facts.select_request values.request_values request_columns (λ (t : Tables). t.requests) (λ t. refl)
    (Int (pos c.args.request) ∷ []) (λ x. refl) (λ r. c.args.request == r.number) (is_request c.args.request)
    (state g.S.Store c.args.tx.now.conn.now) (state g.S.Store c.row_of.new.tx.conn.now) c.in_ok-row.row
    (rw (c.params-to_sql.ensures, c.key_of-no.ensures) at (c.in_ok-row.ensures.value clean inside))
