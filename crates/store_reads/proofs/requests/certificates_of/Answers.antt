use Rattle.std.proofs.Common.{refl, [], ◌∷◌, ◌==◌, pos, codes}
use Rattle.sqlite.specs.Held.{state}
use Rattle.sqlite.specs.declared.types.Value.TheVariants.{Int}
use Rattle.store_schema.specs.Columns.{columns_after, names_of}
use Rattle.store_schema.specs.Named.{equals}
use Rattle.store_schema.specs.Tables as tables
use Rattle.store_schema.specs.declared.selecting.TheConstants.{SELECT_REQUEST_CERTIFICATES}
use Rattle.store_schema.proofs.SelectFacts as facts
use Rattle.desk_history.specs.Tables.{Tables}
use Rattle.store_schema.specs.rows.Values as values
use Rattle.store_reads.proofs.FindLemmas.{tells_rows}
use Rattle.store_reads.proofs.KeyLemmas.{is_certificate}
use Rattle.store_reads.proofs.requests.certificates_of.Goals as goal

pub returns-clause-value : goal.returns-clause-value
returns-clause-value g c clean inside =
    tells_rows 4 tables.request_certificates SELECT_REQUEST_CERTIFICATES.now (equals tables.request_certificates (codes "request") 0 ∷ []) 2 (columns_after 2 tables.request_certificates) (names_of tables.request_certificates) facts.select_request_certificates values.request_certificate_values values.request_certificate_values (λ (t : Tables). t.request_certificates) (λ t. refl)
    (Int (pos c.args.request) ∷ []) (λ x. refl) (λ r. c.args.request == r.request) (is_certificate c.args.request)
    (state g.S.Store c.args.tx.now.conn.now) (state g.S.Store c.rows_of.new.tx.conn.now) c.in_ok-rows.rows.items
    (rw (c.params-to_sql.ensures, c.key_of-key.ensures) at (c.in_ok-rows.ensures.value clean inside))
