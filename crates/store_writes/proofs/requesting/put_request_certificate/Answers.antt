use Rattle.std.proofs.Common.{refl}
use Rattle.sqlite.specs.Held.{state}
use Rattle.store_schema.specs.Columns.{values_of}
use Rattle.store_schema.specs.Tables.{request_certificates}
use Rattle.store_schema.specs.declared.inserting.TheConstants.{INSERT_REQUEST_CERTIFICATE}
use Rattle.store_schema.proofs.InsertFacts.{insert_request_certificate}
use Rattle.desk_history.specs.Writes.{written}
use Rattle.desk_history.specs.declared.write.Write.TheVariants as writes
use Rattle.store_schema.specs.rows.Values.{request_certificate_values}
use Rattle.store_writes.proofs.RowLemmas.{request_certificate_in}
use Rattle.store_writes.proofs.StepLemmas.{puts_in}
use Rattle.store_writes.proofs.requesting.put_request_certificate.Goals as goal

pub returns-clause-value : goal.returns-clause-value
returns-clause-value g c clean inside =
    let r = c.args.certificate.now in
    puts_in 4 request_certificates INSERT_REQUEST_CERTIFICATE.now (values_of request_certificates) (request_certificate_values r) (request_certificate_values r) (written (writes.RequestCertificate r))
    (state g.S.Store c.args.tx.now.conn.now) (state g.S.Store c.insert.new.tx.conn.now) insert_request_certificate (request_certificate_in r) (λ t. refl)
    (rw (c.params-to_sql.ensures, c.params-to_sql-2.ensures, c.in_ok-request.ensures.value, c.value.ensures.value, c.as_bytes.ensures.value) at (c.in_ok-insert.ensures.value clean inside))
