-- The answer of a search for the numbers of requests by a digest, for each column.
use Rattle.std.proofs.Common.{ℕ, List, [], ◌∷◌, bytes_eq, refl, codes}
use Rattle.std.specs.List.Sorted.{IsPermutation}
use Rattle.sqlite.specs.State.{State}
use Rattle.sqlite.specs.declared.types.Value.TheVariants.{Blob}
use Rattle.desk_history.specs.Tables.{Tables}
use Rattle.desk_history.specs.declared.rows.RequestCertificateRow.{RequestCertificateRow}
use Rattle.desk_history.specs.declared.rows.RequestRow.{RequestRow}
use Rattle.desk_history.specs.declared.rows.ReturnRow.{ReturnRow}
use Rattle.store_schema.specs.Named.{column_named, equals}
use Rattle.store_schema.specs.Tables as tables
use Rattle.store_schema.specs.declared.selecting.TheConstants as texts
use Rattle.store_schema.specs.rows.Values as values
use Rattle.store_schema.proofs.SelectFacts as facts
use Rattle.store_reads.specs.Numbers.{number_values, numbers_in, numbers_text}
use Rattle.store_reads.specs.Reads.{Finds, ReadsTables}
use Rattle.store_reads.specs.declared.digest_numbers.DigestColumn.{DigestColumn}
use Rattle.store_reads.specs.declared.digest_numbers.DigestColumn.TheVariants as columns
use Rattle.store_reads.proofs.FindLemmas.{tells_each}
use Rattle.store_reads.proofs.KeyLemmas as key

pub tells_numbers : (column : DigestColumn) (digest : List ℕ) (old new : State) (numbers : List ℕ) → Finds number_values (numbers_text column) (Blob digest ∷ []) numbers old new
    → ReadsTables (λ t. IsPermutation (numbers_in column digest t) numbers) old new
tells_numbers columns.File digest =
    tells_each 3 tables.requests texts.SELECT_NUMBERS_OF_FILE.now (equals tables.requests (codes "file") 0 ∷ []) (column_named tables.requests (codes "no") ∷ []) (codes "no" ∷ []) facts.select_numbers_of_file values.request_values (λ (r : RequestRow). r.number) number_values (λ (t : Tables). t.requests) (λ t. refl)
    (Blob digest ∷ []) (λ x. refl) (λ r. bytes_eq digest r.file) (key.has_file digest)
tells_numbers columns.Digest digest =
    tells_each 3 tables.requests texts.SELECT_NUMBERS_OF_DIGEST.now (equals tables.requests (codes "digest") 0 ∷ []) (column_named tables.requests (codes "no") ∷ []) (codes "no" ∷ []) facts.select_numbers_of_digest values.request_values (λ (r : RequestRow). r.number) number_values (λ (t : Tables). t.requests) (λ t. refl)
    (Blob digest ∷ []) (λ x. refl) (λ r. bytes_eq digest r.digest) (key.has_digest digest)
tells_numbers columns.Signing digest =
    tells_each 3 tables.requests texts.SELECT_NUMBERS_OF_SIGNING.now (equals tables.requests (codes "signing") 0 ∷ []) (column_named tables.requests (codes "no") ∷ []) (codes "no" ∷ []) facts.select_numbers_of_signing values.request_values (λ (r : RequestRow). r.number) number_values (λ (t : Tables). t.requests) (λ t. refl)
    (Blob digest ∷ []) (λ x. refl) (λ r. bytes_eq digest r.signing) (key.has_signing digest)
tells_numbers columns.ReturnedFile digest =
    tells_each 7 tables.returns texts.SELECT_NUMBERS_OF_RETURNED_FILE.now (equals tables.returns (codes "file") 0 ∷ []) (column_named tables.returns (codes "request") ∷ []) (codes "request" ∷ []) facts.select_numbers_of_returned_file values.return_values (λ (r : ReturnRow). r.request) number_values (λ (t : Tables). t.returns) (λ t. refl)
    (Blob digest ∷ []) (λ x. refl) (λ r. bytes_eq digest r.file) (key.has_returned_file digest)
tells_numbers columns.ReturnedDigest digest =
    tells_each 7 tables.returns texts.SELECT_NUMBERS_OF_RETURNED_DIGEST.now (equals tables.returns (codes "digest") 0 ∷ []) (column_named tables.returns (codes "request") ∷ []) (codes "request" ∷ []) facts.select_numbers_of_returned_digest values.return_values (λ (r : ReturnRow). r.request) number_values (λ (t : Tables). t.returns) (λ t. refl)
    (Blob digest ∷ []) (λ x. refl) (λ r. bytes_eq digest r.digest) (key.has_returned_digest digest)
tells_numbers columns.Certificate digest =
    tells_each 4 tables.request_certificates texts.SELECT_NUMBERS_OF_CERTIFICATE.now (equals tables.request_certificates (codes "digest") 0 ∷ []) (column_named tables.request_certificates (codes "request") ∷ []) (codes "request" ∷ []) facts.select_numbers_of_certificate values.request_certificate_values (λ (r : RequestCertificateRow). r.request) number_values (λ (t : Tables). t.request_certificates) (λ t. refl)
    (Blob digest ∷ []) (λ x. refl) (λ r. bytes_eq digest r.digest) (key.has_certificate digest)
