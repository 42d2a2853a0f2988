-- The answer of a look among revoked digests, for each kind.
use Rattle.std.proofs.Common.{◌≡◌, ℕ, List, [], ◌∷◌, Option, bytes_eq, filter, refl, codes}
use Rattle.sqlite.specs.State.{State}
use Rattle.sqlite.specs.declared.types.Value.TheVariants.{Blob}
use Rattle.store_schema.specs.rows.Values.{digest_values}
use Rattle.desk_history.specs.Tables.{Tables}
use Rattle.store_schema.specs.Columns.{columns_of, names_of}
use Rattle.store_schema.specs.Named.{equals}
use Rattle.store_schema.specs.Tables as tables
use Rattle.store_schema.specs.declared.selecting.TheConstants as texts
use Rattle.store_schema.proofs.SelectFacts as facts
use Rattle.desk_types.specs.declared.kind.ListedKind.{ListedKind}
use Rattle.desk_types.specs.declared.kind.ListedKind.TheVariants as kinds
use Rattle.store_reads.specs.Answers.{select_revoked}
use Rattle.store_reads.specs.Reads.{Finds, ReadsTables, listed, revoked_in}
use Rattle.store_reads.proofs.FindLemmas.{tells_row}
use Rattle.store_reads.proofs.KeyLemmas.{is_digest, is_revoked_certificate}

pub tells_revoked : (kind : ListedKind) (digest : List ℕ) (old new : State) (found : Option (List ℕ)) → Finds digest_values (select_revoked kind) (Blob digest ∷ []) (listed found) old new
    → ReadsTables (λ t. filter (bytes_eq digest) (revoked_in kind t) ≡ listed found) old new
tells_revoked kinds.Digest digest =
    tells_row 9 tables.revoked_digests texts.SELECT_REVOKED_DIGEST.now (equals tables.revoked_digests (codes "digest") 0 ∷ []) 0 (columns_of tables.revoked_digests) (names_of tables.revoked_digests) facts.select_revoked_digest digest_values digest_values (λ (t : Tables). t.revoked_digests) (λ t. refl)
    (Blob digest ∷ []) (λ x. refl) (bytes_eq digest) (is_digest digest)
tells_revoked kinds.Certificate digest =
    tells_row 10 tables.revoked_certificates texts.SELECT_REVOKED_CERTIFICATE.now (equals tables.revoked_certificates (codes "digest") 0 ∷ []) 0 (columns_of tables.revoked_certificates) (names_of tables.revoked_certificates) facts.select_revoked_certificate digest_values digest_values (λ (t : Tables). t.revoked_certificates) (λ t. refl)
    (Blob digest ∷ []) (λ x. refl) (bytes_eq digest) (is_revoked_certificate digest)
