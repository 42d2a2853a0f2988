-- The bytes that each query of an export writes, by the lists of the histories that the connection
-- shows.
use Rattle.std.proofs.Common.{◌≡◌, ℕ, List, [], flat_map, Option, true, refl, ap}
use Rattle.sqlite.specs.Order.{Row}
use Rattle.sqlite.specs.State.{State, HasCleanDisk}
use Rattle.desk_history.specs.Calls.{History, distinct}
use Rattle.desk_history.specs.Tables.{Tables}
use Rattle.desk_history.specs.Revocations.{revocations}
use Rattle.desk_types.specs.declared.kind.ListedKind.TheVariants as kinds
use Rattle.siglist.specs.Writing.{sha256_entry_bytes, x509_sha256_entry_bytes}
use Rattle.store_schema.specs.rows.Histories.{ShowsHistory}
use Rattle.store_schema.specs.rows.Values.{digest_values}
use Rattle.desk_exports.specs.Exports.{revoked}
use Rattle.store_sql.specs.Queries.{by_keys}
use Rattle.store_schema.specs.Columns.{by_first, columns_after, names_of}
use Rattle.store_schema.specs.Tables as tables
use Rattle.store_schema.specs.declared.selecting.TheConstants.{SELECT_REVOKED_CERTIFICATES, SELECT_REVOKED_DIGESTS}
use Rattle.store_schema.proofs.SelectFacts as facts
use Rattle.store_exports.specs.Exporting.{BeginsOf, WritesOf}
use Rattle.store_exports.specs.Rows.{IsPart, WritesAnswer, WritesFirst}
use Rattle.store_exports.proofs.AnswerLemmas.{told}
use Rattle.store_exports.proofs.ListLemmas.{digests_in_order}
use Rattle.store_exports.proofs.OrderLemmas.{certificates_order, digests_order}

one_digest : (x y : List ℕ) → digest_values x ≡ digest_values y → x ≡ y
one_digest x y h = cc

-- a query's answer writes these bytes of each history, and a part of it a beginning of them
abbrev pub Told : {X : Type 0} → (X → Row) → (X → List ℕ) → List ℕ → Row → State → (History → List X) → Type 1
Told shown bytes text params s wanted =
    ((new : State) (before after : Option (List ℕ)) → WritesAnswer (IsPart shown bytes) text params s new before after → WritesOf s before after (λ cs. flat_map bytes (wanted cs)))
    × ((before after : Option (List ℕ)) → WritesFirst (IsPart shown bytes) text params s before after → BeginsOf s before after (λ cs. flat_map bytes (wanted cs)))

module _ (s : State) (clean : (owner : List ℕ) (cs : History) → ShowsHistory s owner cs → HasCleanDisk s) where
  pub tells_digests : (by : List ℕ) → Told digest_values (sha256_entry_bytes by) SELECT_REVOKED_DIGESTS.now [] s (revoked kinds.Digest)
  tells_digests by =
      told 9 tables.revoked_digests SELECT_REVOKED_DIGESTS.now [] 1 (columns_after 1 tables.revoked_digests) (names_of tables.revoked_digests) facts.select_revoked_digests digest_values digest_values
      (λ (t : Tables). t.revoked_digests) (λ t. refl) [] (λ x. refl) (λ _. true) (λ x. refl) (sha256_entry_bytes by) (λ x y h. ap (sha256_entry_bytes by) (one_digest x y h)) (revoked kinds.Digest)
      (λ owner cs ys moved sorted. digests_in_order (λ x y. by_keys (by_first 1 tables.revoked_digests) (digest_values x) (digest_values y)) digests_order (distinct (revocations kinds.Digest cs)) ys moved sorted)
      s clean

  pub tells_certificates : (by : List ℕ) → Told digest_values (x509_sha256_entry_bytes by) SELECT_REVOKED_CERTIFICATES.now [] s (revoked kinds.Certificate)
  tells_certificates by =
      told 10 tables.revoked_certificates SELECT_REVOKED_CERTIFICATES.now [] 1 (columns_after 1 tables.revoked_certificates) (names_of tables.revoked_certificates) facts.select_revoked_certificates digest_values digest_values
      (λ (t : Tables). t.revoked_certificates) (λ t. refl) [] (λ x. refl) (λ _. true) (λ x. refl) (x509_sha256_entry_bytes by) (λ x y h. ap (x509_sha256_entry_bytes by) (one_digest x y h)) (revoked kinds.Certificate)
      (λ owner cs ys moved sorted. digests_in_order (λ x y. by_keys (by_first 1 tables.revoked_certificates) (digest_values x) (digest_values y)) certificates_order (distinct (revocations kinds.Certificate cs)) ys moved sorted)
      s clean
