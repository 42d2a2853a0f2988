use Rattle.std.proofs.Common.{refl}
use Rattle.sqlite.specs.Held.{state}
use Rattle.store_schema.specs.Columns.{values_of}
use Rattle.store_schema.specs.Tables.{revoked_digests}
use Rattle.store_schema.specs.declared.inserting.TheConstants.{INSERT_REVOKED_DIGEST}
use Rattle.store_schema.proofs.InsertFacts.{insert_revoked_digest}
use Rattle.desk_types.specs.declared.kind.ListedKind.TheVariants as kinds
use Rattle.desk_history.specs.Writes.{with_revoked}
use Rattle.store_schema.specs.rows.Values.{digest_values}
use Rattle.store_writes.proofs.RowLemmas.{revoked_digest_in}
use Rattle.store_writes.proofs.StepLemmas.{puts_in}
use Rattle.store_writes.proofs.listing.revoke_digest.Goals as goal

pub returns-clause-value : goal.returns-clause-value
returns-clause-value g c clean inside =
    let d = c.args.digest.now in
    puts_in 9 revoked_digests INSERT_REVOKED_DIGEST.now (values_of revoked_digests) (digest_values d) (digest_values d) (with_revoked kinds.Digest d)
    (state g.S.Store c.args.tx.now.conn.now) (state g.S.Store c.insert.new.tx.conn.now) insert_revoked_digest (revoked_digest_in d) (λ t. refl)
    (rw (c.params-to_sql.ensures, c.as_bytes.ensures.value) at (c.in_ok-insert.ensures.value clean inside))
