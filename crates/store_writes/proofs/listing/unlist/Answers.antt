use Rattle.std.proofs.Common.{refl, [], ◌∷◌, codes}
use Rattle.sqlite.specs.Held.{state}
use Rattle.store_schema.specs.Named.{equals}
use Rattle.store_schema.specs.Tables.{listed}
use Rattle.store_schema.specs.declared.changing.TheConstants.{DELETE_LISTED}
use Rattle.store_schema.proofs.ChangeFacts.{delete_listed}
use Rattle.desk_history.specs.Listing.{is_entry}
use Rattle.desk_history.specs.Tables.{Tables}
use Rattle.desk_history.specs.Writes.{written}
use Rattle.desk_history.specs.declared.write.Write.TheVariants as writes
use Rattle.store_schema.specs.rows.Values.{entry_values}
use Rattle.store_writes.proofs.ChangeLemmas.{is_it, listing_params}
use Rattle.store_writes.proofs.StepLemmas.{takes_out}
use Rattle.store_writes.proofs.listing.unlist.Goals as goal

pub returns-clause-value : goal.returns-clause-value
returns-clause-value g c clean inside =
    let l = c.args.listing.now in
    takes_out 8 listed DELETE_LISTED.now (equals listed (codes "kind") 0 ∷ equals listed (codes "digest") 1 ∷ []) (listing_params l) entry_values (λ (t : Tables). t.listed) (λ t. refl)
    (is_entry l.kind l.digest) (is_it l) (written (writes.Unlist l)) (state g.S.Store c.args.tx.now.conn.now) (state g.S.Store c.delete.new.tx.conn.now)
    delete_listed (λ t. refl)
    (rw (c.params-to_sql.ensures, c.params-to_sql-2.ensures, c.text.ensures, c.as_bytes.ensures.value) at (c.in_ok-delete.ensures.value clean inside))
