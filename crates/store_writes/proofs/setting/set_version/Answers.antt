use Rattle.std.proofs.Common.{refl, [], ◌∷◌, codes, pos, true}
use Rattle.sqlite.specs.Held.{state}
use Rattle.sqlite.specs.declared.types.Value.TheVariants.{Int}
use Rattle.store_schema.specs.Named.{set_to}
use Rattle.store_schema.specs.Tables.{desk}
use Rattle.store_schema.specs.declared.changing.TheConstants.{UPDATE_VERSION}
use Rattle.store_schema.proofs.ChangeFacts.{update_version}
use Rattle.desk_history.specs.Tables.{Tables}
use Rattle.store_schema.specs.rows.Values.{desk_values}
use Rattle.store_writes.specs.Steps.{with_version}
use Rattle.store_writes.proofs.ChangeLemmas.{gets_version}
use Rattle.store_writes.proofs.StepLemmas.{sets}
use Rattle.store_writes.proofs.setting.set_version.Goals as goal

pub returns-clause-value : goal.returns-clause-value
returns-clause-value g c clean inside =
    sets 0 desk UPDATE_VERSION.now [] (Int (pos 2) ∷ []) desk_values (λ (t : Tables). t.desk ∷ []) (λ t. refl)
    (λ _. true) (λ x. refl) (with_version 2) (state g.S.Store c.args.tx.now.conn.now) (state g.S.Store c.update.new.tx.conn.now)
    (set_to desk (codes "version") 0) (λ x. record x { version = 2 }) update_version (gets_version 2) (λ t. refl)
    (rw c.params-to_sql.ensures at (c.in_ok-update.ensures.value clean inside))
