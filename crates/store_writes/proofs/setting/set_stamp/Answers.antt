use Rattle.std.proofs.Common.{refl, [], ◌∷◌, codes, pos, true}
use Rattle.sqlite.specs.Held.{state}
use Rattle.sqlite.specs.declared.types.Value.TheVariants.{Int}
use Rattle.store_schema.specs.Named.{set_to}
use Rattle.store_schema.specs.Tables.{desk}
use Rattle.store_schema.specs.declared.changing.TheConstants.{UPDATE_STAMP}
use Rattle.store_schema.proofs.ChangeFacts.{update_stamp}
use Rattle.desk_history.specs.Tables.{Tables}
use Rattle.desk_history.specs.Writes.{written}
use Rattle.desk_history.specs.declared.write.Write.TheVariants as writes
use Rattle.store_schema.specs.rows.Values.{desk_values}
use Rattle.store_writes.proofs.ChangeLemmas.{gets_stamp}
use Rattle.store_writes.proofs.StepLemmas.{sets}
use Rattle.store_writes.proofs.setting.set_stamp.Goals as goal

pub returns-clause-value : goal.returns-clause-value
returns-clause-value g c clean inside =
    let s = c.args.stamp in
    sets 0 desk UPDATE_STAMP.now [] (Int (pos s) ∷ []) desk_values (λ (t : Tables). t.desk ∷ []) (λ t. refl)
    (λ _. true) (λ x. refl) (written (writes.Stamp s)) (state g.S.Store c.args.tx.now.conn.now) (state g.S.Store c.update.new.tx.conn.now)
    (set_to desk (codes "stamp") 0) (λ x. record x { stamp = s }) update_stamp (gets_stamp s) (λ t. refl)
    (rw (c.params-to_sql.ensures, c.in_ok-number.ensures.value, c.value.ensures.value) at (c.in_ok-update.ensures.value clean inside))
