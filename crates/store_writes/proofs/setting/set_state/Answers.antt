use Rattle.std.proofs.Common.{refl, [], ◌∷◌, codes, ◌==◌}
use Rattle.sqlite.specs.Held.{state}
use Rattle.store_schema.specs.Named.{equals, set_to}
use Rattle.store_schema.specs.Tables.{requests}
use Rattle.store_schema.specs.declared.changing.TheConstants.{UPDATE_STATE}
use Rattle.store_schema.proofs.ChangeFacts.{update_state}
use Rattle.desk_history.specs.Tables.{Tables}
use Rattle.desk_history.specs.Writes.{written}
use Rattle.desk_history.specs.declared.write.Write.TheVariants as writes
use Rattle.store_schema.specs.rows.Values.{request_values}
use Rattle.store_writes.proofs.ChangeLemmas.{gets_state, has_number, state_params}
use Rattle.store_writes.proofs.StepLemmas.{sets}
use Rattle.store_writes.proofs.setting.set_state.Goals as goal

pub returns-clause-value : goal.returns-clause-value
returns-clause-value g c clean inside =
    let o = c.args.outcome.now in
    sets 3 requests UPDATE_STATE.now (equals requests (codes "no") 0 ∷ []) (state_params o) request_values (λ (t : Tables). t.requests) (λ t. refl)
    (λ x. o.request == x.number) (has_number o) (written (writes.State o)) (state g.S.Store c.args.tx.now.conn.now) (state g.S.Store c.update.new.tx.conn.now)
    (set_to requests (codes "state") 1) (λ x. record x { state = o.state }) update_state (gets_state o) (λ t. refl)
    (rw (c.params-to_sql.ensures, c.params-to_sql-2.ensures, c.in_ok-number.ensures.value, c.value.ensures.value, c.text.ensures) at (c.in_ok-update.ensures.value clean inside))
