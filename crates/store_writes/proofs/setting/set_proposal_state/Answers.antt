use Rattle.std.proofs.Common.{refl, [], ◌∷◌, codes, ◌==◌}
use Rattle.sqlite.specs.Held.{state}
use Rattle.store_schema.specs.Named.{equals, set_to}
use Rattle.store_schema.specs.Tables.{proposals}
use Rattle.store_schema.specs.declared.changing.TheConstants.{UPDATE_PROPOSAL_STATE}
use Rattle.store_schema.proofs.ChangeFacts.{update_proposal_state}
use Rattle.desk_history.specs.Tables.{Tables}
use Rattle.desk_history.specs.Writes.{written}
use Rattle.desk_history.specs.declared.write.Write.TheVariants as writes
use Rattle.store_schema.specs.rows.Values.{proposal_values}
use Rattle.store_writes.proofs.ChangeLemmas.{gets_proposal_state, has_proposal_number, proposal_state_params}
use Rattle.store_writes.proofs.ItemLemmas.{state_set}
use Rattle.store_writes.proofs.StepLemmas.{sets}
use Rattle.store_writes.proofs.setting.set_proposal_state.Goals as goal

pub returns-clause-value : goal.returns-clause-value
returns-clause-value g c clean inside =
    let o = c.args.outcome.now in
    sets 12 proposals UPDATE_PROPOSAL_STATE.now (equals proposals (codes "no") 0 ∷ []) (proposal_state_params o) proposal_values (λ (t : Tables). t.proposals) (λ t. refl)
    (λ x. o.proposal == x.number) (has_proposal_number o) (written (writes.ProposalState o)) (state g.S.Store c.args.tx.now.conn.now) (state g.S.Store c.update.new.tx.conn.now)
    (set_to proposals (codes "state") 1) (λ x. record x { state = o.state }) update_proposal_state (gets_proposal_state o) (state_set o)
    (rw (c.params-to_sql.ensures, c.params-to_sql-2.ensures, c.in_ok-number.ensures.value, c.value.ensures.value, c.text.ensures) at (c.in_ok-update.ensures.value clean inside))
