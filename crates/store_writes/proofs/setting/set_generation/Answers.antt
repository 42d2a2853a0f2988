use Rattle.std.proofs.Common.{refl, [], ◌∷◌, codes}
use Rattle.sqlite.specs.Held.{state}
use Rattle.store_schema.specs.Named.{equals, set_to}
use Rattle.store_schema.specs.Tables.{components}
use Rattle.store_schema.specs.declared.changing.TheConstants.{UPDATE_GENERATION}
use Rattle.store_schema.proofs.ChangeFacts.{update_generation}
use Rattle.desk_history.specs.Tables.{Tables}
use Rattle.desk_history.specs.Writes.{is_named, written}
use Rattle.desk_history.specs.declared.write.Write.TheVariants as writes
use Rattle.store_schema.specs.rows.Values.{component_values}
use Rattle.store_writes.proofs.ChangeLemmas.{gets_generation, has_name}
use Rattle.store_writes.proofs.StepLemmas.{sets}
use Rattle.store_writes.proofs.setting.set_generation.Goals as goal

pub returns-clause-value : goal.returns-clause-value
returns-clause-value g c clean inside =
    let y = c.args.component.now in
    sets 11 components UPDATE_GENERATION.now (equals components (codes "name") 0 ∷ []) (component_values y) component_values (λ (t : Tables). t.components) (λ t. refl)
    (is_named y.name) (has_name y) (written (writes.Generation y)) (state g.S.Store c.args.tx.now.conn.now) (state g.S.Store c.update.new.tx.conn.now)
    (set_to components (codes "generation") 1) (λ x. record x { generation = y.generation }) update_generation (gets_generation y) (λ t. refl)
    (rw (c.params-to_sql.ensures, c.params-to_sql-2.ensures, c.as_str.ensures.value, c.value.ensures.value) at (c.in_ok-update.ensures.value clean inside))
