use Rattle.std.proofs.Common.{refl, [], ◌∷◌, codes, map, pos, true}
use Rattle.sqlite.specs.Held.{state}
use Rattle.sqlite.specs.declared.types.Value.TheVariants.{Int}
use Rattle.store_schema.specs.Named.{set_to}
use Rattle.store_schema.specs.Tables.{desk_layout, migrated}
use Rattle.store_schema.specs.rows.Contents.{contents}
use Rattle.store_schema.specs.rows.Values.{migrated_values}
use Rattle.store_sql.specs.Contents.{change_at}
use Rattle.store_sql.specs.Effects.{updated}
use Rattle.store_sql.proofs.ItemLemmas.{replaces, turns}
use Rattle.desk_history.specs.Tables.{Tables}
use Rattle.store_first_rules.specs.Steps.{set_calls, with_first_calls}
use Rattle.store_first_rules.proofs.MigratedLemmas.{gets_calls, update_migrated}
use Rattle.store_first_rules.proofs.writing.set_first_calls.Goals as goal

pub returns-clause-value : goal.returns-clause-value
returns-clause-value g c clean inside =
    let n = c.args.calls in
    let rest = set_to migrated (codes "calls") 0 in
    let params = Int (pos n) ∷ [] in
    turns desk_layout contents (λ (t : Tables). contents (with_first_calls n t)) (change_at 14 (map (updated migrated [] rest params)))
    (state g.S.Store c.args.tx.now.conn.now) (state g.S.Store c.update.new.tx.conn.now)
    ((rw (c.params-to_sql.ensures, c.in_ok-number.ensures) at (c.in_ok-update.ensures.value clean inside)) desk_layout 14 migrated [] rest update_migrated)
    (λ t. replaces migrated [] params migrated_values (λ _. true) (λ x. refl) rest (set_calls n) (gets_calls n) 14 (contents t) t.migrated refl)
