-- The number of calls that were accepted by the first rules, set in the table that holds it.
use Rattle.std.proofs.Common.{◌≡◌, ℕ, pos, [], ◌∷◌, codes, refl}
use Rattle.sqlite.specs.Listing.{understood}
use Rattle.sqlite.specs.declared.types.Value.TheVariants.{Int}
use Rattle.sqlite_tied.specs.Compute.{everything}
use Rattle.store_sql.specs.Contents.{seen, whole}
use Rattle.store_sql.specs.Meanings.{UpdatesRows}
use Rattle.store_sql.specs.Queries.{rewritten}
use Rattle.store_sql.proofs.BesideLemmas.{beside_any}
use Rattle.store_sql.proofs.ValueLemmas.{cast_int, cast_null}
use Rattle.store_schema.proofs.StandingFacts.{stands}
use Rattle.store_schema.specs.Named.{set_to}
use Rattle.store_schema.specs.Tables.{desk_layout, migrated}
use Rattle.store_schema.specs.rows.Values.{migrated_values}
use Rattle.desk_history.specs.Tables.{MigratedRow}
use Rattle.store_first_rules.specs.Steps.{set_calls}
use Rattle.store_first_rules.specs.declared.writing.TheConstants.{UPDATE_MIGRATED}

-- what the text means, told by computing
pub update_migrated : UpdatesRows desk_layout 14 migrated UPDATE_MIGRATED.now [] (set_to migrated (codes "calls") 0)
unfolding understood everything
update_migrated = beside_any desk_layout _ (λ others refer. record { stands = stands others refer 14 migrated refl refl; means = refl; plain = (refl, refl); overlooks = λ _. tt; passes_over = λ _. tt })

-- what it makes of a row
pub gets_calls : (calls : ℕ) (x : MigratedRow)
    → seen migrated (rewritten migrated (set_to migrated (codes "calls") 0) (Int (pos calls) ∷ []) (whole migrated (migrated_values x))) ≡ migrated_values (set_calls calls x)
gets_calls calls x = rw (cast_null, cast_int (pos x.id), cast_int (pos calls)) refl
