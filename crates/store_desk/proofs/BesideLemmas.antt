-- A desk can be founded beside a table of notes, told by computing.
use Rattle.std.proofs.Common.{ℕ, ◌+◌, List, [], map, refl, subst, sym, pos}
use Rattle.sqlite.specs.Listing.{understood}
use Rattle.sqlite.specs.Schema.{Schema}
use Rattle.sqlite.specs.Table.{Table}
use Rattle.sqlite_tied.specs.Compute.{everything}
use Rattle.store_sql.specs.Effects.{IsInserted}
use Rattle.store_sql.specs.Meanings.{MakeTables, InsertsIn, InsertsRow}
use Rattle.store_sql.specs.Layouts.{alone}
use Rattle.store_sql.proofs.LayoutLemmas.{is_alone}
use Rattle.store_schema.specs.Columns.{values_of}
use Rattle.store_schema.specs.Tables.{added_tables, defined, desk, first_tables, migrated}
use Rattle.store_schema.specs.declared.creating.TheConstants.{CREATE_ADDED_TABLES, CREATE_TABLES}
use Rattle.store_schema.specs.declared.inserting.TheConstants.{INSERT_DESK, INSERT_MIGRATED}
use Rattle.store_schema.specs.rows.Values.{desk_values, migrated_values}
use Rattle.desk_history.specs.Tables.{tables}
use Rattle.store_writes.specs.Founding.{PutsBoth, own_params, migrated_params}
use Rattle.store_sql.proofs.ValueLemmas.{cast_null, cast_int}
use Rattle.store_desk.specs.Founding.{AllowsDesk, notes_schema, with_all, with_first}

-- the fifteen tables come after it

first : MakeTables notes_schema (map defined first_tables) (map (λ t. t.now) CREATE_TABLES)
unfolding understood everything
first = (record { defined = refl; means = refl; whole = refl; plain = (refl, refl); complete = refl }, (record { defined = refl; means = refl; whole = refl; plain = (refl, refl); complete = refl }, (record { defined = refl; means = refl; whole = refl; plain = (refl, refl); complete = refl }, (record { defined = refl; means = refl; whole = refl; plain = (refl, refl); complete = refl }, (record { defined = refl; means = refl; whole = refl; plain = (refl, refl); complete = refl }, (record { defined = refl; means = refl; whole = refl; plain = (refl, refl); complete = refl }, (record { defined = refl; means = refl; whole = refl; plain = (refl, refl); complete = refl }, (record { defined = refl; means = refl; whole = refl; plain = (refl, refl); complete = refl }, (record { defined = refl; means = refl; whole = refl; plain = (refl, refl); complete = refl }, (record { defined = refl; means = refl; whole = refl; plain = (refl, refl); complete = refl }, (record { defined = refl; means = refl; whole = refl; plain = (refl, refl); complete = refl }, (record { defined = refl; means = refl; whole = refl; plain = (refl, refl); complete = refl }, tt))))))))))))

added : MakeTables (with_first notes_schema) (map defined added_tables) (map (λ t. t.now) CREATE_ADDED_TABLES)
unfolding understood everything
added = (record { defined = refl; means = refl; whole = refl; plain = (refl, refl); complete = refl }, (record { defined = refl; means = refl; whole = refl; plain = (refl, refl); complete = refl }, (record { defined = refl; means = refl; whole = refl; plain = (refl, refl); complete = refl }, tt)))

-- ---- the two rows

abbrev own : Table
own = record desk { tree = desk.tree + 1 }

abbrev noted : Table
noted = record migrated { tree = migrated.tree + 1 }

puts_own : InsertsIn (with_all notes_schema) 1 own INSERT_DESK.now (values_of own)
unfolding understood everything
puts_own = record { stands = record { place = refl; apart = refl; quiet = λ olds news. refl }; uncounted = refl; unstamped = refl; one = refl; means = refl; plain = (refl, refl) }

puts_calls : InsertsIn (with_all notes_schema) 15 noted INSERT_MIGRATED.now (values_of noted)
unfolding understood everything
puts_calls = record { stands = record { place = refl; apart = refl; quiet = λ olds news. refl }; uncounted = refl; unstamped = refl; one = refl; means = refl; plain = (refl, refl) }

in_alone : (s : Schema) (at : ℕ) (table : Table) (text : List ℕ) (terms : List _) → InsertsIn s at table text terms → InsertsRow (alone s) at table text terms
in_alone s at table text terms it schema fits = subst (λ x. InsertsIn x at table text terms) (sym (is_alone s schema fits)) it

desk_in : (owner : List ℕ) → IsInserted own (values_of own) (own_params owner) (desk_values (tables owner []).desk)
desk_in owner rows = rw (cast_null, cast_int (pos 1), cast_int (pos 2), cast_int (pos 2021030218)) refl

migrated_in : IsInserted noted (values_of noted) (migrated_params 0) (migrated_values (record { id = 1; calls = 0 }))
migrated_in rows = rw (cast_null, cast_int (pos 1), cast_int (pos 0)) refl

both : (owner : List ℕ) → PutsBoth (alone (with_all notes_schema)) owner
both owner = record {
  own = record { at = 1; table = own; terms = values_of own; row = desk_values (tables owner []).desk; means = in_alone (with_all notes_schema) 1 own INSERT_DESK.now (values_of own) puts_own; is = desk_in owner };
  calls = record { at = 15; table = noted; terms = values_of noted; row = migrated_values (record { id = 1; calls = 0 }); means = in_alone (with_all notes_schema) 15 noted INSERT_MIGRATED.now (values_of noted) puts_calls; is = migrated_in };
}

pub allowed : (owner : List ℕ) → AllowsDesk notes_schema owner
unfolding both
allowed owner = record { first = first; added = added; puts = both owner; own_at = refl; own_row = refl; calls_at = refl; calls_row = refl }
