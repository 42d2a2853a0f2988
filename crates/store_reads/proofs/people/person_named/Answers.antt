use Rattle.std.proofs.Common.{refl, [], ◌∷◌, codes}
use Rattle.sqlite.specs.Held.{state}
use Rattle.sqlite.specs.declared.types.Value.TheVariants.{Text}
use Rattle.store_schema.specs.Columns.{columns_of, names_of}
use Rattle.store_schema.specs.Named.{equals}
use Rattle.store_schema.specs.Tables as tables
use Rattle.store_schema.specs.declared.selecting.TheConstants.{SELECT_PERSON}
use Rattle.store_schema.proofs.SelectFacts as facts
use Rattle.desk_history.specs.People.{has_name}
use Rattle.desk_history.specs.Tables.{Tables}
use Rattle.store_schema.specs.rows.Values as values
use Rattle.store_reads.proofs.FindLemmas.{tells_row}
use Rattle.store_reads.proofs.KeyLemmas.{person_has_name}
use Rattle.store_reads.proofs.people.person_named.Goals as goal

pub returns-clause-value : goal.returns-clause-value
returns-clause-value g c clean inside =
    tells_row 1 tables.people SELECT_PERSON.now (equals tables.people (codes "name") 0 ∷ []) 0 (columns_of tables.people) (names_of tables.people) facts.select_person values.person_values values.person_values (λ (t : Tables). t.people) (λ t. refl)
    (Text c.args.name.now ∷ []) (λ x. refl) (has_name c.args.name.now) (person_has_name c.args.name.now)
    (state g.S.Store c.args.tx.now.conn.now) (state g.S.Store c.row_of.new.tx.conn.now) c.in_ok-person.person
    (rw (c.params-to_sql.ensures) at (c.in_ok-person.ensures.value clean inside))
