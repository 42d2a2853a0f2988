use Rattle.std.proofs.Common.{refl, [], ◌∷◌, codes}
use Rattle.sqlite.specs.Held.{state}
use Rattle.sqlite.specs.declared.types.Value.TheVariants.{Blob}
use Rattle.store_schema.specs.Columns.{columns_of, names_of}
use Rattle.store_schema.specs.Named.{equals}
use Rattle.store_schema.specs.Tables as tables
use Rattle.store_schema.specs.declared.selecting.TheConstants.{SELECT_PERSON_OF_TOKEN}
use Rattle.store_schema.proofs.SelectFacts as facts
use Rattle.desk_history.specs.People.{has_token}
use Rattle.desk_history.specs.Tables.{Tables}
use Rattle.store_schema.specs.rows.Values as values
use Rattle.store_reads.proofs.FindLemmas.{tells_row}
use Rattle.store_reads.proofs.KeyLemmas.{person_has_token}
use Rattle.store_reads.proofs.people.person_of_token.Goals as goal

pub returns-clause-value : goal.returns-clause-value
returns-clause-value g c clean inside =
    tells_row 1 tables.people SELECT_PERSON_OF_TOKEN.now (equals tables.people (codes "token") 0 ∷ []) 0 (columns_of tables.people) (names_of tables.people) facts.select_person_of_token values.person_values values.person_values (λ (t : Tables). t.people) (λ t. refl)
    (Blob c.args.token.now ∷ []) (λ x. refl) (has_token c.args.token.now) (person_has_token c.args.token.now)
    (state g.S.Store c.args.tx.now.conn.now) (state g.S.Store c.row_of.new.tx.conn.now) c.in_ok-person.person
    (rw (c.params-to_sql.ensures, c.as_bytes.ensures.value) at (c.in_ok-person.ensures.value clean inside))
