use Rattle.std.proofs.Common.{refl, [], true}
use Rattle.sqlite.specs.Held.{state}
use Rattle.store_schema.specs.Columns.{columns_after, names_of}
use Rattle.store_schema.specs.Tables as tables
use Rattle.store_schema.specs.declared.selecting.TheConstants.{SELECT_PEOPLE}
use Rattle.store_schema.proofs.SelectFacts as facts
use Rattle.desk_history.specs.Tables.{Tables}
use Rattle.store_schema.specs.rows.Values as values
use Rattle.store_reads.proofs.FindLemmas.{tells_rows}
use Rattle.store_reads.proofs.people.people_all.Goals as goal

pub returns-clause-value : goal.returns-clause-value
returns-clause-value g c clean inside =
    tells_rows 1 tables.people SELECT_PEOPLE.now [] 1 (columns_after 1 tables.people) (names_of tables.people) facts.select_people values.person_values values.person_values (λ (t : Tables). t.people) (λ t. refl)
    [] (λ x. refl) (λ p. true) (λ x. refl)
    (state g.S.Store c.args.tx.now.conn.now) (state g.S.Store c.rows_of.new.tx.conn.now) c.in_ok-people.people.items
    (c.in_ok-people.ensures.value clean inside)
