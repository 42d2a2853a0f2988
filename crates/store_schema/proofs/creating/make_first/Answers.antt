use Rattle.std.proofs.Common.{map}
use Rattle.std.proofs.lemmas.Result.{on_ok_weaker}
use Rattle.store_schema.specs.Tables.{defined, first_tables, no_schema}
use Rattle.store_schema.proofs.CreateFacts.{create_first}
use Rattle.store_schema.proofs.creating.make_first.Goals as goal

pub returns-clause-value : goal.returns-clause-value
returns-clause-value g c clean inside =
    on_ok_weaker c.create_tables.result (λ makes. makes no_schema (map defined first_tables) create_first) (c.create_tables.ensures.value clean inside)
