use Rattle.std.proofs.Common.{map}
use Rattle.std.proofs.lemmas.Result.{on_ok_weaker}
use Rattle.store_schema.specs.Tables.{added_tables, defined, first_schema}
use Rattle.store_schema.proofs.CreateFacts.{create_added}
use Rattle.store_schema.proofs.creating.make_added.Goals as goal

pub returns-clause-value : goal.returns-clause-value
returns-clause-value g c clean inside =
    on_ok_weaker c.create_tables.result (λ makes. makes first_schema (map defined added_tables) create_added) (c.create_tables.ensures.value clean inside)
