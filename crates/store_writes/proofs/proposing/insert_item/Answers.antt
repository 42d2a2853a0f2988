use Rattle.store_schema.specs.Columns.{values_of}
use Rattle.store_schema.specs.Tables.{desk_layout, proposal_items}
use Rattle.store_schema.proofs.InsertFacts.{insert_proposal_item}
use Rattle.store_writes.specs.Steps.{AddsItem, item_columns}
use Rattle.store_writes.proofs.RowLemmas.{item_in}
use Rattle.store_writes.proofs.proposing.insert_item.Goals as goal

pub returns-clause-value : goal.returns-clause-value
unfolding AddsItem
returns-clause-value g c clean inside =
    let row = item_columns c.args.proposal c.args.place c.args.kind c.args.digest.now c.args.name.now c.args.generation in
    rw (c.params-to_sql.ensures, c.params-to_sql-2.ensures, c.params-to_sql-3.ensures, c.params-to_sql-4.ensures, c.params-to_sql-5.ensures, c.params-to_sql-6.ensures, c.in_ok-proposal.ensures.value, c.in_ok-place.ensures.value, c.value.ensures.value, c.text.ensures) at (c.in_ok-insert.ensures.value clean inside)
    desk_layout 13 proposal_items (values_of proposal_items) row insert_proposal_item (item_in c.args.proposal c.args.place c.args.kind c.args.digest.now c.args.name.now c.args.generation)
