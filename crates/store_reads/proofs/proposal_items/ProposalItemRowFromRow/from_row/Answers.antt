use Rattle.std.proofs.Common.{◌≡◌, length, rules, sym, ◌∙◌}
use Rattle.store_schema.specs.rows.Values.{item_values}
use Rattle.store_reads.proofs.ProposalLemmas.{same_item_row}
use Rattle.store_reads.proofs.RowLemmas.{whole_row}
use Rattle.store_reads.proofs.proposal_items.ProposalItemRowFromRow.from_row.Goals as goal

pub returns-clause-only : goal.returns-clause-only
returns-clause-only c =
    let count : length c.args.row.now ≡ 6 = search rules in
    let it = c.in_ok-item.ensures in
    whole_row _ c.args.row.now (c.in_ok-proposal.ensures, (c.in_ok-place.ensures.value, (it.kind, (it.digest, (it.name, (it.generation, count))))))

pub returns-clause-value : goal.returns-clause-value
returns-clause-value c = λ y is.
    let count : length c.args.row.now ≡ 6 = search rules in
    let it = c.in_ok-item.ensures in
    same_item_row _ y (sym (whole_row (item_values (record { proposal = c.in_ok-proposal.proposal; place = c.in_ok-place.place; item = c.in_ok-item.item })) c.args.row.now
    (c.in_ok-proposal.ensures, (c.in_ok-place.ensures.value, (it.kind, (it.digest, (it.name, (it.generation, count)))))))
    ∙ is)
