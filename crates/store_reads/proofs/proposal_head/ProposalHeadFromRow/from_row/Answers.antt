use Rattle.std.proofs.Common.{◌≡◌, length, rules}
use Rattle.store_reads.proofs.RowLemmas.{whole_row}
use Rattle.store_reads.proofs.proposal_head.ProposalHeadFromRow.from_row.Goals as goal

pub returns-clause-only : goal.returns-clause-only
returns-clause-only c =
    let count : length c.args.row.now ≡ 6 = search rules in
    whole_row _ c.args.row.now (c.in_ok-number.ensures, (c.in_ok-officer.ensures, (c.in_ok-kind.ensures, (c.in_ok-stamp.ensures.value, (c.in_ok-passed.ensures.value, (c.in_ok-state.ensures, count))))))
