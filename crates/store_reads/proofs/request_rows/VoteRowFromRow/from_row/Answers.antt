use Rattle.std.proofs.Common.{◌≡◌, length, rules}
use Rattle.store_reads.proofs.RowLemmas.{whole_row}
use Rattle.store_reads.proofs.request_rows.VoteRowFromRow.from_row.Goals as goal

pub returns-clause-only : goal.returns-clause-only
returns-clause-only c =
    let count : length c.args.row.now ≡ 4 = search rules in
    whole_row _ c.args.row.now (c.in_ok-request.ensures, (c.in_ok-reviewer.ensures, (c.in_ok-vote.ensures, (c.in_ok-note.ensures, count))))
