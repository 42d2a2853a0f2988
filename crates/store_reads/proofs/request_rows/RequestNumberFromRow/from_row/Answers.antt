use Rattle.std.proofs.Common.{◌≡◌, length, rules}
use Rattle.store_reads.proofs.RowLemmas.{whole_row}
use Rattle.store_reads.proofs.request_rows.RequestNumberFromRow.from_row.Goals as goal

pub returns-clause-only : goal.returns-clause-only
returns-clause-only c =
    let count : length c.args.row.now ≡ 1 = search rules in
    whole_row _ c.args.row.now (c.in_ok-number.ensures, count)
