use Rattle.std.proofs.Common.{All}
use Rattle.sqlite.specs.Held.{state}
use Rattle.store_reads.proofs.TellsLemmas.{tells_so}
use Rattle.store_shown.specs.Searching.{MarksAll, MarksColumn}
use Rattle.store_shown.proofs.SearchLemmas.{all_columns, each_column}
use Rattle.store_shown.proofs.searching.marks_for.Goals as goal

pub returns-clause-value : goal.returns-clause-value
returns-clause-value g c clean inside =
    let d = c.args.digest.now in
    let marks = c.mark_each.new.marks.items in
    tells_so (state g.S.Store c.args.tx.now.conn.now) (state g.S.Store c.mark_each.new.tx.conn.now) (λ t. All (MarksColumn d marks t) all_columns) (λ t. MarksAll d marks t)
    (λ t all. each_column d marks t all) (c.in_ok-mark_each.ensures.value clean inside)
