use Rattle.std.proofs.Common.{◌≡◌, ◌∙◌}
use Rattle.sqlite.specs.Held.{state}
use Rattle.desk_rules.specs.Shown.{rows_in}
use Rattle.store_reads.specs.Counting.{counted}
use Rattle.store_reads.proofs.TellsLemmas.{tells_so}
use Rattle.store_decision_rows.proofs.sizing.count_of.Goals as goal

pub returns-clause-value : goal.returns-clause-value
returns-clause-value g c clean inside =
    tells_so (state g.S.Store c.args.tx.now.conn.now) (state g.S.Store c.count.new.tx.conn.now)
    (λ t. c.in_ok-counted.counted ≡ counted c.counted_of.result t) (λ t. c.in_ok-counted.counted ≡ rows_in t c.args.table)
    (λ t is. is ∙ c.counted_of.ensures t) (c.in_ok-counted.ensures.value clean inside)
