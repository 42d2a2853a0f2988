use Rattle.std.proofs.Common.{[], flat_map, reverse}
use Rattle.sqlite.specs.Held.{state}
use Rattle.desk_history.specs.Replies.{minutes}
use Rattle.desk_exports.specs.Exports.{minutes_text}
use Rattle.store_schema.specs.declared.selecting.TheConstants.{SELECT_CALLS}
use Rattle.store_schema.proofs.SelectFacts as facts
use Rattle.store_exports.specs.Lines.{columns_row, line}
use Rattle.store_exports.proofs.ListLemmas.{called, lines_of}
use Rattle.store_exports.proofs.ListedLemmas.{tells_calls}
use Rattle.store_exports.proofs.StepLemmas.{of_rows, same_bytes}
use Rattle.store_exports.proofs.lines.put_minutes.Goals as goal

pub returns : goal.returns
returns g c =
    let old = c.args.conn.now in
    let end = c.put_rows.new.conn in
    let x = g.W.Write.contents c.args.writer.now in
    let y = g.W.Write.contents c.put_rows.new.writer in
    same_bytes g.S.Store old end x y c.put_rows.result (λ cs. flat_map line (reverse (called cs))) minutes_text (λ cs. lines_of (minutes cs))
    (of_rows g.S.Store columns_row line SELECT_CALLS.now [] (λ cs. reverse (called cs)) old end x y c.put_rows.result (λ schema fits. (facts.select_calls schema fits).plain) (tells_calls (state g.S.Store old)) c.put_rows.ensures)
