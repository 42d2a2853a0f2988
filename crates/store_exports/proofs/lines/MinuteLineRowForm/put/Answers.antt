use Rattle.std.proofs.Common.{sym, subst}
use Rattle.base.specs.Output.{AppendsBeginning}
use Rattle.base.proofs.OutputLemmas.{OnErr-fact}
use Rattle.store_exports.specs.Lines.{Columns, columns_row, line}
use Rattle.store_exports.specs.Rows.{BeginsRow, IsPart}
use Rattle.store_exports.proofs.lines.MinuteLineRowForm.put.Goals as goal

pub returns-in_err-put_line-clause-err : goal.returns-in_err-put_line-clause-err
returns-in_err-put_line-clause-err g c =
    let v = c.in_ok-columns.columns in
    let texts : Columns = record { number = v.number; caller = v.caller.now; key = v.key.now; text = v.text.now; reply = v.reply.now } in
    let x = g.W.Write.contents c.args.writer.now in
    let y = g.W.Write.contents c.put_line.new.writer in
    let begun : BeginsRow (IsPart columns_row line c.args.row.now) x y = λ bytes spelt. subst (AppendsBeginning x y) (sym (spelt texts c.in_ok-columns.ensures)) c.in_err-put_line.ensures.err in
    OnErr-fact _ _ begun
