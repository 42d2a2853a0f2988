use Rattle.std.proofs.Common.{◌≡◌, arith, rules, subst}
use Rattle.sqlite.specs.Held.{state}
use Rattle.sqlite.specs.Values.{bound}
use Rattle.store_exports.specs.Rows.{WritesAnswer, WritesFirst}
use Rattle.store_exports.specs.declared.taking.RowWriter.{RowWriter}
use Rattle.store_exports.proofs.RowLemmas.{halted, halted_name, taken}
use Rattle.store_exports.proofs.taking.put_rows.Goals as goal

pub returns-in-Ok : goal.returns-in-Ok
returns-in-Ok g c = record {
  wrote = λ clean.
      let it = c.in-Ok.ensures.value clean in
      let all = taken (λ (t : RowWriter _ _). t.writer.ghost_name) (λ (t : RowWriter _ _). t.form.now) (λ (t : RowWriter _ _). g.W.Write.contents t.writer.now) g.F.RowForm.spells it.answer _ c.stream.new.taker it.handed in
      let name = all.0 in
      let end : c.stream.new.taker.writer.now ≡ c.writer-1.given.0 = search (rules, name) in
      let done : WritesAnswer (g.F.RowForm.spells c.args.form.now) c.args.sql.now (bound c.args.params.now) (state g.S.Store c.args.conn.now) (state g.S.Store c.stream.new.conn) (g.W.Write.contents c.args.writer.now) (g.W.Write.contents c.stream.new.taker.writer.now) =
      record { answer = it.answer; bytes = all.2.0; live = c.in-Ok.ensures.opened clean; exact = it.exact; spelt = all.2.1; written = all.2.2 } in
      subst (λ w. WritesAnswer (g.F.RowForm.spells c.args.form.now) c.args.sql.now (bound c.args.params.now) (state g.S.Store c.args.conn.now) (state g.S.Store c.stream.new.conn) (g.W.Write.contents c.args.writer.now) (g.W.Write.contents w)) end done;
  same = c.in-Ok.ensures.same;
  spares = c.in-Ok.ensures.spares;
  clean = λ end. omega (arith, c.in-Ok.ensures.survives.clean, end);
}

pub returns-in-Err-Store : goal.returns-in-Err-Store
returns-in-Err-Store g c = record {
  wrote = λ clean.
      let it = c.in-Err-Store.ensures.begins clean in
      let text = c.args.sql.now in
      let params = bound c.args.params.now in
      let old = state g.S.Store c.args.conn.now in
      let all = halted (λ (t : RowWriter _ _). t.writer.ghost_name) (λ (t : RowWriter _ _). t.form.now) (λ (t : RowWriter _ _). g.W.Write.contents t.writer.now) g.F.RowForm.spells text params old _ c.stream.new.taker it in
      let name = halted_name (λ (t : RowWriter _ _). t.writer.ghost_name) (λ (t : RowWriter _ _). t.form.now) (λ (t : RowWriter _ _). g.W.Write.contents t.writer.now) g.F.RowForm.spells text params old _ c.stream.new.taker it in
      let end : c.stream.new.taker.writer.now ≡ c.writer-1.given.0 = search (rules, name) in
      subst (λ w. WritesFirst (g.F.RowForm.spells c.args.form.now) text params old (g.W.Write.contents c.args.writer.now) (g.W.Write.contents w)) end all;
  same = c.in-Err-Store.ensures.same;
  spares = c.in-Err-Store.ensures.spares;
  clean = λ end. omega (arith, c.in-Err-Store.ensures.survives.clean, end);
}

pub returns-in-Err-Taker : goal.returns-in-Err-Taker
returns-in-Err-Taker g c = record {
  wrote = λ clean.
      let it = c.in-Err-Taker.ensures.begins clean in
      let text = c.args.sql.now in
      let params = bound c.args.params.now in
      let old = state g.S.Store c.args.conn.now in
      let all = halted (λ (t : RowWriter _ _). t.writer.ghost_name) (λ (t : RowWriter _ _). t.form.now) (λ (t : RowWriter _ _). g.W.Write.contents t.writer.now) g.F.RowForm.spells text params old _ c.stream.new.taker it in
      let name = halted_name (λ (t : RowWriter _ _). t.writer.ghost_name) (λ (t : RowWriter _ _). t.form.now) (λ (t : RowWriter _ _). g.W.Write.contents t.writer.now) g.F.RowForm.spells text params old _ c.stream.new.taker it in
      let end : c.stream.new.taker.writer.now ≡ c.writer-1.given.0 = search (rules, name) in
      subst (λ w. WritesFirst (g.F.RowForm.spells c.args.form.now) text params old (g.W.Write.contents c.args.writer.now) (g.W.Write.contents w)) end all;
  same = c.in-Err-Taker.ensures.same;
  spares = c.in-Err-Taker.ensures.spares;
  clean = λ end. omega (arith, c.in-Err-Taker.ensures.survives.clean, end);
}
