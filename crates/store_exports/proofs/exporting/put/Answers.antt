use Rattle.std.proofs.Common.{sym, subst}
use Rattle.desk_exports.specs.declared.export.Export.TheVariants as exports
use Rattle.store_exports.specs.Exporting.{ExportsWhere, Suits, exported_with}
use Rattle.store_exports.proofs.WhereLemmas.{anyway}
use Rattle.store_exports.proofs.exporting.put.Goals as goal

pub returns-in-Db : goal.returns-in-Db
returns-in-Db g c =
    let x = g.W.Write.contents c.args.writer.now in
    let y = g.W.Write.contents c.put_db.new.writer in
    subst (λ what. ExportsWhere (Suits what) g.S.Store c.args.conn.now c.put_db.new.conn x y c.put_db.result (exported_with what c.args.owner c.args.stamp)) (sym c.in-Db.is)
    (anyway (Suits exports.Db) g.S.Store c.args.conn.now c.put_db.new.conn x y c.put_db.result _ c.put_db.ensures)

pub returns-in-Dbx : goal.returns-in-Dbx
returns-in-Dbx g c =
    let x = g.W.Write.contents c.args.writer.now in
    let y = g.W.Write.contents c.put_dbx.new.writer in
    subst (λ what. ExportsWhere (Suits what) g.S.Store c.args.conn.now c.put_dbx.new.conn x y c.put_dbx.result (exported_with what c.args.owner c.args.stamp)) (sym c.in-Dbx.is)
    (anyway (Suits exports.Dbx) g.S.Store c.args.conn.now c.put_dbx.new.conn x y c.put_dbx.result _ c.put_dbx.ensures)

pub returns-in-Level : goal.returns-in-Level
returns-in-Level g c =
    let x = g.W.Write.contents c.args.writer.now in
    let y = g.W.Write.contents c.put_level.new.writer in
    subst (λ what. ExportsWhere (Suits what) g.S.Store c.args.conn.now c.put_level.new.conn x y c.put_level.result (exported_with what c.args.owner c.args.stamp)) (sym c.in-Level.is)
    (anyway (Suits exports.Level) g.S.Store c.args.conn.now c.put_level.new.conn x y c.put_level.result _ c.put_level.ensures)

pub returns-in-Minutes : goal.returns-in-Minutes
returns-in-Minutes g c =
    let x = g.W.Write.contents c.args.writer.now in
    let y = g.W.Write.contents c.put_minutes.new.writer in
    subst (λ what. ExportsWhere (Suits what) g.S.Store c.args.conn.now c.put_minutes.new.conn x y c.put_minutes.result (exported_with what c.args.owner c.args.stamp)) (sym c.in-Minutes.is)
    (anyway (Suits exports.Minutes) g.S.Store c.args.conn.now c.put_minutes.new.conn x y c.put_minutes.result _ c.put_minutes.ensures)
