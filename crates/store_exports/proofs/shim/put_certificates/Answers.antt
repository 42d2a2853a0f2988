use Rattle.std.proofs.Common.{◌≡◌, ◌++◌, All, ℕ, List, ap, flat_map, sym, subst, ◌∙◌}
use Rattle.std.proofs.lemmas.Result.{err_from_is_err_and}
use Rattle.sqlite.specs.Held.{state}
use Rattle.siglist.specs.SignatureLists.{spelling}
use Rattle.siglist.specs.Writing.{x509_row, x509_sha256_parts}
use Rattle.desk_types.specs.declared.kind.ListedKind.TheVariants as kinds
use Rattle.desk_history.specs.Calls.{History}
use Rattle.desk_history.specs.Formed.{IsItem}
use Rattle.desk_exports.specs.Exports.{revoked, revoked_bodies, revoked_bodiless}
use Rattle.store_exports.specs.Exporting.{ExportsWhere}
use Rattle.store_exports.specs.Gathering.{gathered_text}
use Rattle.store_exports.proofs.WhereLemmas.{begins_none, wanted_where}
use Rattle.store_exports.proofs.WrittenLemmas.{gathered_is}
use Rattle.store_exports.proofs.shim.put_certificates.Goals as goal

abbrev text : List ℕ → History → List ℕ
text owner cs = flat_map (λ body. spelling (x509_row owner body)) (revoked_bodies cs) ++ x509_sha256_parts owner (revoked_bodiless cs)

pub returns-in_err-gathered : goal.returns-in_err-gathered
returns-in_err-gathered g c =
    let old = c.args.conn.now in
    let end = c.gather.new.conn in
    let x = g.W.Write.contents c.args.writer.now in
    let it = c.in_err-gathered.ensures in
    let p = err_from_is_err_and c.from_residual.result c.from_residual.ensures.1 in
    subst (λ r. ExportsWhere (All IsItem) g.S.Store old end x x r (text c.args.owner)) (sym p.1)
    (record { wrote = λ clean. begins_none (All IsItem) (state g.S.Store old) x (text c.args.owner); same = it.same; spares = it.spares; clean = it.clean })

pub returns : goal.returns
returns g c =
    let old = c.args.conn.now in
    let owner = c.args.owner in
    let x = g.W.Write.contents c.args.writer.now in
    let y = g.W.Write.contents c.put_gathered.new.writer in
    let it = c.in_ok-gathered.ensures in
    record {
      wrote = λ clean. wanted_where (All IsItem) (state g.S.Store old) x y c.put_gathered.result (gathered_text owner c.deref.result.now) (text owner)
          (λ by cs all was. ap (gathered_text owner) (c.deref.ensures.value ∙ it.told clean by cs all was) ∙ gathered_is owner cs (revoked kinds.Certificate cs)) c.put_gathered.ensures.ok c.put_gathered.ensures.err;
      same = it.same;
      spares = it.spares;
      clean = it.clean;
    }
