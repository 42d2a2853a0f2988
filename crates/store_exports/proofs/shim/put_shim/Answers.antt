use Rattle.std.proofs.Common.{◌≡◌, ◌++◌, All, ℕ, List, flat_map, append_assoc, sym, subst, ◌∙◌}
use Rattle.std.proofs.lemmas.Result.{err_from_is_err_and}
use Rattle.siglist.specs.SignatureLists.{spelling}
use Rattle.siglist.specs.Writing.{sha256_parts, x509_row, x509_sha256_parts}
use Rattle.desk_types.specs.declared.kind.ListedKind.TheVariants as kinds
use Rattle.desk_history.specs.Calls.{History}
use Rattle.desk_history.specs.Formed.{IsItem}
use Rattle.desk_exports.specs.Exports.{revoked, revoked_bodies, revoked_bodiless, shim}
use Rattle.desk_exports.proofs.PartLemmas.{shim-parts}
use Rattle.store_exports.specs.Exporting.{ExportsWhere}
use Rattle.store_exports.proofs.WhereLemmas.{after_all, before_all}
use Rattle.store_exports.proofs.shim.put_shim.Goals as goal

abbrev first : List ℕ → History → List ℕ
first owner cs = sha256_parts owner (revoked kinds.Digest cs)

abbrev second : List ℕ → History → List ℕ
second owner cs = flat_map (λ body. spelling (x509_row owner body)) (revoked_bodies cs) ++ x509_sha256_parts owner (revoked_bodiless cs)

is_shim : (owner : List ℕ) (cs : History) → first owner cs ++ second owner cs ≡ shim owner cs
is_shim owner cs =
    sym (shim-parts owner (revoked kinds.Digest cs) (revoked_bodies cs) (revoked_bodiless cs)
    ∙ append_assoc (first owner cs) (flat_map (λ body. spelling (x509_row owner body)) (revoked_bodies cs)) (x509_sha256_parts owner (revoked_bodiless cs)))

pub returns-in_err-put_digest_list : goal.returns-in_err-put_digest_list
returns-in_err-put_digest_list g c =
    let old = c.args.conn.now in
    let end = c.put_digest_list.new.conn in
    let owner = c.args.owner in
    let x = g.W.Write.contents c.args.writer.now in
    let y = g.W.Write.contents c.put_digest_list.new.writer in
    let p = err_from_is_err_and c.from_residual.result c.from_residual.ensures.1 in
    subst (λ r. ExportsWhere (All IsItem) g.S.Store old end x y r (shim owner)) (sym p.1)
    (before_all (All IsItem) g.S.Store old end x y _ p.0 (first owner) (second owner) (shim owner) (is_shim owner) c.in_err-put_digest_list.ensures)

pub returns : goal.returns
returns g c =
    let old = c.args.conn.now in
    let half = c.put_digest_list.new.conn in
    let end = c.put_certificates.new.conn in
    let owner = c.args.owner in
    let x = g.W.Write.contents c.args.writer.now in
    let y = g.W.Write.contents c.put_digest_list.new.writer in
    let z = g.W.Write.contents c.put_certificates.new.writer in
    after_all (All IsItem) g.S.Store old half end x y z _ c.put_certificates.result (first owner) (second owner) (shim owner) (is_shim owner) c.in_ok-put_digest_list.ensures c.put_certificates.ensures
