use Rattle.std.proofs.Common.{◌≡◌, ◌++◌, List, ℕ, sym, subst}
use Rattle.std.proofs.lemmas.Result.{err_from_is_err_and}
use Rattle.siglist.specs.Writing.{sha256_parts, x509_sha256_parts}
use Rattle.desk_types.specs.declared.kind.ListedKind.TheVariants as kinds
use Rattle.desk_history.specs.Calls.{History}
use Rattle.desk_exports.specs.Exports.{dbx, revoked}
use Rattle.desk_exports.proofs.PartLemmas.{dbx-parts}
use Rattle.store_exports.specs.Exporting.{Exports}
use Rattle.store_exports.proofs.StepLemmas.{after_step, same_bytes, stopped}
use Rattle.store_exports.proofs.dbx.put_dbx.Goals as goal

abbrev first : List ℕ → History → List ℕ
first owner cs = sha256_parts owner (revoked kinds.Digest cs)

abbrev second : List ℕ → History → List ℕ
second owner cs = x509_sha256_parts owner (revoked kinds.Certificate cs)

is_dbx : (owner : List ℕ) (cs : History) → first owner cs ++ second owner cs ≡ dbx owner cs
is_dbx owner cs = sym (dbx-parts owner (revoked kinds.Digest cs) (revoked kinds.Certificate cs))

pub returns-in_err-put_digest_list : goal.returns-in_err-put_digest_list
returns-in_err-put_digest_list g c =
    let old = c.args.conn.now in
    let end = c.put_digest_list.new.conn in
    let owner = c.args.owner in
    let x = g.W.Write.contents c.args.writer.now in
    let y = g.W.Write.contents c.put_digest_list.new.writer in
    let p = err_from_is_err_and c.from_residual.result c.from_residual.ensures.1 in
    subst (λ r. Exports g.S.Store old end x y r (dbx owner)) (sym p.1)
    (same_bytes g.S.Store old end x y _ (λ cs. first owner cs ++ second owner cs) (dbx owner) (is_dbx owner)
    (stopped g.S.Store old end x y _ p.0 (first owner) (second owner) c.in_err-put_digest_list.ensures))

pub returns : goal.returns
returns g c =
    let old = c.args.conn.now in
    let half = c.put_digest_list.new.conn in
    let end = c.put_certificate_list.new.conn in
    let owner = c.args.owner in
    let x = g.W.Write.contents c.args.writer.now in
    let y = g.W.Write.contents c.put_digest_list.new.writer in
    let z = g.W.Write.contents c.put_certificate_list.new.writer in
    same_bytes g.S.Store old end x z c.put_certificate_list.result (λ cs. first owner cs ++ second owner cs) (dbx owner) (is_dbx owner)
    (after_step g.S.Store old half end x y z _ c.put_certificate_list.result (first owner) (second owner) c.in_ok-put_digest_list.ensures c.put_certificate_list.ensures)
