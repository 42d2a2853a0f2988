use Rattle.std.proofs.Common.{◌≡◌, ◌++◌, ℕ, List, map, flat_map, sym, subst}
use Rattle.std.proofs.lemmas.Result.{err_from_is_err_and}
use Rattle.siglist.specs.SignatureLists.{spelling}
use Rattle.siglist.specs.Writing.{sha256_parts, x509_row}
use Rattle.desk_types.specs.declared.kind.ListedKind.TheVariants as kinds
use Rattle.desk_history.specs.Calls.{History}
use Rattle.desk_exports.specs.Exports.{db, entries_of}
use Rattle.desk_exports.proofs.PartLemmas.{db-parts}
use Rattle.store_exports.specs.Exporting.{Exports}
use Rattle.store_exports.proofs.StepLemmas.{after_step, same_bytes, stopped}
use Rattle.store_exports.proofs.db.put_db.Goals as goal

abbrev first : List ℕ → History → List ℕ
first owner cs = sha256_parts owner (map (λ e. e.digest) (entries_of kinds.Digest cs))

abbrev second : List ℕ → History → List ℕ
second owner cs = flat_map (λ e. spelling (x509_row owner e.body)) (entries_of kinds.Certificate cs)

is_db : (owner : List ℕ) (cs : History) → first owner cs ++ second owner cs ≡ db owner cs
is_db owner cs = sym (db-parts owner (map (λ e. e.digest) (entries_of kinds.Digest cs)) (entries_of kinds.Certificate cs))

pub returns-in_err-put_digest_list : goal.returns-in_err-put_digest_list
returns-in_err-put_digest_list g c =
    let old = c.args.conn.now in
    let end = c.put_digest_list.new.conn in
    let owner = c.args.owner in
    let x = g.W.Write.contents c.args.writer.now in
    let y = g.W.Write.contents c.put_digest_list.new.writer in
    let p = err_from_is_err_and c.from_residual.result c.from_residual.ensures.1 in
    subst (λ r. Exports g.S.Store old end x y r (db owner)) (sym p.1)
    (same_bytes g.S.Store old end x y _ (λ cs. first owner cs ++ second owner cs) (db owner) (is_db owner)
    (stopped g.S.Store old end x y _ p.0 (first owner) (second owner) c.in_err-put_digest_list.ensures))

pub returns : goal.returns
returns g c =
    let old = c.args.conn.now in
    let half = c.put_digest_list.new.conn in
    let end = c.put_certificates.new.conn in
    let owner = c.args.owner in
    let x = g.W.Write.contents c.args.writer.now in
    let y = g.W.Write.contents c.put_digest_list.new.writer in
    let z = g.W.Write.contents c.put_certificates.new.writer in
    same_bytes g.S.Store old end x z c.put_certificates.result (λ cs. first owner cs ++ second owner cs) (db owner) (is_db owner)
    (after_step g.S.Store old half end x y z _ c.put_certificates.result (first owner) (second owner) c.in_ok-put_digest_list.ensures c.put_certificates.ensures)
