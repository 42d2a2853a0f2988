use Rattle.std.proofs.Common.{[], ◌≤◌, ◌∙◌, sym, subst, rules}
use Rattle.std.proofs.lemmas.Result.{err_from_is_err_and}
use Rattle.sqlite.specs.Held.{state}
use Rattle.siglist.specs.Writing.{x509_sha256_entry_bytes, x509_sha256_head_bytes, x509_sha256_parts}
use Rattle.desk_types.specs.declared.kind.ListedKind.TheVariants as kinds
use Rattle.desk_history.specs.Calls.{distinct}
use Rattle.desk_history.specs.Revocations.{revocations}
use Rattle.desk_exports.specs.Exports.{revoked}
use Rattle.store_schema.specs.declared.selecting.TheConstants.{SELECT_REVOKED_CERTIFICATES}
use Rattle.store_schema.specs.rows.Values.{digest_values}
use Rattle.store_schema.proofs.SelectFacts as facts
use Rattle.store_exports.specs.Exporting.{Exports}
use Rattle.store_reads.specs.declared.counts.Counted.TheVariants as what
use Rattle.store_exports.proofs.CountedLemmas.{head_stopped, whole}
use Rattle.store_exports.proofs.ExportLemmas.{tells_certificates}
use Rattle.store_exports.proofs.StepLemmas.{of_rows}
use Rattle.desk_exports.proofs.OrderLemmas.{length_ascending}
use Rattle.store_exports.proofs.PartLemmas.{x509-none, x509-some}
use Rattle.store_exports.proofs.dbx.put_certificate_list.Goals as goal

pub returns-in_err-x509_sha256_head : goal.returns-in_err-x509_sha256_head
returns-in_err-x509_sha256_head g c =
    let old = c.args.conn.now in
    let mid = c.size.new.conn in
    let owner = c.args.owner in
    let p = err_from_is_err_and c.from_residual-in_err-x509_sha256_head.result c.from_residual-in_err-x509_sha256_head.ensures.1 in
    let more : 1 ≤ c.in_ok-count.count = search rules in
    subst (λ r. Exports g.S.Store old mid (g.W.Write.contents c.args.writer.now) (g.W.Write.contents c.x509_sha256_head.new.writer) r (λ cs. x509_sha256_parts owner (revoked kinds.Certificate cs))) (sym p.1)
    (head_stopped g.S.Store x509_sha256_head_bytes (x509_sha256_entry_bytes owner) (x509_sha256_parts owner) (x509-none owner) (x509-some owner) what.RevokedCertificates (revoked kinds.Certificate)
    (λ _ cs. sym (length_ascending (λ t. t) (distinct (revocations kinds.Certificate cs)))) old mid c.in_ok-counted.ensures.same c.in_ok-counted.ensures.survives c.in_ok-count.count
    (λ clean by cs was. c.in_ok-count.ensures.0 ∙ c.in_ok-counted.ensures.ok clean by cs was)
    (g.W.Write.contents c.args.writer.now) (g.W.Write.contents c.x509_sha256_head.new.writer) p.0 more c.in_err-x509_sha256_head.ensures.err)

pub returns : goal.returns
returns g c =
    let old = c.args.conn.now in
    let mid = c.size.new.conn in
    let owner = c.args.owner in
    let head = g.W.Write.contents c.x509_sha256_head.new.writer in
    let all = g.W.Write.contents c.put_rows.new.writer in
    let more : 1 ≤ c.in_ok-count.count = search rules in
    whole g.S.Store x509_sha256_head_bytes (x509_sha256_entry_bytes owner) (x509_sha256_parts owner) (x509-none owner) (x509-some owner) what.RevokedCertificates (revoked kinds.Certificate)
    (λ _ cs. sym (length_ascending (λ t. t) (distinct (revocations kinds.Certificate cs)))) old mid c.in_ok-counted.ensures.same c.in_ok-counted.ensures.survives c.in_ok-count.count
    (λ clean by cs was. c.in_ok-count.ensures.0 ∙ c.in_ok-counted.ensures.ok clean by cs was)
    c.put_rows.new.conn (g.W.Write.contents c.args.writer.now) head all c.put_rows.result more c.in_ok-x509_sha256_head.ensures.ok
    (of_rows g.S.Store digest_values (x509_sha256_entry_bytes owner) SELECT_REVOKED_CERTIFICATES.now [] (revoked kinds.Certificate) mid c.put_rows.new.conn head all c.put_rows.result
    (λ schema fits. (facts.select_revoked_certificates schema fits).plain) (λ clean. tells_certificates (state g.S.Store mid) clean owner) c.put_rows.ensures)
