use Rattle.std.proofs.Common.{[], ◌≤◌, ◌∙◌, sym, subst, rules}
use Rattle.std.proofs.KnownBytes.{Appends-nil}
use Rattle.std.proofs.lemmas.Result.{err_from_is_err_and}
use Rattle.sqlite.specs.Held.{state}
use Rattle.siglist.specs.Writing.{sha256_entry_bytes, sha256_head_bytes, sha256_parts}
use Rattle.desk_types.specs.declared.kind.ListedKind.TheVariants as kinds
use Rattle.desk_history.specs.Calls.{distinct}
use Rattle.desk_history.specs.Revocations.{revocations}
use Rattle.desk_exports.specs.Exports.{revoked}
use Rattle.store_schema.specs.declared.selecting.TheConstants.{SELECT_REVOKED_DIGESTS}
use Rattle.store_schema.specs.rows.Values.{digest_values}
use Rattle.store_schema.proofs.SelectFacts as facts
use Rattle.store_exports.specs.Exporting.{Exports}
use Rattle.store_reads.specs.declared.counts.Counted.TheVariants as what
use Rattle.base.proofs.OutputLemmas.{AppendsBeginning-none}
use Rattle.store_exports.proofs.CountedLemmas.{head_stopped, whole}
use Rattle.store_exports.proofs.ExportLemmas.{tells_digests}
use Rattle.desk_exports.proofs.OrderLemmas.{length_ascending}
use Rattle.store_exports.proofs.PartLemmas.{sha256-none, sha256-some}
use Rattle.store_exports.proofs.StepLemmas.{of_rows, stopped_read}
use Rattle.store_exports.proofs.dbx.put_digest_list.Goals as goal

-- the list would be too long: nothing of it is written
pub returns-in_err-count : goal.returns-in_err-count
returns-in_err-count g c =
    let old = c.args.conn.now in
    let mid = c.size.new.conn in
    let owner = c.args.owner in
    let had = g.W.Write.contents c.args.writer.now in
    let p = err_from_is_err_and c.from_residual-in_err-count.result c.from_residual-in_err-count.ensures.1 in
    subst (λ r. Exports g.S.Store old mid had had r (λ cs. sha256_parts owner (revoked kinds.Digest cs))) (sym p.1)
    (stopped_read g.S.Store old mid had had p.0 (λ cs. sha256_parts owner (revoked kinds.Digest cs)) c.in_ok-counted.ensures.same c.in_ok-counted.ensures.survives
    (λ clean by cs was. AppendsBeginning-none had had (sha256_parts owner (revoked kinds.Digest cs)) (Appends-nil had)))

pub returns-in_err-sha256_head : goal.returns-in_err-sha256_head
returns-in_err-sha256_head g c =
    let old = c.args.conn.now in
    let mid = c.size.new.conn in
    let owner = c.args.owner in
    let p = err_from_is_err_and c.from_residual-in_err-sha256_head.result c.from_residual-in_err-sha256_head.ensures.1 in
    let more : 1 ≤ c.in_ok-count.count = search rules in
    subst (λ r. Exports g.S.Store old mid (g.W.Write.contents c.args.writer.now) (g.W.Write.contents c.sha256_head.new.writer) r (λ cs. sha256_parts owner (revoked kinds.Digest cs))) (sym p.1)
    (head_stopped g.S.Store sha256_head_bytes (sha256_entry_bytes owner) (sha256_parts owner) (sha256-none owner) (sha256-some owner) what.RevokedDigests (revoked kinds.Digest)
    (λ _ cs. sym (length_ascending (λ t. t) (distinct (revocations kinds.Digest cs)))) old mid c.in_ok-counted.ensures.same c.in_ok-counted.ensures.survives c.in_ok-count.count
    (λ clean by cs was. c.in_ok-count.ensures.0 ∙ c.in_ok-counted.ensures.ok clean by cs was)
    (g.W.Write.contents c.args.writer.now) (g.W.Write.contents c.sha256_head.new.writer) p.0 more c.in_err-sha256_head.ensures.err)

pub returns : goal.returns
returns g c =
    let old = c.args.conn.now in
    let mid = c.size.new.conn in
    let owner = c.args.owner in
    let head = g.W.Write.contents c.sha256_head.new.writer in
    let all = g.W.Write.contents c.put_rows.new.writer in
    let more : 1 ≤ c.in_ok-count.count = search rules in
    whole g.S.Store sha256_head_bytes (sha256_entry_bytes owner) (sha256_parts owner) (sha256-none owner) (sha256-some owner) what.RevokedDigests (revoked kinds.Digest)
    (λ _ cs. sym (length_ascending (λ t. t) (distinct (revocations kinds.Digest cs)))) old mid c.in_ok-counted.ensures.same c.in_ok-counted.ensures.survives c.in_ok-count.count
    (λ clean by cs was. c.in_ok-count.ensures.0 ∙ c.in_ok-counted.ensures.ok clean by cs was)
    c.put_rows.new.conn (g.W.Write.contents c.args.writer.now) head all c.put_rows.result more c.in_ok-sha256_head.ensures.ok
    (of_rows g.S.Store digest_values (sha256_entry_bytes owner) SELECT_REVOKED_DIGESTS.now [] (revoked kinds.Digest) mid c.put_rows.new.conn head all c.put_rows.result
    (λ schema fits. (facts.select_revoked_digests schema fits).plain) (λ clean. tells_digests (state g.S.Store mid) clean owner) c.put_rows.ensures)
