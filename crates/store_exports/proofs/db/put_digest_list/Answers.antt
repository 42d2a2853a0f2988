use Rattle.std.proofs.Common.{◌≡◌, ◌≤◌, ◌++◌, ◌∙◌, ℕ, List, [], ◌∷◌, map, filter, flat_map, count_by, length, refl, ap, sym, subst, rules}
use Rattle.std.proofs.lemmas.Result.{err_from_is_err_and}
use Rattle.std.proofs.KnownBytes.{Appends-nil}
use Rattle.sqlite.specs.Held.{state}
use Rattle.sqlite.specs.declared.types.Value.TheVariants.{Text}
use Rattle.base.proofs.OutputLemmas.{AppendsBeginning-none}
use Rattle.siglist.specs.Writing.{sha256_entry_bytes, sha256_head_bytes, sha256_parts}
use Rattle.desk_types.specs.Words.{kind_text}
use Rattle.desk_types.specs.declared.kind.ListedKind.TheVariants as kinds
use Rattle.std.proofs.lemmas.List.{length-map}
use Rattle.std.proofs.lemmas.List.Sums.{length-filter}
use Rattle.desk_history.specs.declared.rows.Entry.{Entry}
use Rattle.desk_history.specs.Calls.{History, is_same_kind}
use Rattle.desk_history.specs.Listing.{listed}
use Rattle.desk_exports.specs.Exports.{entries_of}
use Rattle.store_schema.specs.declared.selecting.TheConstants.{SELECT_LISTED_OF}
use Rattle.store_schema.specs.rows.Values.{entry_values}
use Rattle.store_schema.proofs.SelectFacts as facts
use Rattle.store_exports.specs.Exporting.{Exports}
use Rattle.store_reads.specs.declared.counts.Counted.TheVariants as what
use Rattle.store_exports.proofs.CountedLemmas.{empty, head_stopped, whole}
use Rattle.store_exports.proofs.ListedLemmas.{tells_listed_digests}
use Rattle.store_exports.proofs.StepLemmas.{of_rows, same_bytes, stopped_read}
use Rattle.desk_exports.proofs.OrderLemmas.{length_ascending}
use Rattle.store_exports.proofs.PartLemmas.{sha256-none, sha256-some}
use Rattle.store_exports.proofs.db.put_digest_list.Goals as goal

sized : (cs : History) → count_by (λ e. is_same_kind kinds.Digest e.kind) (listed cs) ≡ length (map (λ e. e.digest) (entries_of kinds.Digest cs))
sized cs = sym (length-filter (λ (e : Entry). is_same_kind kinds.Digest e.kind) (listed cs)) ∙ sym (length-map (entries_of kinds.Digest cs) (λ e. e.digest) ∙ length_ascending (λ (e : Entry). e.digest) (filter (λ e. is_same_kind kinds.Digest e.kind) (listed cs)))

by_digest : (owner : List ℕ) (es : List Entry) → flat_map (λ e. sha256_entry_bytes owner e.digest) es ≡ flat_map (sha256_entry_bytes owner) (map (λ e. e.digest) es)
by_digest owner [] = refl
by_digest owner (e ∷ es) = ap (λ l. sha256_entry_bytes owner e.digest ++ l) (by_digest owner es)

pub returns-then-counted-eq0 : goal.returns-then-counted-eq0
returns-then-counted-eq0 g c =
    let owner = c.args.owner in
    let zero : c.in_ok-counted.counted ≡ 0 = search rules in
    empty g.S.Store sha256_head_bytes (sha256_entry_bytes owner) (sha256_parts owner) (sha256-none owner) (sha256-some owner) (what.ListedOf kinds.Digest) (λ cs. map (λ e. e.digest) (entries_of kinds.Digest cs))
    (λ _ cs. sized cs) c.args.conn.now c.size.new.conn c.in_ok-counted.ensures.same c.in_ok-counted.ensures.survives c.in_ok-counted.counted c.in_ok-counted.ensures.ok
    (g.W.Write.contents c.args.writer.now) _ zero

-- the list would be too long: nothing of it is written
pub returns-in_err-count : goal.returns-in_err-count
returns-in_err-count g c =
    let old = c.args.conn.now in
    let mid = c.size.new.conn in
    let had = g.W.Write.contents c.args.writer.now in
    let bytes = λ (cs : History). sha256_parts c.args.owner (map (λ (e : Entry). e.digest) (entries_of kinds.Digest cs)) in
    let p = err_from_is_err_and c.from_residual-in_err-count.result c.from_residual-in_err-count.ensures.1 in
    subst (λ r. Exports g.S.Store old mid had had r bytes) (sym p.1)
    (stopped_read g.S.Store old mid had had p.0 bytes c.in_ok-counted.ensures.same c.in_ok-counted.ensures.survives (λ clean by cs was. AppendsBeginning-none had had (bytes cs) (Appends-nil had)))

pub returns-in_err-sha256_head : goal.returns-in_err-sha256_head
returns-in_err-sha256_head g c =
    let old = c.args.conn.now in
    let mid = c.size.new.conn in
    let owner = c.args.owner in
    let p = err_from_is_err_and c.from_residual-in_err-sha256_head.result c.from_residual-in_err-sha256_head.ensures.1 in
    let more : 1 ≤ c.in_ok-count.count = search rules in
    subst (λ r. Exports g.S.Store old mid (g.W.Write.contents c.args.writer.now) (g.W.Write.contents c.sha256_head.new.writer) r (λ cs. sha256_parts owner (map (λ e. e.digest) (entries_of kinds.Digest cs)))) (sym p.1)
    (head_stopped g.S.Store sha256_head_bytes (sha256_entry_bytes owner) (sha256_parts owner) (sha256-none owner) (sha256-some owner) (what.ListedOf kinds.Digest) (λ cs. map (λ e. e.digest) (entries_of kinds.Digest cs))
    (λ _ cs. sized cs) old mid c.in_ok-counted.ensures.same c.in_ok-counted.ensures.survives c.in_ok-count.count
    (λ clean by cs was. c.in_ok-count.ensures.0 ∙ c.in_ok-counted.ensures.ok clean by cs was)
    (g.W.Write.contents c.args.writer.now) (g.W.Write.contents c.sha256_head.new.writer) p.0 more c.in_err-sha256_head.ensures.err)

pub returns : goal.returns
returns g c =
    let old = c.args.conn.now in
    let mid = c.size.new.conn in
    let owner = c.args.owner in
    let head = g.W.Write.contents c.sha256_head.new.writer in
    let all = g.W.Write.contents c.put_rows.new.writer in
    let more : 1 ≤ c.in_ok-count.count = search rules in
    whole g.S.Store sha256_head_bytes (sha256_entry_bytes owner) (sha256_parts owner) (sha256-none owner) (sha256-some owner) (what.ListedOf kinds.Digest) (λ cs. map (λ e. e.digest) (entries_of kinds.Digest cs))
    (λ _ cs. sized cs) old mid c.in_ok-counted.ensures.same c.in_ok-counted.ensures.survives c.in_ok-count.count
    (λ clean by cs was. c.in_ok-count.ensures.0 ∙ c.in_ok-counted.ensures.ok clean by cs was)
    c.put_rows.new.conn (g.W.Write.contents c.args.writer.now) head all c.put_rows.result more c.in_ok-sha256_head.ensures.ok
    (same_bytes g.S.Store mid c.put_rows.new.conn head all c.put_rows.result
    (λ cs. flat_map (λ e. sha256_entry_bytes owner e.digest) (entries_of kinds.Digest cs)) (λ cs. flat_map (sha256_entry_bytes owner) (map (λ e. e.digest) (entries_of kinds.Digest cs)))
    (λ cs. by_digest owner (entries_of kinds.Digest cs))
    (of_rows g.S.Store entry_values (λ e. sha256_entry_bytes owner e.digest) SELECT_LISTED_OF.now (Text (kind_text kinds.Digest) ∷ []) (entries_of kinds.Digest) mid c.put_rows.new.conn head all c.put_rows.result
    (λ schema fits. (facts.select_listed_of schema fits).plain) (λ clean. tells_listed_digests (state g.S.Store mid) clean owner) (rw (c.params-to_sql.ensures, c.text-kind.ensures) at c.put_rows.ensures)))
