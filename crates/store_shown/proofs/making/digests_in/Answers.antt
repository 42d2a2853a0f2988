use Rattle.std.proofs.Common.{[], ◌∷◌, ◌++◌, ◌∙◌, ap, sym}
use Rattle.std.proofs.lemmas.List.{take_all}
use Rattle.desk_history.specs.declared.rows.RequestCertificateRow.{RequestCertificateRow}
use Rattle.store_shown.specs.Steps.{digests_of}
use Rattle.store_shown.proofs.LoopLemmas.{map_more}
use Rattle.store_shown.proofs.making.digests_in.Goals as goal

pub loop-row-preserved : goal.loop-row-preserved
loop-row-preserved c =
    let row = c.row-item.result in
    c.in_ok-push.ensures ∙ ap (λ l. l ++ row.digest ∷ []) c.loop-row.invariant
    ∙ sym (map_more (λ (r : RequestCertificateRow). r.digest) c.args.rows.now c.loop-row.row-index row c.loop-row-test.true c.row-item.is)

pub returns : goal.returns
returns c = c.loop-row.invariant ∙ ap digests_of (take_all c.loop-row.row-index c.args.rows.now c.loop-row-test.false)
