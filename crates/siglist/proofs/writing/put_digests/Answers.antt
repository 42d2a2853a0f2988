use Rattle.std.proofs.Common.{◌≡◌, ◌++◌, take, append-nil, sym, ap, ◌∙◌, subst, arith}
use Rattle.std.specs.Io.KnownBytes.{Appends}
use Rattle.std.proofs.KnownBytes.{Appends-trans}
use Rattle.std.proofs.lemmas.List.{take_all}
use Rattle.base.specs.Output.{AppendsBeginning}
use Rattle.base.proofs.OutputLemmas.{AppendsBeginning-after, AppendsBeginning-before, OnErr-fact}
use Rattle.siglist.proofs.WritingLemmas.{digest_head, digest_text, entries_text, head_more, row_round}
use Rattle.siglist.proofs.writing.put_digests.Goals as goal

pub returns-in_err-put_head-clause-err : goal.returns-in_err-put_head-clause-err
returns-in_err-put_head-clause-err g c =
    let whole = digest_text c.args.kind.now c.args.owner.now c.args.after.now c.args.digests.now c.requires.some in
    OnErr-fact _ _ (subst (AppendsBeginning _ _) (sym whole) (AppendsBeginning-before _ _ _ _ c.in_err-put_head.ensures.err))

pub loop-digest-init : goal.loop-digest-init
loop-digest-init g c = subst (Appends _ _) (sym (append-nil _)) c.in_ok-put_head.ensures.ok

pub returns-in_err-put_entry-clause-err : goal.returns-in_err-put_entry-clause-err
returns-in_err-put_entry-clause-err g c =
    let whole = row_round c.args.kind.now c.args.owner.now c.args.after.now c.args.digests.now c.loop-digest.digest-index c.digest-item.result (omega arith) c.digest-item.is in
    let upto = AppendsBeginning-after _ _ _ _ _ c.loop-digest.invariant (rw c.as_bytes.ensures.value at c.in_err-put_entry.ensures.err) in
    OnErr-fact _ _ (subst (AppendsBeginning _ _) (sym whole) (AppendsBeginning-before _ _ _ _ (AppendsBeginning-before _ _ _ _ upto)))

pub returns-in_err-put-clause-err : goal.returns-in_err-put-clause-err
returns-in_err-put-clause-err g c =
    let whole = row_round c.args.kind.now c.args.owner.now c.args.after.now c.args.digests.now c.loop-digest.digest-index c.digest-item.result (omega arith) c.digest-item.is in
    let entry = Appends-trans _ _ _ _ _ c.loop-digest.invariant (rw c.as_bytes.ensures.value at c.in_ok-put_entry.ensures.ok) in
    let upto = AppendsBeginning-after _ _ _ _ _ entry c.in_err-put.ensures.err in
    OnErr-fact _ _ (subst (AppendsBeginning _ _) (sym whole) (AppendsBeginning-before _ _ _ _ upto))

pub loop-digest-preserved : goal.loop-digest-preserved
loop-digest-preserved g c =
    let more = head_more c.args.kind.now c.args.owner.now c.args.after.now c.args.digests.now c.loop-digest.digest-index c.digest-item.result (omega arith) c.digest-item.is in
    let entry = Appends-trans _ _ _ _ _ c.loop-digest.invariant (rw c.as_bytes.ensures.value at c.in_ok-put_entry.ensures.ok) in
    subst (Appends _ _) (sym more) (Appends-trans _ _ _ _ _ entry c.in_ok-put.ensures.ok)

pub returns-clause-ok : goal.returns-clause-ok
returns-clause-ok g c =
    let kind = c.args.kind.now in
    let owner = c.args.owner.now in
    let after = c.args.after.now in
    let ds = c.args.digests.now in
    let i = c.loop-digest.digest-index in
    let all : take i ds ≡ ds = take_all i ds (omega arith) in
    let whole = digest_text kind owner after ds c.requires.some in
    subst (Appends _ _) (ap (λ l. digest_head kind after ds ++ entries_text owner after l) all ∙ sym whole) c.loop-digest.invariant
