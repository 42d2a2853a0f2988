use Rattle.std.proofs.Common.{sym, subst}
use Rattle.base.specs.Output.{AppendsBeginning}
use Rattle.base.proofs.OutputLemmas.{AppendsBeginning-before, OnErr-fact}
use Rattle.siglist.proofs.WritingLemmas.{one_row-err, one_row-ok, one_text}
use Rattle.siglist.proofs.writing.put_one.Goals as goal

pub returns-in_err-put_head-clause-err : goal.returns-in_err-put_head-clause-err
returns-in_err-put_head-clause-err g c =
    let whole = one_text c.args.kind.now c.args.owner.now c.args.body.now in
    OnErr-fact _ _ (subst (AppendsBeginning _ _) (sym whole) (AppendsBeginning-before _ _ _ _ c.in_err-put_head.ensures.err))

pub returns-clause-ok : goal.returns-clause-ok
returns-clause-ok g c =
    one_row-ok _ _ _ _ c.args.kind.now c.args.owner.now c.args.body.now c.in_ok-put_head.ensures.ok c.put_entry.ensures.ok

pub returns-clause-err : goal.returns-clause-err
returns-clause-err g c =
    one_row-err _ _ _ _ c.args.kind.now c.args.owner.now c.args.body.now c.in_ok-put_head.ensures.ok c.put_entry.ensures.err
