use Rattle.std.proofs.KnownBytes.{Appends-trans}
use Rattle.base.proofs.OutputLemmas.{AppendsBeginning-after, AppendsBeginning-before, OnErr-after, OnErr-fact}
use Rattle.cli_output.proofs.impact_lines.put_barred.Goals as goal

pub returns-in_err-put_front-clause-err : goal.returns-in_err-put_front-clause-err
returns-in_err-put_front-clause-err g c =
    OnErr-fact _ _ (AppendsBeginning-before _ _ _ _ (AppendsBeginning-before _ _ _ _ c.in_err-put_front.ensures.err))

pub returns-in_err-put_rule-clause-err : goal.returns-in_err-put_rule-clause-err
returns-in_err-put_rule-clause-err g c =
    OnErr-fact _ _ (AppendsBeginning-before _ _ _ _ (AppendsBeginning-after _ _ _ _ _ c.in_ok-put_front.ensures.ok c.in_err-put_rule.ensures.err))

pub returns-clause-err : goal.returns-clause-err
returns-clause-err g c =
    let before = Appends-trans _ _ _ _ _ c.in_ok-put_front.ensures.ok c.in_ok-put_rule.ensures.ok in
    OnErr-after c.put_title.result _ _ _ _ _ before c.put_title.ensures.err
