use Rattle.std.proofs.Common.{◌∙◌, sym}
use Rattle.base.proofs.OutputLemmas.{OnErr-fact}
use Rattle.cli_output.proofs.LineLemmas.{AppendsBeginning-same, Appends-same, list_line_is}
use Rattle.cli_output.proofs.list_lines.put_list.Goals as goal

pub returns-in_err-put_words-in-X509Sha256-clause-err : goal.returns-in_err-put_words-in-X509Sha256-clause-err
returns-in_err-put_words-in-X509Sha256-clause-err g c =
    let line = list_line_is c.args.list.now _ _ _ c.offset-offset.ensures c.count-count.ensures (sym c.in-X509Sha256.is ∙ c.kind.ensures) in
    OnErr-fact _ _ (AppendsBeginning-same _ _ _ _ line c.in_err-put_words-in-X509Sha256.ensures.err)

pub returns-in_ok-put_words-in-X509Sha256-clause-ok : goal.returns-in_ok-put_words-in-X509Sha256-clause-ok
returns-in_ok-put_words-in-X509Sha256-clause-ok g c =
    let line = list_line_is c.args.list.now _ _ _ c.offset-offset.ensures c.count-count.ensures (sym c.in-X509Sha256.is ∙ c.kind.ensures) in
    Appends-same _ _ _ _ line c.in_ok-put_words-in-X509Sha256.ensures.ok
