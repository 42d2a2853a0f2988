use Rattle.std.proofs.Common.{◌∙◌, ap}
use Rattle.base.proofs.OutputLemmas.{OnErr-fact}
use Rattle.cli_output.proofs.LineLemmas.{Appends-same}
use Rattle.cli_commands.specs.Works.{line_of}
use Rattle.cli_commands.proofs.LineLemmas.{whole_kept}
use Rattle.cli_commands.proofs.saying.say_reply.Goals as goal

pub returns-in_err-flush_all-clause-err : goal.returns-in_err-flush_all-clause-err
returns-in_err-flush_all-clause-err g c =
    let text = c.as_bytes.ensures.value ∙ c.in-Ok.ensures in
    let line = Appends-same _ _ _ _ (ap line_of text) c.in_ok-put_each.ensures.ok in
    OnErr-fact _ _ (whole_kept _ _ _ _ line c.flush_all.ensures.kept)
