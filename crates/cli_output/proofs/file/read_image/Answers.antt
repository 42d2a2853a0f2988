use Rattle.cli_output.proofs.FileLemmas.{start_of}
use Rattle.cli_output.proofs.file.read_image.Goals as goal

pub returns-clause-start : goal.returns-clause-start
returns-clause-start g c =
    (c.in_ok-file.file, start_of _ _ _ c.in_ok-take.field-0 c.in_ok-take.ensures.whole c.in_ok-take.ensures.bound c.in_ok-take.ensures.end)
