use Rattle.std.proofs.Common.{subst}
use Rattle.sqlite.specs.Files.{file_state}
use Rattle.sqlite.specs.Start.{FindsIn}
use Rattle.cli_opening.proofs.UnopenedLemmas.{of_unopened}
use Rattle.cli_opening.proofs.connecting.connect.Goals as goal

-- the opener's files hold what they held at first
pub returns-in-Ok-open_files-clause-found : goal.returns-in-Ok-open_files-clause-found
returns-in-Ok-open_files-clause-found g c = λ clean.
    let found = c.in-Ok-open_files.ensures.found clean in
    subst (λ i. FindsIn i (file_state c.in-Ok-open_files.conn)) c.in-Ok-open.ensures.seen (record { holds = found.holds; reads = found.reads })

pub returns-in-Err-open_files-clause-left : goal.returns-in-Err-open_files-clause-left
returns-in-Err-open_files-clause-left g c = of_unopened _ g.S.Start c.in-Ok-open.files c.in-Ok-open.ensures.seen c.in-Ok-open.ensures.settled c.in-Err-open_files.left c.in-Err-open_files.ensures.unharmed
