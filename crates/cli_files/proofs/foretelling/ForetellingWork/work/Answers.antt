use Rattle.cli_commands.specs.Faults.{IsForetellingRefusal}
use Rattle.cli_opening.proofs.EndingLemmas.{rows_apart}
use Rattle.cli_files.proofs.ServingLemmas.{foretelling_apart}
use Rattle.cli_files.proofs.WorkLemmas.{silent_of}
use Rattle.cli_files.proofs.foretelling.ForetellingWork.work.Goals as goal

pub returns-clause-did : goal.returns-clause-did
returns-clause-did g c = (
  (c.foretell-work.ensures.same, c.foretell-work.ensures.spares, c.foretell-work.ensures.clean),
  silent_of g.W.Write.contents _ _ c.foretell-work.result c.foretell-work.ensures.unwritten,
  λ clean. (
    c.foretell-work.ensures.ok clean,
    c.foretell-work.ensures.exact clean,
    c.foretell-work.ensures.beginning clean,
    c.foretell-work.ensures.refused clean,
  ),
)

pub returns-clause-left : goal.returns-clause-left
returns-clause-left g c = c.foretell-work.ensures.flushed

pub returns-clause-apart : goal.returns-clause-apart
returns-clause-apart g c = rows_apart IsForetellingRefusal foretelling_apart c.foretell-work.result c.foretell-work.ensures.named
