use Rattle.base.proofs.OutputLemmas.{OnErr-fact}
use Rattle.cli_arguments.proofs.AloneLemmas.{whole_kept}
use Rattle.cli_arguments.proofs.alone.say_facts.Goals as goal

pub returns-in_err-flush_all-clause-err : goal.returns-in_err-flush_all-clause-err
returns-in_err-flush_all-clause-err g c =
    OnErr-fact _ _ (whole_kept _ _ _ _ c.in_ok-print_facts.ensures.ok c.flush_all.ensures.kept)
