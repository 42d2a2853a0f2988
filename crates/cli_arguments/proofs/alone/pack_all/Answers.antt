use Rattle.std.proofs.Common.{inr, rules}
use Rattle.base.proofs.OutputLemmas.{OnErr-fact}
use Rattle.cli_arguments.proofs.AloneLemmas.{packed_kept}
use Rattle.cli_arguments.proofs.alone.pack_all.Goals as goal

pub returns-in_err-flush_all : goal.returns-in_err-flush_all
returns-in_err-flush_all g c =
    (search rules, OnErr-fact _ _ (inr (packed_kept _ _ _ _ _ _ c.in_ok-pack.ensures.ok c.flush_all.ensures.kept)))
