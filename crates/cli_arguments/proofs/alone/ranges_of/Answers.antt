use Rattle.std.proofs.Common.{inr, rules}
use Rattle.base.proofs.OutputLemmas.{OnErr-fact}
use Rattle.cli_arguments.proofs.AloneLemmas.{whole_kept}
use Rattle.cli_arguments.proofs.alone.ranges_of.Goals as goal

pub returns-in_err-flush_all : goal.returns-in_err-flush_all
returns-in_err-flush_all g c = (
  search rules,
  OnErr-fact _ _ (inr (record {
    image = c.args.image.now;
    written = whole_kept _ _ _ _ c.in_ok-print_ranges.ensures.ok c.flush_all.ensures.kept;
  })),
)
