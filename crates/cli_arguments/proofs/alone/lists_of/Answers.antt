use Rattle.std.proofs.Common.{inr, rules}
use Rattle.base.proofs.OutputLemmas.{OnErr-fact}
use Rattle.cli_arguments.proofs.AloneLemmas.{whole_kept}
use Rattle.cli_arguments.proofs.alone.lists_of.Goals as goal

pub returns-in_err-flush_all : goal.returns-in_err-flush_all
returns-in_err-flush_all g c =
    let found = c.in_ok-print_list.ensures.ok in (
      search rules,
      OnErr-fact _ _ (inr (record {
        bytes = c.args.bytes.now;
        row = found.0;
        spelt = found.1;
        written = whole_kept _ _ _ _ found.2 c.flush_all.ensures.kept;
      })),
    )
