-- The meaning of a line that is spelled out.
use Rattle.std.proofs.Common.{◌≡◌, Result, IfOk, sym, subst}
use Rattle.cli_arguments.specs.Lines.{Line}
use Rattle.cli_arguments.specs.Meanings.{Means, meaning_of}
use Rattle.cli_arguments.specs.declared.jobs.Job.{Job}
use Rattle.cli_arguments.specs.declared.values.stop.Stop.{Stop}

-- a job that equal words mean
pub means_same : (read : Result Job Stop) (line spelled : Line) → line ≡ spelled → IfOk read (λ job. Means spelled (meaning_of job))
    → IfOk read (λ job. Means line (meaning_of job))
means_same read line spelled same means = subst (λ (l : Line). IfOk read (λ job. Means l (meaning_of job))) (sym same) means
