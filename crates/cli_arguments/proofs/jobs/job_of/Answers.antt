use Rattle.std.proofs.Common.{ap}
use Rattle.cli_arguments.specs.Lines.{line_of}
use Rattle.cli_arguments.proofs.MeaningLemmas.{means_same}
use Rattle.cli_arguments.proofs.jobs.job_of.Goals as goal

pub returns-in-Init-clause-means : goal.returns-in-Init-clause-means
returns-in-Init-clause-means c = means_same _ _ _ (ap line_of c.in-Init.is) c.init_job.ensures.means

pub returns-in-Person-clause-means : goal.returns-in-Person-clause-means
returns-in-Person-clause-means c = means_same _ _ _ (ap line_of c.in-Person.is) c.add_job.ensures.means

pub returns-in-Enrol-clause-means : goal.returns-in-Enrol-clause-means
returns-in-Enrol-clause-means c = means_same _ _ _ (ap line_of c.in-Enrol.is) c.add_job-in-Enrol.ensures.means

pub returns-in-Follow-clause-means : goal.returns-in-Follow-clause-means
returns-in-Follow-clause-means c = means_same _ _ _ (ap line_of c.in-Follow.is) c.follow_job.ensures.means

pub returns-in-Serve-clause-means : goal.returns-in-Serve-clause-means
returns-in-Serve-clause-means c = means_same _ _ _ (ap line_of c.in-Serve.is) c.serve_job.ensures.means

pub returns-in-Impact-clause-means : goal.returns-in-Impact-clause-means
returns-in-Impact-clause-means c = means_same _ _ _ (ap line_of c.in-Impact.is) c.impact_job.ensures.means

pub returns-in-Audit-clause-means : goal.returns-in-Audit-clause-means
returns-in-Audit-clause-means c = means_same _ _ _ (ap line_of c.in-Audit.is) c.audit_job.ensures.means

pub returns-in-Pack-clause-means : goal.returns-in-Pack-clause-means
returns-in-Pack-clause-means c = means_same _ _ _ (ap line_of c.in-Pack.is) c.pack_job.ensures.means
