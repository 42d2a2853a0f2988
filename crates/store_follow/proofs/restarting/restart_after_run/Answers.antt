use Rattle.std.proofs.Common.{arith, IsTrue}
use Rattle.sqlite.specs.Files.{file_state, over_files}
use Rattle.sqlite.specs.State.{HasCleanDisk}
use Rattle.store_follow.proofs.LivingLemmas.{recovers_runs}
use Rattle.store_follow.proofs.restarting.restart_after_run.Goals as goal

pub returns-in-Ok-open : goal.returns-in-Ok-open
returns-in-Ok-open g c = record {
  keeps = λ clean s before seen formed leads leaves.
      (let conn = c.in-Ok.conn in
      let first : HasCleanDisk (file_state conn) = omega (arith, c.in-Ok-open.ensures.stopped.clean, clean) in
      let live : IsTrue (file_state conn).is_open = (c.in-Ok.ensures.opened first).0.is_open in
      recovers_runs over_files conn c.in-Ok-open.desk first live (c.in-Ok-open.ensures.lives clean) s before seen formed leads (c.files_after_crash-files.ensures.found s leaves conn c.in-Ok.ensures.found));
}
