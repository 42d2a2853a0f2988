use Rattle.std.proofs.Common.{subst}
use Rattle.sqlite.specs.Held.{Held}
use Rattle.sqlite_store.specs.declared.store.FileStore.{FileStore}
use Rattle.store_desk.specs.Reopening.{FoundAgain}
use Rattle.store_desk.proofs.restarting.stop.Goals as goal

pub returns-clause-found : goal.returns-clause-found
returns-clause-found g c = subst (λ (h : Held (FileStore _ g.D.Disk)). FoundAgain g.D.Disk h c.files_after_crash.result) c.release.ensures c.files_after_crash.ensures.found
