use Rattle.std.proofs.Common.{sym}
use Rattle.sqlite_disk.specs.declared.Files.{Files}
use Rattle.sqlite_wal.specs.Reads.{AreClean}
use Rattle.store_follow.proofs.RestartLemmas.{both_clean, run_found_again}
use Rattle.store_follow.proofs.restarting.files_after_crash.Goals as goal

pub returns-clause-found : goal.returns-clause-found
returns-clause-found g c =
    let given = c.close-files.result in
    let new : Files _ = record { log = c.crash.new.self; db = c.crash-2.new.self } in
    let it = c.into_store.result in
    let honest : AreClean g.D.Disk new.log new.db → AreClean g.D.Disk given.log given.db = both_clean g.D.Disk given new c.crash.ensures.clean c.crash-2.ensures.clean in
    run_found_again g.D.Disk c.args.conn it c.into_store.ensures.quiet c.into_store.ensures.numbered c.into_store.ensures.sound given new (sym c.close-files.ensures) honest
    (c.crash.ensures.left, c.crash-2.ensures.left)
