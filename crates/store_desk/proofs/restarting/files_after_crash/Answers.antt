use Rattle.store_desk.proofs.RestartLemmas.{found_again}
use Rattle.store_desk.proofs.restarting.files_after_crash.Goals as goal

pub returns-clause-found : goal.returns-clause-found
returns-clause-found g c =
    let it = c.into_store.result in
    found_again g.D.Disk c.args.conn it c.into_store.ensures.quiet c.into_store.ensures.numbered c.into_store.ensures.sound c.close.result c.after_stop.result c.close.ensures
    c.after_stop.ensures.left
