use Rattle.std.proofs.Common.{arith}
use Rattle.sqlite.specs.Held.{state}
use Rattle.sqlite.specs.State.{HasCleanDisk}
use Rattle.store_desk.proofs.FoundingLemmas.{founds}
use Rattle.store_desk.proofs.founding.found.Goals as goal

pub returns-clause-value : goal.returns-clause-value
returns-clause-value g c clean inside =
    let first = state g.S.Store c.args.tx.now.conn.now in
    let mid = state g.S.Store c.create_tables.new.tx.conn.now in
    let late = state g.S.Store c.create_tables-2.new.tx.conn.now in
    let put = c.in_ok-put_desk.ensures in
    let three = c.in_ok-create_tables-2.ensures in
    let clean_late : HasCleanDisk late = omega (arith, put.survives.clean, clean) in
    let clean_mid : HasCleanDisk mid = omega (arith, three.survives.clean, clean_late) in
    let inside_mid = c.in_ok-create_tables.ensures.inside clean_mid inside in
    let inside_late = three.inside clean_late inside_mid in
    founds first mid late (state g.S.Store c.put_desk.new.tx.conn.now) c.args.owner.now (c.in_ok-create_tables.ensures.value clean_mid inside) (three.value clean_late inside_mid)
    (put.value clean inside_late) (put.puts clean inside_late)
