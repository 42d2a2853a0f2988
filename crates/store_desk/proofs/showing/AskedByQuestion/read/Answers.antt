use Rattle.std.proofs.Common.{subst}
use Rattle.sqlite.specs.Held.{state}
use Rattle.store_shown.specs.Telling.{ShowsTo}
use Rattle.store_desk.proofs.showing.AskedByQuestion.read.Goals as goal

pub returns-in-Ok-clause-value : goal.returns-in-Ok-clause-value
returns-in-Ok-clause-value g c clean inside =
    let asked = c.args.self.now in
    let s0 = state g.S.Store c.args.tx.now.conn.now in
    let s1 = state g.S.Store c.shown_to.new.tx.conn.now in
    let it = subst (λ kept. ShowsTo g.L.RequestList.holds kept asked.person.now asked.reading c.in-Ok.given s0 s1) c.as_ref.ensures.value (c.in-Ok.ensures.value clean inside) in
    record { same = it.kept; tells = λ owner cs history sees known. it.tells owner cs history sees known owner }
