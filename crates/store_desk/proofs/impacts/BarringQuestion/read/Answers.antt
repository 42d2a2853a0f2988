use Rattle.store_desk.proofs.impacts.BarringQuestion.read.Goals as goal

pub returns-in-Ok-clause-value : goal.returns-in-Ok-clause-value
returns-in-Ok-clause-value g c clean inside =
    let it = c.in-Ok.ensures.value clean inside in
    record { same = it.kept; tells = λ owner cs history sees. it.tells owner cs history sees }
