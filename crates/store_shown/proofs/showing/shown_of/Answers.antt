use Rattle.store_shown.proofs.showing.shown_of.Goals as goal

pub returns-clause-value : goal.returns-clause-value
returns-clause-value g c clean inside =
    let parts = c.in_ok-parts.parts in
    let did = c.in_ok-parts.ensures.value clean inside in
    record { kept = did.kept; tells = λ t sees. record { parts = parts; are = did.tells t sees; made = c.in_ok-shown.ensures } }
