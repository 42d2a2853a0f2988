use Rattle.std.proofs.Common.{◌≡◌, [], ◌∷◌, subst, sym}
use Rattle.std.specs.Prelude.{filter}
use Rattle.sqlite.specs.Held.{state}
use Rattle.desk_history.specs.Writes.{is_named}
use Rattle.store_reads.specs.Reads.{ReadsTables}
use Rattle.store_decision_rows.proofs.KeyLemmas.{only_component}
use Rattle.store_reads.proofs.TellsLemmas.{tells_so}
use Rattle.store_decision_rows.proofs.lists.finding.find_component.Goals as goal

pub returns-clause-value : goal.returns-clause-value
returns-clause-value g c clean inside =
    let name = c.args.name.now in
    let old = state g.S.Store c.args.tx.now.conn.now in
    let new = state g.S.Store c.component_named.new.tx.conn.now in
    subst (λ copy. ReadsTables (λ t. filter
    (is_named name) t.components ≡ record { name = copy; generation = c.in-Some.row.generation } ∷ []) old new)
    (sym c.in-Ok.ensures.cases)
    (tells_so old new (λ t. filter (is_named name) t.components ≡ c.in-Some.row ∷ [])
    (λ t. filter (is_named name) t.components ≡ record { name = name; generation = c.in-Some.row.generation } ∷ [])
    (λ t h. only_component name t.components c.in-Some.row h) (rw c.in-Some.is at (c.in_ok-found.ensures.value clean inside)))
