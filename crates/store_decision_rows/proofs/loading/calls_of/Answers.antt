use Rattle.std.proofs.Common.{◌≡◌, ◌++◌, filter, find, subst, All}
use Rattle.sqlite.specs.Held.{state}
use Rattle.desk_types.specs.Callers.{caller_name}
use Rattle.desk_history.specs.Formed.{IsReadable}
use Rattle.desk_history.specs.Runs.{has_key}
use Rattle.store_reads.specs.Reads.{ReadsTables, listed}
use Rattle.store_decision_rows.proofs.NamedLemmas.{finds_alone}
use Rattle.store_reads.proofs.TellsLemmas.{tells_so}
use Rattle.store_decision_rows.proofs.loading.calls_of.Goals as goal

pub returns-clause-value : goal.returns-clause-value
returns-clause-value g c clean inside =
    let first = state g.S.Store c.args.tx.now.conn.now in
    let last = state g.S.Store c.earlier_call.new.tx.conn.now in
    let caller = caller_name c.args.caller.now in
    let key = c.args.key.now in
    let found = c.in_ok-earlier.earlier in
    let rows = c.push_some.new.rows.items in
    let is : rows ≡ listed found = subst (λ l. rows ≡ l ++ listed found) c.new-calls.ensures.items c.in_ok-push_some.ensures in
    tells_so first last (λ t. All IsReadable t.calls → filter (has_key caller key) t.calls ≡ listed found)
    (λ t. All IsReadable t.calls → find (has_key caller key) rows ≡ find (has_key caller key) t.calls)
    (λ t read readable. finds_alone (has_key caller key) t.calls rows found is (read readable))
    (subst (λ n. ReadsTables (λ t. All IsReadable t.calls → filter (has_key n key) t.calls ≡ listed found) first last) c.name.ensures (c.in_ok-earlier.ensures.value clean inside))
