use Rattle.std.proofs.Common.{rules, ◌≡◌, ◌++◌, filter, sym, subst, Some}
use Rattle.sqlite.specs.Held.{state}
use Rattle.store_reads.specs.Reads.{ReadsTables, listed}
use Rattle.desk_types.specs.Naming.{request_named}
use Rattle.desk_rules.specs.Shown.{is_request_row}
use Rattle.store_decision_rows.specs.Steps.{ShowsRequest}
use Rattle.store_decision_rows.proofs.NamedLemmas.{one_request}
use Rattle.store_reads.proofs.TellsLemmas.{tells_so}
use Rattle.store_decision_rows.proofs.loading.requests_of.Goals as goal

pub returns-clause-value : goal.returns-clause-value
returns-clause-value g c clean inside =
    let first = state g.S.Store c.args.tx.now.conn.now in
    let last = state g.S.Store c.request.new.tx.conn.now in
    let number = c.in-Some.number in
    let found = c.in_ok-row.row in
    let rows = c.push_some.new.rows.items in
    let is : rows ≡ listed found = subst (λ l. rows ≡ l ++ listed found) c.new-rows.ensures.items c.in_ok-push_some.ensures in
    let named : request_named c.args.command.now ≡ Some number = search (rules, c.request_named.ensures, c.in-Some.is) in
    subst (λ n. ReadsTables (λ t. ShowsRequest rows t n) first last) (sym named)
    (tells_so first last (λ t. filter (is_request_row number) t.requests ≡ listed found) (λ t. ShowsRequest rows t (Some number))
    (λ t read. one_request rows t number found is read) (c.in_ok-row.ensures.value clean inside))
