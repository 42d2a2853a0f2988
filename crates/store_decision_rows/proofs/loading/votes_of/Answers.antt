use Rattle.std.proofs.Common.{rules, ◌≡◌, ◌==◌, sym, subst, Some}
use Rattle.sqlite.specs.Held.{state}
use Rattle.store_schema.specs.rows.Values.{vote_values}
use Rattle.store_reads.specs.Reads.{AreFound, ReadsTables}
use Rattle.desk_types.specs.Naming.{request_named}
use Rattle.store_schema.specs.Tables as tables
use Rattle.store_decision_rows.specs.Steps.{ShowsVotes}
use Rattle.store_decision_rows.proofs.NamedLemmas.{votes_shown}
use Rattle.store_reads.proofs.TellsLemmas.{tells_so}
use Rattle.store_decision_rows.proofs.loading.votes_of.Goals as goal

pub returns-clause-value : goal.returns-clause-value
returns-clause-value g c clean inside =
    let first = state g.S.Store c.args.tx.now.conn.now in
    let last = state g.S.Store c.votes.new.tx.conn.now in
    let number = c.in-Some.number in
    let rows = c.in_ok-rows.rows.items in
    let named : request_named c.args.command.now ≡ Some number = search (rules, c.request_named.ensures, c.in-Some.is) in
    subst (λ n. ReadsTables (λ t. ShowsVotes rows t n) first last) (sym named)
    (tells_so first last (λ t. AreFound vote_values tables.votes 2 (λ v. number == v.request) t.votes rows) (λ t. ShowsVotes rows t (Some number))
    (λ t read. votes_shown rows t number c.in_ok-rows.ensures.only read.all) (c.in_ok-rows.ensures.value clean inside))
