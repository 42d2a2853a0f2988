use Rattle.std.proofs.Common.{rules, ◌≡◌, ◌++◌, filter, sym, subst, All, Some, None}
use Rattle.std.specs.Prelude.{IsSome}
use Rattle.sqlite.specs.Held.{state}
use Rattle.store_proposals.specs.Reading.{IsStamped}
use Rattle.store_reads.specs.Reads.{ReadsTables, listed}
use Rattle.desk_types.specs.Naming.{proposal_named}
use Rattle.desk_rules.specs.Shown.{is_proposal_row}
use Rattle.store_decision_rows.specs.Steps.{ShowsProposal}
use Rattle.store_decision_rows.proofs.NamedLemmas.{one_proposal}
use Rattle.store_reads.proofs.TellsLemmas.{tells_so}
use Rattle.store_decision_rows.proofs.loading.proposals_of.Goals as goal

pub returns-clause-value : goal.returns-clause-value
returns-clause-value g c clean inside =
    let first = state g.S.Store c.args.tx.now.conn.now in
    let last = state g.S.Store c.proposal.new.tx.conn.now in
    let number = c.in-Some.number in
    let found = c.in_ok-row.row in
    let rows = c.push_some.new.rows.items in
    let is : rows ≡ listed found = subst (λ l. rows ≡ l ++ listed found) c.new-rows.ensures.items c.in_ok-push_some.ensures in
    let named : proposal_named c.args.command.now ≡ Some number = search (rules, c.proposal_named.ensures, c.in-Some.is) in
    subst (λ n. ReadsTables (λ t. All IsStamped t.proposals → ShowsProposal rows t n) first last) (sym named)
    (tells_so first last (λ t. All IsStamped t.proposals → filter (is_proposal_row number) t.proposals ≡ listed found)
    (λ t. All IsStamped t.proposals → ShowsProposal rows t (Some number))
    (λ t read stamped. one_proposal rows t number found is (read stamped)) (c.in_ok-row.ensures.value clean inside))

pub returns-in_default-clause-inside : goal.returns-in_default-clause-inside
returns-in_default-clause-inside g c named =
    let none : proposal_named c.args.command.now ≡ None = search (rules, c.proposal_named.ensures, c.in_default.is) in
    absurd (let clash = subst IsSome none named in cc)
