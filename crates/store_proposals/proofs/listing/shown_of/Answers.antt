use Rattle.std.proofs.Common.{◌≡◌, Some, None, rules, refl, sym, subst}
use Rattle.std.specs.Prelude.{MatchOption}
use Rattle.sqlite.specs.Held.{state}
use Rattle.desk_types.specs.declared.proposal.Proposal.{Proposal as ShownProposal}
use Rattle.store_reads.proofs.TellsLemmas.{tells_none, tells_so}
use Rattle.store_proposals.specs.Listing.{IsCounted, IsShown, IsTold, counts_by, shown_by}
use Rattle.store_proposals.proofs.listing.shown_of.Goals as goal

pub returns-in_default-clause-value : goal.returns-in_default-clause-value
returns-in_default-clause-value g c clean inside =
    let head = c.args.head in
    let shown = c.in_ok-shown.shown in
    let none : counts_by head.kind ≡ None = search (rules, c.counts_by.ensures, c.in_default.is) in
    tells_so (state g.S.Store c.args.tx.now.conn.now) (state g.S.Store c.shown_with_counts.new.tx.conn.now) (IsCounted head.number shown) (IsTold head shown)
    (λ t counted stamped. subst (λ o. MatchOption o (IsShown t head shown) (λ counts. shown ≡ shown_by head counts)) (sym none) (counted stamped))
    (c.in_ok-shown.ensures.value clean inside)

pub returns-clause-value : goal.returns-clause-value
returns-clause-value g c clean inside =
    let head = c.args.head in
    let counts = c.in-Some.counts in
    let shown : ShownProposal = shown_by head counts in
    let some : counts_by head.kind ≡ Some counts = search (rules, c.counts_by.ensures, c.in-Some.is) in
    tells_none (state g.S.Store c.args.tx.now.conn.now) (IsTold head shown) inside
    (λ t stamped. subst (λ o. MatchOption o (IsShown t head shown) (λ k. shown ≡ shown_by head k)) (sym some) refl)
