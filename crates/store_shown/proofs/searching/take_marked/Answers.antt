use Rattle.std.proofs.Common.{◌≡◌, false, true, refl, rules, subst, sym}
use Rattle.sqlite.specs.Held.{state}
use Rattle.store_reads.specs.Reads.{ReadsTables}
use Rattle.store_reads.proofs.TellsLemmas.{tells_none}
use Rattle.store_shown.specs.Searching.{TakesMarked, is_marked}
use Rattle.store_shown.proofs.searching.take_marked.Goals as goal

pub returns-then-not-is_marked-clause-value : goal.returns-then-not-is_marked-clause-value
returns-then-not-is_marked-clause-value g c clean inside =
    let choice = c.args.choice.now in
    let reader = c.args.reader.now in
    let n = c.args.number in
    let holds = g.L.RequestList.holds c.args.list.now in
    let first = state g.S.Store c.args.tx.now.conn.now in
    let skipped : is_marked c.args.marks.now n ≡ false = search (rules, c.is_marked.ensures, c.if-not-is_marked.true) in
    subst (λ b. ReadsTables (λ t. TakesMarked choice reader t b n holds holds false) first first) (sym skipped)
    (tells_none first (λ t. TakesMarked choice reader t false n holds holds false) inside (λ t. (λ held was. was, refl)))

pub returns-clause-value : goal.returns-clause-value
returns-clause-value g c clean inside =
    let choice = c.args.choice.now in
    let reader = c.args.reader.now in
    let n = c.args.number in
    let before = g.L.RequestList.holds c.args.list.now in
    let after = g.L.RequestList.holds c.take_numbered.new.list in
    let is_taken = c.in_ok-is_taken.is_taken in
    let first = state g.S.Store c.args.tx.now.conn.now in
    let new = state g.S.Store c.take_numbered.new.tx.conn.now in
    let looked : is_marked c.args.marks.now n ≡ true = search (rules, c.is_marked.ensures, c.if-not-is_marked.false) in
    subst (λ b. ReadsTables (λ t. TakesMarked choice reader t b n before after is_taken) first new) (sym looked)
    (c.in_ok-is_taken.ensures.value clean inside)
