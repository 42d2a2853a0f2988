use Rattle.std.proofs.Common.{◌≡◌, ◌++◌, [], ◌∷◌, true, false, Some, rules, arith}
use Rattle.std.specs.Prelude.{option_copied}
use Rattle.sqlite.specs.Held.{state}
use Rattle.sqlite.specs.State.{HasCleanDisk}
use Rattle.store_reads.specs.Reads.{ReadsTables, listed}
use Rattle.store_reads.proofs.TellsLemmas.{tells_so, tells_then}
use Rattle.store_proposals.specs.Listing.{IsTold}
use Rattle.store_proposals.specs.Numbered.{TakesNumbered, heads_at, picks_head}
use Rattle.store_proposals.proofs.NumberedLemmas.{takes_none, takes_one}
use Rattle.store_proposals.proofs.numbered.take_numbered.Goals as goal

pub returns-then-not-picks_head-clause-value : goal.returns-then-not-picks_head-clause-value
returns-then-not-picks_head-clause-value g c clean inside =
    let officer = option_copied c.args.officer in
    let n = c.in-Some.number in
    let found = c.in_ok-head.field-0 in
    let head = c.in-Some-2.head in
    let list = c.args.list.now.items in
    let some : found ≡ Some head = search (rules, c.in-Some-2.is) in
    let hidden : picks_head officer head ≡ false = search (rules, c.picks_head.ensures, c.if-not-picks_head.true) in
    tells_so (state g.S.Store c.args.tx.now.conn.now) (state g.S.Store c.head_numbered.new.tx.conn.now)
    (λ t. heads_at t n ≡ listed found) (λ t. TakesNumbered officer t c.args.number list list false)
    (λ t e. takes_none officer t c.args.number n c.in-Some.ensures.0 found head some list hidden e) (c.in_ok-head.ensures.value clean inside)

pub returns-clause-value : goal.returns-clause-value
returns-clause-value g c clean inside =
    let officer = option_copied c.args.officer in
    let n = c.in-Some.number in
    let found = c.in_ok-head.field-0 in
    let head = c.in-Some-2.head in
    let s = c.in_ok-shown.shown in
    let before = c.args.list.now.items in
    let after = c.push.new.self.items in
    let s0 = state g.S.Store c.args.tx.now.conn.now in
    let s1 = state g.S.Store c.head_numbered.new.tx.conn.now in
    let s2 = state g.S.Store c.shown_of.new.tx.conn.now in
    let c1 : HasCleanDisk s1 = omega (arith, c.in_ok-shown.ensures.survives.clean, clean) in
    let first : ReadsTables (λ t. heads_at t n ≡ listed found) s0 s1 = c.in_ok-head.ensures.value c1 inside in
    let some : found ≡ Some head = search (rules, c.in-Some-2.is) in
    let seen : picks_head officer head ≡ true = search (rules, c.picks_head.ensures, c.if-not-picks_head.false) in
    let pushed : after ≡ before ++ s ∷ [] = rw c.if-is_err.ensures.negation at c.push.ensures.items in
    tells_so s0 s2 (λ t. (heads_at t n ≡ listed found) × IsTold head s t) (λ t. TakesNumbered officer t c.args.number before after true)
    (λ t both. takes_one officer t c.args.number n c.in-Some.ensures.0 found head some before after s seen both.0 both.1 pushed)
    (tells_then s0 s1 s2 (λ t. heads_at t n ≡ listed found) (λ t. IsTold head s t) first (c.in_ok-shown.ensures.value clean first.kept.inside))
