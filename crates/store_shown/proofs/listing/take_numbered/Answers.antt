use Rattle.std.proofs.Common.{◌≡◌, true, false, List, [], ◌∷◌, ◌++◌, Some, rules, arith}
use Rattle.sqlite.specs.Held.{state}
use Rattle.sqlite.specs.State.{HasCleanDisk}
use Rattle.desk_types.specs.declared.shown.ShownRequest.{ShownRequest}
use Rattle.store_reads.specs.Reads.{ReadsTables, listed}
use Rattle.store_reads.proofs.TellsLemmas.{tells_so, tells_then}
use Rattle.store_shown.specs.Choosing.{TakesNumbered, keeps_shown, picks_row}
use Rattle.store_shown.specs.Steps.{IsShownIn, rows_at}
use Rattle.store_shown.proofs.NumberLemmas.{takes_none, takes_one, takes_voted}
use Rattle.store_shown.proofs.listing.take_numbered.Goals as goal

pub returns-then-not-picks_row-clause-value : goal.returns-then-not-picks_row-clause-value
returns-then-not-picks_row-clause-value g c clean inside =
    let choice = c.args.choice.now in
    let reader = c.args.reader.now in
    let n = c.in-Some.number in
    let found = c.in_ok-row.field-0 in
    let row = c.in-Some-2.row in
    let holds = g.L.RequestList.holds c.args.list.now in
    let some : found ≡ Some row = search (rules, c.in-Some-2.is) in
    let hidden : picks_row choice reader row ≡ false = search (rules, c.picks_row.ensures, c.if-not-picks_row.true) in
    tells_so (state g.S.Store c.args.tx.now.conn.now) (state g.S.Store c.request_numbered.new.tx.conn.now)
    (λ t. rows_at t n ≡ listed found) (λ t. TakesNumbered choice reader t c.args.number holds holds false)
    (λ t e. takes_none choice reader t c.args.number n c.in-Some.ensures.0 found row some holds hidden e) (c.in_ok-row.ensures.value clean inside)

pub returns-then-not-keeps_shown-clause-value : goal.returns-then-not-keeps_shown-clause-value
returns-then-not-keeps_shown-clause-value g c clean inside =
    let choice = c.args.choice.now in
    let reader = c.args.reader.now in
    let n = c.in-Some.number in
    let found = c.in_ok-row.field-0 in
    let row = c.in-Some-2.row in
    let s = c.in_ok-shown.shown in
    let holds = g.L.RequestList.holds c.args.list.now in
    let s0 = state g.S.Store c.args.tx.now.conn.now in
    let s1 = state g.S.Store c.request_numbered.new.tx.conn.now in
    let s2 = state g.S.Store c.shown_of.new.tx.conn.now in
    let c1 : HasCleanDisk s1 = omega (arith, c.in_ok-shown.ensures.survives.clean, clean) in
    let first : ReadsTables (λ t. rows_at t n ≡ listed found) s0 s1 = c.in_ok-row.ensures.value c1 inside in
    let some : found ≡ Some row = search (rules, c.in-Some-2.is) in
    let seen : picks_row choice reader row ≡ true = search (rules, c.picks_row.ensures, c.if-not-picks_row.false) in
    let left : keeps_shown choice reader s ≡ false = search (rules, c.keeps_shown.ensures, c.if-not-keeps_shown.true) in
    tells_so s0 s2 (λ t. (rows_at t n ≡ listed found) × IsShownIn t row s) (λ t. TakesNumbered choice reader t c.args.number holds holds false)
    (λ t both. takes_voted choice reader t c.args.number n c.in-Some.ensures.0 found row some holds seen both.0 s left both.1)
    (tells_then s0 s1 s2 (λ t. rows_at t n ≡ listed found) (λ t. IsShownIn t row s) first (c.in_ok-shown.ensures.value clean first.kept.inside))

pub returns-in-Ok-clause-value : goal.returns-in-Ok-clause-value
returns-in-Ok-clause-value g c clean inside =
    let choice = c.args.choice.now in
    let reader = c.args.reader.now in
    let n = c.in-Some.number in
    let found = c.in_ok-row.field-0 in
    let row = c.in-Some-2.row in
    let s = c.in_ok-shown.shown in
    let before = g.L.RequestList.holds c.args.list.now in
    let after = g.L.RequestList.holds c.push.new.self in
    let s0 = state g.S.Store c.args.tx.now.conn.now in
    let s1 = state g.S.Store c.request_numbered.new.tx.conn.now in
    let s2 = state g.S.Store c.shown_of.new.tx.conn.now in
    let c1 : HasCleanDisk s1 = omega (arith, c.in_ok-shown.ensures.survives.clean, clean) in
    let first : ReadsTables (λ t. rows_at t n ≡ listed found) s0 s1 = c.in_ok-row.ensures.value c1 inside in
    let some : found ≡ Some row = search (rules, c.in-Some-2.is) in
    let seen : picks_row choice reader row ≡ true = search (rules, c.picks_row.ensures, c.if-not-picks_row.false) in
    let kept : keeps_shown choice reader s ≡ true = search (rules, c.keeps_shown.ensures, c.if-not-keeps_shown.false) in
    let pushed : (held : List ShownRequest) → before held → after (held ++ s ∷ []) = c.in-Ok.ensures in
    tells_so s0 s2 (λ t. (rows_at t n ≡ listed found) × IsShownIn t row s) (λ t. TakesNumbered choice reader t c.args.number before after true)
    (λ t both. takes_one choice reader t c.args.number n c.in-Some.ensures.0 found row some before after seen both.0 s kept both.1 pushed)
    (tells_then s0 s1 s2 (λ t. rows_at t n ≡ listed found) (λ t. IsShownIn t row s) first (c.in_ok-shown.ensures.value clean first.kept.inside))
