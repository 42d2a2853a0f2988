use Rattle.std.proofs.Common.{◌≡◌, ◌++◌, ◌+◌, inl, inr, ◌∙◌, Some, None, rules, refl, sym, ap, subst, arith}
use Rattle.sqlite.specs.Held.{state}
use Rattle.sqlite.specs.State.{HasCleanDisk}
use Rattle.sqlite.proofs.StateLemmas.{survives_then}
use Rattle.store_reads.specs.Reads.{listed}
use Rattle.store_reads.proofs.TellsLemmas.{tells_none, tells_so, tells_then}
use Rattle.store_shown.specs.Lines.{HasFirst, HasLines, calls_at, line_of}
use Rattle.store_shown.proofs.MinuteLemmas.{first_more, no_lines}
use Rattle.store_shown.proofs.minute_lines.lines_after.Goals as goal

pub loop-lines-init : goal.loop-lines-init
loop-lines-init g c =
    let first = state g.S.Store c.args.tx.now.conn.now in
    (omega arith, refl, search rules, λ clean inside. tells_none first (λ t. HasFirst t c.args.calls 0 c.new-text.result.items) inside (λ t. subst (HasFirst t c.args.calls 0) (sym c.new-text.ensures.items) (no_lines t c.args.calls)), λ more. absurd (omega arith))

pub loop-lines-preserved : goal.loop-lines-preserved
loop-lines-preserved g c =
    let at = c.loop-lines in
    let first = state g.S.Store c.args.tx.now.conn.now in
    let mid = state g.S.Store at.tx.conn.now in
    let new = state g.S.Store c.call_numbered.new.tx.conn.now in
    let k = c.args.calls in
    let n = at.lines in
    let found = c.in_ok-call.field-0 in
    let call = c.in-Some.call in
    let text = at.text.items in
    let more = c.push_line.new.text.items in
    let did = c.in_ok-call.ensures in
    let some : found ≡ Some call = c.in-Some.is in
    let pushed : more ≡ text ++ line_of call = c.in_ok-push_line.ensures in (
      omega (arith, c.loop-lines-test.true),
      did.same_reference ∙ at.invariant.1,
      survives_then first mid new (λ _. ⊥) (λ _. ⊥) (λ _. ⊥) (λ _ _ none. none) (λ _ _ none. none) at.invariant.2 did.survives,
      λ clean inside.
          let late : HasCleanDisk mid = omega (arith, did.survives.clean, clean) in
          let stood = at.invariant.3 late inside in
          tells_so first new (λ t. HasFirst t k n text × (calls_at t (k + n + 1) ≡ listed found)) (λ t. HasFirst t k (n + 1) more)
          (λ t both. first_more t k n text more call both.0 (both.1 ∙ ap listed some) pushed)
          (tells_then first mid new (λ t. HasFirst t k n text) (λ t. calls_at t (k + n + 1) ≡ listed found) stood (did.value clean stood.kept.inside)),
      λ some clean inside.
          let late : HasCleanDisk mid = omega (arith, did.survives.clean, clean) in
          did.inside clean (at.invariant.3 late inside).kept.inside,
    )

pub returns-in_default-clause-value : goal.returns-in_default-clause-value
returns-in_default-clause-value g c clean inside =
    let at = c.loop-lines in
    let first = state g.S.Store c.args.tx.now.conn.now in
    let mid = state g.S.Store at.tx.conn.now in
    let new = state g.S.Store c.call_numbered.new.tx.conn.now in
    let k = c.args.calls in
    let n = at.lines in
    let found = c.in_ok-call.field-0 in
    let text = at.text.items in
    let did = c.in_ok-call.ensures in
    let none : found ≡ None = c.in_default.is in
    let late : HasCleanDisk mid = omega (arith, did.survives.clean, clean) in
    let stood = at.invariant.3 late inside in
    tells_so first new (λ t. HasFirst t k n text × (calls_at t (k + n + 1) ≡ listed found)) (λ t. HasLines t k text)
    (λ t both. record { lines = n; most = at.invariant.0; first = both.0; ends = inr (both.1 ∙ ap listed none) })
    (tells_then first mid new (λ t. HasFirst t k n text) (λ t. calls_at t (k + n + 1) ≡ listed found) stood (did.value clean stood.kept.inside))

pub returns-clause-value : goal.returns-clause-value
returns-clause-value g c clean inside =
    let at = c.loop-lines in
    let k = c.args.calls in
    let n = at.lines in
    let text = at.text.items in
    let low = at.invariant.0 in
    let full : n ≡ 1000 = omega (arith, low, c.loop-lines-test.false) in
    tells_so (state g.S.Store c.args.tx.now.conn.now) (state g.S.Store at.tx.conn.now) (λ t. HasFirst t k n text) (λ t. HasLines t k text)
    (λ t it. record { lines = n; most = low; first = it; ends = inl full }) (at.invariant.3 clean inside)

pub returns-in_default-clause-inside : goal.returns-in_default-clause-inside
returns-in_default-clause-inside g c clean inside =
    let at = c.loop-lines in
    let did = c.in_ok-call.ensures in
    let late : HasCleanDisk (state g.S.Store at.tx.conn.now) = omega (arith, did.survives.clean, clean) in
    did.inside clean (at.invariant.3 late inside).kept.inside

pub returns-clause-inside : goal.returns-clause-inside
returns-clause-inside g c clean inside = c.loop-lines.invariant.4 (omega (arith, c.loop-lines-test.false)) clean inside
