use Rattle.std.proofs.Common.{◌≡◌, ◌+◌, ◌≤◌, ◌∙◌, ℕ, List, length, drop, None, sym, ap, subst, arith}
use Rattle.std.proofs.lemmas.List.{length-drop}
use Rattle.siglist.specs.ListsFaults.{IsRefused}
use Rattle.siglist.specs.Heads.{size_at}
use Rattle.siglist.specs.Steps.Reading.{lack_at}
use Rattle.siglist.proofs.SpeltLemmas.{IsBytes}
use Rattle.siglist.proofs.RowLemmas.{SpeltTo, SpeltTo-more, SpeltTo-all, SpeltTo-refused, front_size}
use Rattle.siglist.proofs.lists_reading.lists.Goals as goal

-- one list more
more : (bytes rest : List ℕ) (at n : ℕ) → IsBytes bytes → at ≤ length bytes → SpeltTo bytes at → rest ≡ drop at bytes → lack_at rest ≡ None → n ≡ size_at rest
    → (at + n ≤ length bytes) × SpeltTo bytes (at + n)
more bytes rest at n h le before is none size =
    let fits = front_size rest none in
    let left = ap length is ∙ length-drop at bytes in
    let next = SpeltTo-more bytes at h le before (ap lack_at (sym is) ∙ none) in
    (omega (arith, fits.1, left, size, le), subst (λ k. SpeltTo bytes (at + k)) (ap size_at (sym is) ∙ sym size) next)

pub loop-offset-preserved : goal.loop-offset-preserved
loop-offset-preserved c =
    more c.args.bytes.now c.split_at.result.1.now c.loop-offset.offset c.in-Ok.size (record { at = λ i. omega (arith, c.type_inv.bytes i) }) c.loop-offset.invariant.0 c.loop-offset.invariant.1
    c.split_at.ensures.back c.in-Ok.ensures.lack c.in-Ok.ensures.size

sized : (bytes rest : List ℕ) (at n : ℕ) → at ≤ length bytes → rest ≡ drop at bytes → lack_at rest ≡ None → n ≡ size_at rest → (at + n ≤ length bytes) × (28 ≤ n)
sized bytes rest at n le is none size =
    let fits = front_size rest none in
    let left = ap length is ∙ length-drop at bytes in
    (omega (arith, fits.1, left, size, le), omega (arith, fits.0, size))

pub overflow_add-offset : goal.overflow_add-offset
overflow_add-offset c =
    let s = sized _ _ _ _ c.loop-offset.invariant.0 c.split_at.ensures.back c.in-Ok.ensures.lack c.in-Ok.ensures.size in
    omega (arith, s.0)

pub loop-offset-smaller : goal.loop-offset-smaller
loop-offset-smaller c =
    let s = sized _ _ _ _ c.loop-offset.invariant.0 c.split_at.ensures.back c.in-Ok.ensures.lack c.in-Ok.ensures.size in
    omega (arith, s.0, s.1)

pub returns-in-Err-clause-first : goal.returns-in-Err-clause-first
returns-in-Err-clause-first c =
    subst (IsRefused c.args.bytes.now) (sym c.at.ensures)
    (SpeltTo-refused c.args.bytes.now c.loop-offset.offset c.in-Err.lack c.loop-offset-test.true c.loop-offset.invariant.1 (ap lack_at (sym c.split_at.ensures.back) ∙ c.in-Err.ensures.lack))

pub of-requires : goal.of-requires
of-requires c = record { row = _; spelt = SpeltTo-all c.args.bytes.now c.loop-offset.offset c.loop-offset-test.false c.loop-offset.invariant.1 }

pub returns-clause-found : goal.returns-clause-found
returns-clause-found c = record {
  row = _;
  spelt = SpeltTo-all c.args.bytes.now c.loop-offset.offset c.loop-offset-test.false c.loop-offset.invariant.1;
  places = c.of.ensures;
}
