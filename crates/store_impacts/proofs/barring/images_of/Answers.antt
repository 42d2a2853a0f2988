use Rattle.std.proofs.Common.{◌≡◌, ◌∙◌, ◌+◌, ◌++◌, ◌<◌, [], length, take, rules, refl, sym, subst, arith}
use Rattle.std.proofs.lemmas.List.{take_all}
use Rattle.sqlite.specs.Held.{state}
use Rattle.sqlite.specs.State.{HasCleanDisk}
use Rattle.sqlite.proofs.StateLemmas.{survives_then}
use Rattle.store_reads.specs.Reads.{listed}
use Rattle.store_shown.specs.Telling.{TellsOf}
use Rattle.store_impacts.specs.Barring.{AreBarred, IsBarred}
use Rattle.store_impacts.proofs.LoopLemmas.{bars_more, bars_none, has_items}
use Rattle.store_impacts.proofs.TellsLemmas.{of_none, of_so, of_then}
use Rattle.store_impacts.proofs.barring.images_of.Goals as goal

pub loop-image-init : goal.loop-image-init
loop-image-init g c =
    let entries = g.E.Standing.standing c.args.entries.now in
    let first = state g.S.Store c.args.tx.now.conn.now in
    let empty : c.new-found.result.items ≡ [] = search rules in
    (refl, search rules, λ clean inside. subst (λ l. TellsOf (AreBarred entries [] l) first first) (sym empty) (of_none first (AreBarred entries [] []) inside (λ cs. bars_none entries cs)), λ more. absurd (omega arith))

pub loop-image-preserved : goal.loop-image-preserved
loop-image-preserved g c =
    let at = c.loop-image in
    let entries = g.E.Standing.standing c.args.entries.now in
    let first = state g.S.Store c.args.tx.now.conn.now in
    let mid = state g.S.Store at.tx.conn.now in
    let new = state g.S.Store c.barred_image.new.tx.conn.now in
    let did = c.in_ok-shown.ensures in
    let images = c.args.touched.now in
    let i = at.image-index in
    let image = c.image-item.result in
    let shown = c.in_ok-shown.shown in
    let had = at.found.items in (
      did.same_reference ∙ at.invariant.0,
      survives_then first mid new (λ _. ⊥) (λ _. ⊥) (λ _. ⊥) (λ _ _ none. none) (λ _ _ none. none) at.invariant.1 did.survives,
      λ clean inside.
          let late : HasCleanDisk mid = omega (arith, did.survives.clean, clean) in
          let stood = at.invariant.2 late inside in
          let it = did.value clean stood.kept.inside in
          subst (λ l. TellsOf (AreBarred entries (take (i + 1) images) l) first new) (sym c.in_ok-push_some.ensures)
          (of_so first new (λ cs. AreBarred entries (take i images) had cs × IsBarred entries image shown cs) (AreBarred entries (take (i + 1) images) (had ++ listed shown))
          (λ cs both. bars_more entries cs images i image had shown c.loop-image-test.true c.image-item.is both.0 both.1)
          (of_then first mid new (AreBarred entries (take i images) had) (IsBarred entries image shown) stood it)),
      λ some clean inside.
          let late : HasCleanDisk mid = omega (arith, did.survives.clean, clean) in
          did.inside clean (at.invariant.2 late inside).kept.inside,
    )

pub returns-clause-inside : goal.returns-clause-inside
returns-clause-inside g c some clean inside =
    let low : 0 < length c.args.touched.now = has_items c.args.touched.now some in
    c.loop-image.invariant.3 (omega (arith, low, c.loop-image-test.false)) clean inside

pub returns-clause-value : goal.returns-clause-value
returns-clause-value g c clean inside =
    let at = c.loop-image in
    let entries = g.E.Standing.standing c.args.entries.now in
    let images = c.args.touched.now in
    subst (λ l. TellsOf (AreBarred entries l at.found.items) (state g.S.Store c.args.tx.now.conn.now) (state g.S.Store at.tx.conn.now))
    (take_all at.image-index images c.loop-image-test.false) (at.invariant.2 clean inside)
