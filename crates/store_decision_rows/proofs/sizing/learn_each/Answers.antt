use Rattle.std.proofs.Common.{rules, ◌∙◌, refl, sym, subst, arith, get_or}
use Rattle.std.proofs.lemmas.List.{get_or_default, take_all}
use Rattle.sqlite.specs.Held.{state}
use Rattle.sqlite.specs.State.{HasCleanDisk}
use Rattle.sqlite.proofs.StateLemmas.{survives_then}
use Rattle.desk_rules.specs.declared.view.LimitedTable.TheVariants as counted
use Rattle.store_decision_rows.specs.sizes.Sizes.{AreRight}
use Rattle.store_decision_rows.specs.Steps.{LearnsOf}
use Rattle.store_decision_rows.proofs.LearningLemmas.{learns_next, learns_none}
use Rattle.store_reads.proofs.TellsLemmas.{tells_none, tells_so, tells_then}
use Rattle.store_decision_rows.proofs.sizing.learn_each.Goals as goal

pub loop-table-init : goal.loop-table-init
loop-table-init g c =
    let sizes = c.args.sizes in (
      refl,
      search rules,
      λ clean inside. tells_none (state g.S.Store c.args.tx.now.conn.now) (λ t. AreRight sizes t → AreRight sizes t) inside (λ t right. right),
      learns_none c.args.command.now sizes,
    )

pub loop-table-preserved : goal.loop-table-preserved
loop-table-preserved g c =
    let first = state g.S.Store c.args.tx.now.conn.now in
    let mid = state g.S.Store c.loop-table.tx.conn.now in
    let new = state g.S.Store c.learn_one.new.tx.conn.now in
    let inv = c.loop-table.invariant in
    let did = c.in_ok-known.ensures in
    let start = c.args.sizes in
    let was = c.loop-table.known in
    let is = c.in_ok-known.known in (
      did.same_reference ∙ inv.0,
      survives_then first mid new (λ _. ⊥) (λ _. ⊥) (λ _. ⊥) (λ _ _ none. none) (λ _ _ none. none) inv.1 did.survives,
      λ clean inside.
          let late : HasCleanDisk mid = omega (arith, did.survives.clean, clean) in
          let stood = inv.2 late inside in
          tells_so first new (λ t. (AreRight start t → AreRight was t) × (AreRight was t → AreRight is t)) (λ t. AreRight start t → AreRight is t)
          (λ t both right. both.1 (both.0 right))
          (tells_then first mid new (λ t. AreRight start t → AreRight was t) (λ t. AreRight was t → AreRight is t) stood (did.value clean stood.kept.inside)),
      let tables = c.args.tables.now in
          let at = c.loop-table.table-index in
          let item = get_or tables at counted.People in
          learns_next c.args.command.now tables at item start was is c.loop-table-test.true (sym (get_or_default tables at item counted.People c.loop-table-test.true)) inv.3 did.learnt,
    )

pub returns-clause-learnt : goal.returns-clause-learnt
returns-clause-learnt g c =
    subst (λ l. LearnsOf l c.args.command.now c.args.sizes c.loop-table.known) (take_all c.loop-table.table-index c.args.tables.now c.loop-table-test.false) c.loop-table.invariant.3
