use Rattle.std.proofs.Common.{arith, refl, ◌≡◌, ◌∙◌, sym, ap, subst, List, take}
use Rattle.std.specs.Prelude.{reverse}
use Rattle.std.specs.List.{list_any}
use Rattle.std.proofs.lemmas.List.{take_all}
use Rattle.sbat.specs.declared.component.Component.{Component}
use Rattle.desk_history.specs.Writes.{all_written}
use Rattle.desk_rules.specs.ImportSteps.{HasTaken}
use Rattle.desk_rules.specs.Room.{takes_off}
use Rattle.desk_rules.proofs.ImportLemmas.{name_among, no_sbat, reverse_take}
use Rattle.desk_rules.proofs.decisions.imports.take_all.Goals as goal

pub loop-component-init : goal.loop-component-init
loop-component-init c = record {
  counted = omega arith;
  taken = λ old knows. record {
    other = c.requires.other;
    level = λ q asked. c.in_ok-level_of.ensures.ok q (no_sbat c.args.components.now c.requires.other q asked) ∙ knows q asked;
    count = refl;
    written = λ t rows. ap (λ ws. all_written ws t) c.new.ensures.items ∙ ap (λ rs. record t { components = rs }) rows;
    kept = ap (λ ws. list_any takes_off ws) c.new.ensures.items;
  };
}

pub take_in-requires-clause-other : goal.take_in-requires-clause-other
take_in-requires-clause-other c =
    no_sbat c.args.components.now c.requires.other c.component-item.result.name
    (name_among c.args.components.now c.loop-component.component-index c.component-item.result c.loop-component-test.true c.component-item.is)

pub loop-component-preserved : goal.loop-component-preserved
loop-component-preserved c = record {
  counted = omega (arith, c.in_ok-take_in.ensures.count, c.loop-component.invariant.counted);
  taken = λ old knows.
      let asked = name_among c.args.components.now c.loop-component.component-index c.component-item.result c.loop-component-test.true c.component-item.is in
      subst (λ (seen : List Component). HasTaken c.args.components.now old seen c.take_in.new.so_far)
      (sym (reverse_take c.args.components.now c.loop-component.component-index c.component-item.result c.loop-component-test.true c.component-item.is))
      (c.in_ok-take_in.ensures.ok c.args.components.now old (reverse (take c.loop-component.component-index c.args.components.now)) asked
      (c.in_ok-before.ensures.ok c.component-item.result.name (no_sbat c.args.components.now c.requires.other c.component-item.result.name asked) ∙ knows c.component-item.result.name asked)
      (c.loop-component.invariant.taken old knows));
}

pub returns-clause-ok : goal.returns-clause-ok
returns-clause-ok c old knows =
    let whole : take c.loop-component.component-index c.args.components.now ≡ c.args.components.now = take_all c.loop-component.component-index c.args.components.now c.loop-component-test.false in
    subst (λ (xs : List Component). HasTaken c.args.components.now old (reverse xs) c.loop-component.so_far) whole (c.loop-component.invariant.taken old knows)
