use Rattle.std.proofs.Common.{◌∙◌, ap, sym, take}
use Rattle.std.specs.Prelude.{reverse}
use Rattle.std.specs.FinMap.{get, get-empty}
use Rattle.std.proofs.lemmas.List.{take_all}
use Rattle.desk_history.specs.Level.{greatest}
use Rattle.desk_rules.proofs.ImportLemmas.{greatest_more, name_among, no_sbat, reverse_take}
use Rattle.desk_rules.proofs.entries.greatest_of.Goals as goal

pub loop-component-init : goal.loop-component-init
loop-component-init c q = ap (λ l. get l.generations q) c.new-level.ensures ∙ get-empty _ q

pub raise-requires : goal.raise-requires
raise-requires c = record {
  other =
      no_sbat c.args.components.now c.requires c.component-item.result.name
      (name_among c.args.components.now c.loop-component.component-index c.component-item.result c.loop-component-test.true c.component-item.is);
}

pub loop-component-preserved : goal.loop-component-preserved
loop-component-preserved c q =
    let seen = take c.loop-component.component-index c.args.components.now in
    ap (λ l. get l.generations q) c.in_ok-raise.ensures.ok
    ∙ greatest_more c.loop-component.level.generations c.component-item.result (reverse seen) q (c.loop-component.invariant q)
    ∙ ap (λ xs. greatest xs q) (sym (reverse_take c.args.components.now c.loop-component.component-index c.component-item.result c.loop-component-test.true c.component-item.is))

pub returns : goal.returns
returns c q =
    let whole = take_all c.loop-component.component-index c.args.components.now c.loop-component-test.false in
    c.loop-component.invariant q ∙ ap (λ xs. greatest (reverse xs) q) whole
