use Rattle.std.proofs.Common.{Some, subst, arith}
use Rattle.desk_inputs.specs.imports.FromLevel.{level_items}
use Rattle.desk_inputs.specs.imports.Items.{IsCommandOf}
use Rattle.desk_inputs.proofs.LevelLemmas.{few_names}
use Rattle.desk_inputs.proofs.imports.from_level.import_level.Goals as goal

-- a level has 10,000 names at most
pub returns-clause-first : goal.returns-clause-first
returns-clause-first c =
    let many = c.in-None.ensures (level_items c.in-Ok.level) c.in-Some.ensures in
    let few = few_names c.in-Ok.level c.in-Ok.ensures.exact.1 in
    absurd (omega (arith, many, few))

pub returns-in-Some-into_command-clause-exact : goal.returns-in-Some-into_command-clause-exact
returns-in-Some-into_command-clause-exact c = record {
  level = c.in-Ok.level;
  read = c.in-Ok.ensures.exact;
  is = subst (λ s. IsCommandOf (Some s) (level_items c.in-Ok.level) c.in-Some-into_command.command) c.stamp.ensures (c.in-Some-into_command.ensures (level_items c.in-Ok.level) c.in-Some.ensures);
}
