use Rattle.std.proofs.Common.{All, take}
use Rattle.desk_types.specs.Commands.{IsComponent}
use Rattle.desk_types.proofs.form_keeping.show_components.Given as goal

abbrev pub invariant-loop-component : goal.invariant-loop-component
invariant-loop-component l = All IsComponent (take l.component-index l.components)
