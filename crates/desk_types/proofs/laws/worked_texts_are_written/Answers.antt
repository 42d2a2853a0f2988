-- Computed by the definitions.
use Rattle.std.specs.Prelude.{refl}
use Rattle.std.specs.Fmt.{digits}
use Rattle.hex.specs.Hex.{encode_with}
use Rattle.desk_types.specs.Worked.{WritesCommands, WritesReplies}
use Rattle.desk_types.proofs.laws.worked_texts_are_written.Goals as goal

commands_computed : WritesCommands
unfolding digits encode_with
commands_computed = (refl, refl, refl, refl, refl, refl, refl, refl, refl, refl, refl, refl, refl, refl, refl, refl, refl, refl, refl)

pub returns-clause-commands : goal.returns-clause-commands
returns-clause-commands c = commands_computed

replies_computed : WritesReplies
unfolding digits encode_with
replies_computed = (refl, refl, refl, refl, refl, refl, refl, refl, refl, refl, refl, refl, refl, refl, refl, refl)

pub returns-clause-replies : goal.returns-clause-replies
returns-clause-replies c = replies_computed
