use Rattle.std.proofs.Common.{◌≡◌, ◌<◌, ◌^◌, min, take}
use Rattle.sbat.specs.Fields.{decimal_of}
use Rattle.cli_arguments.proofs.values.numbers.decimal_up_to.Given as goal

abbrev pub invariant-loop-digit : goal.invariant-loop-digit
invariant-loop-digit l = (l.number ≡ min l.most (decimal_of (take l.digit-index l.digits))) × (l.most < 2 ^ 32)
