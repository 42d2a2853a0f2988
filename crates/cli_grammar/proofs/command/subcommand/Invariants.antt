use Rattle.std.proofs.Common.{◌≡◌, false}
use Rattle.clap.specs.Words.{shape_of}
use Rattle.clap.specs.declared.builder.command.Command.TheViews.{out-Command}
use Rattle.cli_grammar.specs.Commands.{subcommand_shape}
use Rattle.cli_grammar.proofs.command.subcommand.Given as goal

abbrev pub invariant-loop-place : goal.invariant-loop-place
invariant-loop-place l = record {
  shape : shape_of l.command ≡ subcommand_shape l.name l.place;
  local : (out-Command l.command).has_globals ≡ false;
}
