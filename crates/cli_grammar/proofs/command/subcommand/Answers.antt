use Rattle.std.proofs.Common.{◌∙◌, ◌||◌, Bool, ap₂, rules}
use Rattle.clap.specs.Words.{app_of, rule_of}
use Rattle.cli_grammar.proofs.CommandLemmas.{shape_more}
use Rattle.cli_grammar.proofs.command.subcommand.Goals as goal

pub loop-place-preserved : goal.loop-place-preserved
loop-place-preserved c = record {
  shape =
      shape_more (app_of c.loop-place.command) (app_of c.in_ok-command.command) c.args.name.now c.loop-place.place c.id_at.result.now
      (rule_of c.word.result) (search rules) c.loop-place.invariant.shape c.id_at.ensures c.word.ensures.rule
      (c.in_ok-command.ensures.shape c.word.ensures.local);
  local = c.in_ok-command.ensures.globals ∙ ap₂ (λ (a b : Bool). a || b) c.loop-place.invariant.local c.word.ensures.local;
}
