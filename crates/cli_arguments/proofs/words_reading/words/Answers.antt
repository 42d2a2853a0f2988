use Rattle.std.proofs.Common.{◌≡◌, ◌∙◌, false, map, true}
use Rattle.std.specs.Prelude.{string_bytes}
use Rattle.cli_arguments.proofs.LineLemmas.{fault_among, line_given, line_kept, line_met, line_read, line_taken, no_fault}
use Rattle.cli_arguments.proofs.words_reading.words.Goals as goal

-- a line of plain words is refused only if memory is refused
pub returns-else-eq : goal.returns-else-eq
returns-else-eq c = record {
  exact =
      fault_among _ _ c.in-Err.error c.in-Ok.ensures
      (λ memory. let bad : false ≡ true = rw (c.kind.ensures ∙ memory) at c.if-eq.ensures in absurd (cc)) c.in-Err.ensures.kinds;
  taken = λ line spells.
      let memory = c.kind.ensures ∙ c.in-Err.ensures.passes (line_taken line _ _ c.in-Ok.ensures spells) in
      let bad : false ≡ true = rw memory at c.if-eq.ensures in
      absurd (cc);
}

pub returns-in-Ok-try_get_matches_from : goal.returns-in-Ok-try_get_matches_from
returns-in-Ok-try_get_matches_from c =
    let whole = no_fault _ (map string_bytes c.args.given.now) c.in-Ok.ensures c.in-Ok-try_get_matches_from.ensures.kinds in
    let said = c.subcommand_words.ensures ∙ line_met _ _ _ c.in-Ok.ensures c.in-Ok-try_get_matches_from.ensures.matches in
    record {
      exact = line_given (map string_bytes c.args.given.now) c.subcommand_words.result c.ok_or.result c.ok_or.ensures.value whole said;
      taken = λ line spells. line_kept line c.subcommand_words.result c.ok_or.result c.ok_or.ensures.value (said ∙ line_read line _ spells);
    }
