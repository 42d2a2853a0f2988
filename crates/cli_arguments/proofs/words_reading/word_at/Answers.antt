use Rattle.std.proofs.Common.{◌∙◌, ap}
use Rattle.clap.specs.Words.{Text, first_of, found_of, rows_of}
use Rattle.clap.proofs.WalkLemmas.{first_value-rows}
use Rattle.cli_arguments.proofs.words_reading.word_at.Goals as goal

pub returns : goal.returns
returns c =
    let found = found_of c.args.matches.now in
    c.get_str.ensures ∙ first_value-rows found c.id_at.result.now ∙ ap (λ (id : Text). first_of id (rows_of found)) c.id_at.ensures
