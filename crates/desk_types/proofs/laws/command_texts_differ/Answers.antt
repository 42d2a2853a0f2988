use Rattle.desk_types.proofs.ReadingLemmas.{text_of-same}
use Rattle.desk_types.proofs.laws.command_texts_differ.Goals as goal

pub returns : goal.returns
returns c = text_of-same
