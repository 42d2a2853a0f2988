use Rattle.base.proofs.GuidLemmas.{text_of-differ, text_of-spells}
use Rattle.base.proofs.laws.guid_texts_differ.Goals as goal

pub returns-clause-spells : goal.returns-clause-spells
returns-clause-spells c = text_of-spells

pub returns-clause-differ : goal.returns-clause-differ
returns-clause-differ c = text_of-differ
