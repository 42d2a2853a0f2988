use Rattle.store_desk.proofs.BesideLemmas.{allowed}
use Rattle.store_desk.proofs.laws.notes_allow_a_desk.Goals as goal

pub returns : goal.returns
returns c owner = allowed owner
