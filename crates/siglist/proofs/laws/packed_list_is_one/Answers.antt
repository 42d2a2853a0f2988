use Rattle.siglist.proofs.PackingLemmas.{Packs-one}
use Rattle.siglist.proofs.laws.packed_list_is_one.Goals as goal

pub returns : goal.returns
returns c = Packs-one
