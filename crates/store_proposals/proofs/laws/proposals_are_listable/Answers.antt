use Rattle.desk_history.proofs.RowLemmas.{rows_stand_once}
use Rattle.store_proposals.proofs.KindLemmas.{rows_named}
use Rattle.store_proposals.proofs.StampLemmas.{rows_stamped}
use Rattle.store_proposals.proofs.laws.proposals_are_listable.Goals as goal

pub returns : goal.returns
returns g owner cs h = record {
  stamped = rows_stamped owner cs h.formed;
  apart = (rows_stand_once owner cs h.legal).proposals;
  named = rows_named owner cs;
}
