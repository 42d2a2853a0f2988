use Rattle.desk_history.proofs.ListingLemmas as lemmas
use Rattle.desk_history.proofs.laws.listed_rows_are_listed.Goals as goal

pub returns : goal.returns
returns c = lemmas.listed_rows_are_listed
