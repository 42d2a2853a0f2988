use Rattle.desk_exports.proofs.ListPartLemmas as lemmas
use Rattle.desk_exports.proofs.laws.lists_come_in_parts.Goals as goal

pub returns-clause-requests : goal.returns-clause-requests
returns-clause-requests c = lemmas.requests_come_in_parts

pub returns-clause-proposals : goal.returns-clause-proposals
returns-clause-proposals c = lemmas.proposals_come_in_parts
