use Rattle.authenticode.proofs.BodyLemmas.{certificates-each, certificates-found}
use Rattle.authenticode.proofs.laws.certificates_are_nested.Goals as goal

pub returns-clause-found : goal.returns-clause-found
returns-clause-found c = certificates-found

pub returns-clause-each : goal.returns-clause-each
returns-clause-each c = certificates-each
