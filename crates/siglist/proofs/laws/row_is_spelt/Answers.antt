use Rattle.siglist.proofs.WritingLemmas.{sha256_spells, x509_sha256_spells, x509_spells}
use Rattle.siglist.proofs.laws.row_is_spelt.Goals as goal

pub returns-clause-sha256 : goal.returns-clause-sha256
returns-clause-sha256 c = sha256_spells

pub returns-clause-x509_sha256 : goal.returns-clause-x509_sha256
returns-clause-x509_sha256 c = x509_sha256_spells

pub returns-clause-x509 : goal.returns-clause-x509
returns-clause-x509 c = x509_spells
