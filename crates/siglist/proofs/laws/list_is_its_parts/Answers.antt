use Rattle.siglist.proofs.WritingLemmas.{sha256_row-parts, x509_sha256_row-parts}
use Rattle.siglist.proofs.laws.list_is_its_parts.Goals as goal

pub returns-clause-sha256 : goal.returns-clause-sha256
returns-clause-sha256 c = sha256_row-parts

pub returns-clause-x509_sha256 : goal.returns-clause-x509_sha256
returns-clause-x509_sha256 c = x509_sha256_row-parts
