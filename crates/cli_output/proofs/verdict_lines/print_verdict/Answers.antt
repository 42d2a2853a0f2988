use Rattle.cli_output.proofs.verdict_lines.print_verdict.Goals as goal

pub returns-in-DbxDigest-clause-ok : goal.returns-in-DbxDigest-clause-ok
returns-in-DbxDigest-clause-ok g c = rw c.in-DbxDigest.is c.put-in-DbxDigest.ensures.ok

pub returns-in-DbxDigest-clause-err : goal.returns-in-DbxDigest-clause-err
returns-in-DbxDigest-clause-err g c = rw c.in-DbxDigest.is c.put-in-DbxDigest.ensures.err

pub returns-in-DbxCertificate-clause-ok : goal.returns-in-DbxCertificate-clause-ok
returns-in-DbxCertificate-clause-ok g c = rw c.in-DbxCertificate.is c.put-in-DbxCertificate.ensures.ok

pub returns-in-DbxCertificate-clause-err : goal.returns-in-DbxCertificate-clause-err
returns-in-DbxCertificate-clause-err g c = rw c.in-DbxCertificate.is c.put-in-DbxCertificate.ensures.err

pub returns-in-NotListed-clause-ok : goal.returns-in-NotListed-clause-ok
returns-in-NotListed-clause-ok g c = rw c.in-NotListed.is c.put-in-NotListed.ensures.ok

pub returns-in-NotListed-clause-err : goal.returns-in-NotListed-clause-err
returns-in-NotListed-clause-err g c = rw c.in-NotListed.is c.put-in-NotListed.ensures.err
