use Rattle.store_writes.proofs.listing.revoke.Goals as goal

pub returns-in-Digest-clause-value : goal.returns-in-Digest-clause-value
returns-in-Digest-clause-value g c clean inside = rw c.in-Digest.is (c.revoke_digest.ensures.value clean inside)

pub returns-in-Certificate-clause-value : goal.returns-in-Certificate-clause-value
returns-in-Certificate-clause-value g c clean inside = rw c.in-Certificate.is (c.revoke_certificate.ensures.value clean inside)
