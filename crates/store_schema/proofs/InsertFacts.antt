-- What each text means, told by computing: INSERT. Other tables and indexes may come after the desk's.
use Rattle.std.proofs.Common.{refl}
use Rattle.sqlite.specs.Listing.{understood}
use Rattle.sqlite_tied.specs.Compute.{everything}
use Rattle.store_sql.specs.Meanings.{InsertsRow}
use Rattle.store_sql.proofs.BesideLemmas.{beside_any}
use Rattle.store_schema.proofs.StandingFacts.{stands}
use Rattle.store_schema.specs.Columns.{values_of}
use Rattle.store_schema.specs.Tables.{desk_layout, desk, people, calls, requests, request_certificates, request_components, votes, returns, listed, revoked_digests, revoked_certificates, components, proposals, proposal_items, migrated}
use Rattle.store_schema.specs.declared.inserting.TheConstants.{INSERT_DESK, INSERT_PERSON, INSERT_CALL, INSERT_REQUEST, INSERT_REQUEST_CERTIFICATE, INSERT_REQUEST_COMPONENT, INSERT_VOTE, INSERT_RETURN, INSERT_LISTED, INSERT_REVOKED_DIGEST, INSERT_REVOKED_CERTIFICATE, INSERT_COMPONENT, INSERT_PROPOSAL, INSERT_PROPOSAL_ITEM, INSERT_MIGRATED}

pub insert_desk : InsertsRow desk_layout 0 desk INSERT_DESK.now (values_of desk)
unfolding understood everything
insert_desk = beside_any desk_layout _ (λ others refer. record { stands = stands others refer 0 desk refl refl; uncounted = refl; unstamped = refl; one = refl; means = refl; plain = (refl, refl) })

pub insert_person : InsertsRow desk_layout 1 people INSERT_PERSON.now (values_of people)
unfolding understood everything
insert_person = beside_any desk_layout _ (λ others refer. record { stands = stands others refer 1 people refl refl; uncounted = refl; unstamped = refl; one = refl; means = refl; plain = (refl, refl) })

pub insert_call : InsertsRow desk_layout 2 calls INSERT_CALL.now (values_of calls)
unfolding understood everything
insert_call = beside_any desk_layout _ (λ others refer. record { stands = stands others refer 2 calls refl refl; uncounted = refl; unstamped = refl; one = refl; means = refl; plain = (refl, refl) })

pub insert_request : InsertsRow desk_layout 3 requests INSERT_REQUEST.now (values_of requests)
unfolding understood everything
insert_request = beside_any desk_layout _ (λ others refer. record { stands = stands others refer 3 requests refl refl; uncounted = refl; unstamped = refl; one = refl; means = refl; plain = (refl, refl) })

pub insert_request_certificate : InsertsRow desk_layout 4 request_certificates INSERT_REQUEST_CERTIFICATE.now (values_of request_certificates)
unfolding understood everything
insert_request_certificate = beside_any desk_layout _ (λ others refer. record { stands = stands others refer 4 request_certificates refl refl; uncounted = refl; unstamped = refl; one = refl; means = refl; plain = (refl, refl) })

pub insert_request_component : InsertsRow desk_layout 5 request_components INSERT_REQUEST_COMPONENT.now (values_of request_components)
unfolding understood everything
insert_request_component = beside_any desk_layout _ (λ others refer. record { stands = stands others refer 5 request_components refl refl; uncounted = refl; unstamped = refl; one = refl; means = refl; plain = (refl, refl) })

pub insert_vote : InsertsRow desk_layout 6 votes INSERT_VOTE.now (values_of votes)
unfolding understood everything
insert_vote = beside_any desk_layout _ (λ others refer. record { stands = stands others refer 6 votes refl refl; uncounted = refl; unstamped = refl; one = refl; means = refl; plain = (refl, refl) })

pub insert_return : InsertsRow desk_layout 7 returns INSERT_RETURN.now (values_of returns)
unfolding understood everything
insert_return = beside_any desk_layout _ (λ others refer. record { stands = stands others refer 7 returns refl refl; uncounted = refl; unstamped = refl; one = refl; means = refl; plain = (refl, refl) })

pub insert_listed : InsertsRow desk_layout 8 listed INSERT_LISTED.now (values_of listed)
unfolding understood everything
insert_listed = beside_any desk_layout _ (λ others refer. record { stands = stands others refer 8 listed refl refl; uncounted = refl; unstamped = refl; one = refl; means = refl; plain = (refl, refl) })

pub insert_revoked_digest : InsertsRow desk_layout 9 revoked_digests INSERT_REVOKED_DIGEST.now (values_of revoked_digests)
unfolding understood everything
insert_revoked_digest = beside_any desk_layout _ (λ others refer. record { stands = stands others refer 9 revoked_digests refl refl; uncounted = refl; unstamped = refl; one = refl; means = refl; plain = (refl, refl) })

pub insert_revoked_certificate : InsertsRow desk_layout 10 revoked_certificates INSERT_REVOKED_CERTIFICATE.now (values_of revoked_certificates)
unfolding understood everything
insert_revoked_certificate = beside_any desk_layout _ (λ others refer. record { stands = stands others refer 10 revoked_certificates refl refl; uncounted = refl; unstamped = refl; one = refl; means = refl; plain = (refl, refl) })

pub insert_component : InsertsRow desk_layout 11 components INSERT_COMPONENT.now (values_of components)
unfolding understood everything
insert_component = beside_any desk_layout _ (λ others refer. record { stands = stands others refer 11 components refl refl; uncounted = refl; unstamped = refl; one = refl; means = refl; plain = (refl, refl) })

pub insert_proposal : InsertsRow desk_layout 12 proposals INSERT_PROPOSAL.now (values_of proposals)
unfolding understood everything
insert_proposal = beside_any desk_layout _ (λ others refer. record { stands = stands others refer 12 proposals refl refl; uncounted = refl; unstamped = refl; one = refl; means = refl; plain = (refl, refl) })

pub insert_proposal_item : InsertsRow desk_layout 13 proposal_items INSERT_PROPOSAL_ITEM.now (values_of proposal_items)
unfolding understood everything
insert_proposal_item = beside_any desk_layout _ (λ others refer. record { stands = stands others refer 13 proposal_items refl refl; uncounted = refl; unstamped = refl; one = refl; means = refl; plain = (refl, refl) })

pub insert_migrated : InsertsRow desk_layout 14 migrated INSERT_MIGRATED.now (values_of migrated)
unfolding understood everything
insert_migrated = beside_any desk_layout _ (λ others refer. record { stands = stands others refer 14 migrated refl refl; uncounted = refl; unstamped = refl; one = refl; means = refl; plain = (refl, refl) })
