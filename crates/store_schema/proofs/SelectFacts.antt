-- What each text means, told by computing: SELECT. Other tables and indexes may come after the desk's.
use Rattle.std.proofs.Common.{[], ◌∷◌, codes, refl, subst, sym}
use Rattle.sqlite.specs.Listing.{understood}
use Rattle.sqlite_tied.specs.Compute.{everything}
use Rattle.store_sql.specs.Meanings.{SelectsIn, SelectsRows}
use Rattle.store_sql.proofs.BesideLemmas.{beside_any}
use Rattle.store_sql.proofs.LayoutLemmas.{is_alone}
use Rattle.store_schema.specs.Columns.{by_first, columns_after, columns_of, names_of}
use Rattle.store_schema.specs.Named.{column_named, equals}
use Rattle.store_schema.specs.Tables.{desk_layout, first_layout, first_schema, desk, people, calls, requests, request_certificates, request_components, votes, returns, listed, revoked_digests, revoked_certificates, components, proposals, proposal_items}
use Rattle.store_schema.specs.declared.selecting.TheConstants.{SELECT_DESK, SELECT_PERSON, SELECT_PERSON_OF_TOKEN, SELECT_PEOPLE, SELECT_CALL, SELECT_CALL_NUMBERED, SELECT_CALLS, SELECT_REQUEST, SELECT_NUMBERS_OF_FILE, SELECT_NUMBERS_OF_DIGEST, SELECT_NUMBERS_OF_SIGNING, SELECT_REQUEST_CERTIFICATES, SELECT_NUMBERS_OF_CERTIFICATE, SELECT_REQUEST_COMPONENTS, SELECT_VOTES, SELECT_RETURN, SELECT_NUMBERS_OF_RETURNED_FILE, SELECT_NUMBERS_OF_RETURNED_DIGEST, SELECT_LISTED, SELECT_LISTED_OF, SELECT_REVOKED_DIGEST, SELECT_REVOKED_DIGESTS, SELECT_REVOKED_CERTIFICATE, SELECT_REVOKED_CERTIFICATES, SELECT_COMPONENT, SELECT_COMPONENTS, SELECT_PROPOSAL, SELECT_PROPOSALS, SELECT_PROPOSAL_ITEMS}

pub select_desk : SelectsRows desk_layout 0 desk SELECT_DESK.now [] (by_first 1 desk) (columns_after 1 desk) (names_of desk)
unfolding understood everything
select_desk = beside_any desk_layout _ (λ others refer. record { place = refl; means = refl; unlisted = refl; plain = (refl, refl); overlooks = λ _. tt; passes_over = λ _. tt })

-- the same where the tables are those of version 1 and no others
pub select_first_desk : SelectsRows first_layout 0 desk SELECT_DESK.now [] (by_first 1 desk) (columns_after 1 desk) (names_of desk)
unfolding understood everything
select_first_desk schema fits = subst (λ s. SelectsIn s 0 desk SELECT_DESK.now [] (by_first 1 desk) (columns_after 1 desk) (names_of desk)) (sym (is_alone first_schema schema fits))
    (record { place = refl; means = refl; unlisted = refl; plain = (refl, refl); overlooks = λ _. tt; passes_over = λ _. tt })

pub select_person : SelectsRows desk_layout 1 people SELECT_PERSON.now (equals people (codes "name") 0 ∷ []) [] (columns_of people) (names_of people)
unfolding understood everything
select_person = beside_any desk_layout _ (λ others refer. record { place = refl; means = refl; unlisted = refl; plain = (refl, refl); overlooks = λ _ _ _. refl; passes_over = λ _ _ _. refl })

pub select_person_of_token : SelectsRows desk_layout 1 people SELECT_PERSON_OF_TOKEN.now (equals people (codes "token") 0 ∷ []) [] (columns_of people) (names_of people)
unfolding understood everything
select_person_of_token = beside_any desk_layout _ (λ others refer. record { place = refl; means = refl; unlisted = refl; plain = (refl, refl); overlooks = λ _ _ _. refl; passes_over = λ _ _ _. refl })

pub select_people : SelectsRows desk_layout 1 people SELECT_PEOPLE.now [] (by_first 1 people) (columns_after 1 people) (names_of people)
unfolding understood everything
select_people = beside_any desk_layout _ (λ others refer. record { place = refl; means = refl; unlisted = refl; plain = (refl, refl); overlooks = λ _ _ _. refl; passes_over = λ _ _ _. refl })

pub select_call : SelectsRows desk_layout 2 calls SELECT_CALL.now (equals calls (codes "caller") 0 ∷ equals calls (codes "key") 1 ∷ []) [] (columns_of calls) (names_of calls)
unfolding understood everything
select_call = beside_any desk_layout _ (λ others refer. record { place = refl; means = refl; unlisted = refl; plain = (refl, refl); overlooks = λ _. tt; passes_over = λ _. tt })

pub select_call_numbered : SelectsRows desk_layout 2 calls SELECT_CALL_NUMBERED.now (equals calls (codes "no") 0 ∷ []) [] (columns_of calls) (names_of calls)
unfolding understood everything
select_call_numbered = beside_any desk_layout _ (λ others refer. record { place = refl; means = refl; unlisted = refl; plain = (refl, refl); overlooks = λ _. tt; passes_over = λ _. tt })

pub select_calls : SelectsRows desk_layout 2 calls SELECT_CALLS.now [] (by_first 1 calls) (columns_after 1 calls) (names_of calls)
unfolding understood everything
select_calls = beside_any desk_layout _ (λ others refer. record { place = refl; means = refl; unlisted = refl; plain = (refl, refl); overlooks = λ _. tt; passes_over = λ _. tt })

pub select_request : SelectsRows desk_layout 3 requests SELECT_REQUEST.now (equals requests (codes "no") 0 ∷ []) [] (columns_of requests) (names_of requests)
unfolding understood everything
select_request = beside_any desk_layout _ (λ others refer. record { place = refl; means = refl; unlisted = refl; plain = (refl, refl); overlooks = λ _. tt; passes_over = λ _. tt })

pub select_numbers_of_file : SelectsRows desk_layout 3 requests SELECT_NUMBERS_OF_FILE.now (equals requests (codes "file") 0 ∷ []) [] (column_named requests (codes "no") ∷ []) (codes "no" ∷ [])
unfolding understood everything
select_numbers_of_file = beside_any desk_layout _ (λ others refer. record { place = refl; means = refl; unlisted = refl; plain = (refl, refl); overlooks = λ _. tt; passes_over = λ _. tt })

pub select_numbers_of_digest : SelectsRows desk_layout 3 requests SELECT_NUMBERS_OF_DIGEST.now (equals requests (codes "digest") 0 ∷ []) [] (column_named requests (codes "no") ∷ []) (codes "no" ∷ [])
unfolding understood everything
select_numbers_of_digest = beside_any desk_layout _ (λ others refer. record { place = refl; means = refl; unlisted = refl; plain = (refl, refl); overlooks = λ _. tt; passes_over = λ _. tt })

pub select_numbers_of_signing : SelectsRows desk_layout 3 requests SELECT_NUMBERS_OF_SIGNING.now (equals requests (codes "signing") 0 ∷ []) [] (column_named requests (codes "no") ∷ []) (codes "no" ∷ [])
unfolding understood everything
select_numbers_of_signing = beside_any desk_layout _ (λ others refer. record { place = refl; means = refl; unlisted = refl; plain = (refl, refl); overlooks = λ _. tt; passes_over = λ _. tt })

pub select_request_certificates : SelectsRows desk_layout 4 request_certificates SELECT_REQUEST_CERTIFICATES.now (equals request_certificates (codes "request") 0 ∷ []) (by_first 2 request_certificates) (columns_after 2 request_certificates) (names_of request_certificates)
unfolding understood everything
select_request_certificates = beside_any desk_layout _ (λ others refer. record { place = refl; means = refl; unlisted = refl; plain = (refl, refl); overlooks = λ _ _ _. refl; passes_over = λ _ _ _. refl })

pub select_numbers_of_certificate : SelectsRows desk_layout 4 request_certificates SELECT_NUMBERS_OF_CERTIFICATE.now (equals request_certificates (codes "digest") 0 ∷ []) [] (column_named request_certificates (codes "request") ∷ []) (codes "request" ∷ [])
unfolding understood everything
select_numbers_of_certificate = beside_any desk_layout _ (λ others refer. record { place = refl; means = refl; unlisted = refl; plain = (refl, refl); overlooks = λ _ _ _. refl; passes_over = λ _ _ _. refl })

pub select_request_components : SelectsRows desk_layout 5 request_components SELECT_REQUEST_COMPONENTS.now (equals request_components (codes "request") 0 ∷ []) (by_first 2 request_components) (columns_after 2 request_components) (names_of request_components)
unfolding understood everything
select_request_components = beside_any desk_layout _ (λ others refer. record { place = refl; means = refl; unlisted = refl; plain = (refl, refl); overlooks = λ _ _ _. refl; passes_over = λ _ _ _. refl })

pub select_votes : SelectsRows desk_layout 6 votes SELECT_VOTES.now (equals votes (codes "request") 0 ∷ []) (by_first 2 votes) (columns_after 2 votes) (names_of votes)
unfolding understood everything
select_votes = beside_any desk_layout _ (λ others refer. record { place = refl; means = refl; unlisted = refl; plain = (refl, refl); overlooks = λ _ _ _. refl; passes_over = λ _ _ _. refl })

pub select_return : SelectsRows desk_layout 7 returns SELECT_RETURN.now (equals returns (codes "request") 0 ∷ []) [] (columns_of returns) (names_of returns)
unfolding understood everything
select_return = beside_any desk_layout _ (λ others refer. record { place = refl; means = refl; unlisted = refl; plain = (refl, refl); overlooks = λ _. tt; passes_over = λ _. tt })

pub select_numbers_of_returned_file : SelectsRows desk_layout 7 returns SELECT_NUMBERS_OF_RETURNED_FILE.now (equals returns (codes "file") 0 ∷ []) [] (column_named returns (codes "request") ∷ []) (codes "request" ∷ [])
unfolding understood everything
select_numbers_of_returned_file = beside_any desk_layout _ (λ others refer. record { place = refl; means = refl; unlisted = refl; plain = (refl, refl); overlooks = λ _. tt; passes_over = λ _. tt })

pub select_numbers_of_returned_digest : SelectsRows desk_layout 7 returns SELECT_NUMBERS_OF_RETURNED_DIGEST.now (equals returns (codes "digest") 0 ∷ []) [] (column_named returns (codes "request") ∷ []) (codes "request" ∷ [])
unfolding understood everything
select_numbers_of_returned_digest = beside_any desk_layout _ (λ others refer. record { place = refl; means = refl; unlisted = refl; plain = (refl, refl); overlooks = λ _. tt; passes_over = λ _. tt })

pub select_listed : SelectsRows desk_layout 8 listed SELECT_LISTED.now (equals listed (codes "kind") 0 ∷ equals listed (codes "digest") 1 ∷ []) [] (columns_of listed) (names_of listed)
unfolding understood everything
select_listed = beside_any desk_layout _ (λ others refer. record { place = refl; means = refl; unlisted = refl; plain = (refl, refl); overlooks = λ _ _ _. refl; passes_over = λ _ _ _. refl })

pub select_listed_of : SelectsRows desk_layout 8 listed SELECT_LISTED_OF.now (equals listed (codes "kind") 0 ∷ []) (by_first 2 listed) (columns_after 2 listed) (names_of listed)
unfolding understood everything
select_listed_of = beside_any desk_layout _ (λ others refer. record { place = refl; means = refl; unlisted = refl; plain = (refl, refl); overlooks = λ _ _ _. refl; passes_over = λ _ _ _. refl })

pub select_revoked_digest : SelectsRows desk_layout 9 revoked_digests SELECT_REVOKED_DIGEST.now (equals revoked_digests (codes "digest") 0 ∷ []) [] (columns_of revoked_digests) (names_of revoked_digests)
unfolding understood everything
select_revoked_digest = beside_any desk_layout _ (λ others refer. record { place = refl; means = refl; unlisted = refl; plain = (refl, refl); overlooks = λ _ _ _. refl; passes_over = λ _ _ _. refl })

pub select_revoked_digests : SelectsRows desk_layout 9 revoked_digests SELECT_REVOKED_DIGESTS.now [] (by_first 1 revoked_digests) (columns_after 1 revoked_digests) (names_of revoked_digests)
unfolding understood everything
select_revoked_digests = beside_any desk_layout _ (λ others refer. record { place = refl; means = refl; unlisted = refl; plain = (refl, refl); overlooks = λ _ _ _. refl; passes_over = λ _ _ _. refl })

pub select_revoked_certificate : SelectsRows desk_layout 10 revoked_certificates SELECT_REVOKED_CERTIFICATE.now (equals revoked_certificates (codes "digest") 0 ∷ []) [] (columns_of revoked_certificates) (names_of revoked_certificates)
unfolding understood everything
select_revoked_certificate = beside_any desk_layout _ (λ others refer. record { place = refl; means = refl; unlisted = refl; plain = (refl, refl); overlooks = λ _ _ _. refl; passes_over = λ _ _ _. refl })

pub select_revoked_certificates : SelectsRows desk_layout 10 revoked_certificates SELECT_REVOKED_CERTIFICATES.now [] (by_first 1 revoked_certificates) (columns_after 1 revoked_certificates) (names_of revoked_certificates)
unfolding understood everything
select_revoked_certificates = beside_any desk_layout _ (λ others refer. record { place = refl; means = refl; unlisted = refl; plain = (refl, refl); overlooks = λ _ _ _. refl; passes_over = λ _ _ _. refl })

pub select_component : SelectsRows desk_layout 11 components SELECT_COMPONENT.now (equals components (codes "name") 0 ∷ []) [] (columns_of components) (names_of components)
unfolding understood everything
select_component = beside_any desk_layout _ (λ others refer. record { place = refl; means = refl; unlisted = refl; plain = (refl, refl); overlooks = λ _ _ _. refl; passes_over = λ _ _ _. refl })

pub select_components : SelectsRows desk_layout 11 components SELECT_COMPONENTS.now [] (by_first 1 components) (columns_after 1 components) (names_of components)
unfolding understood everything
select_components = beside_any desk_layout _ (λ others refer. record { place = refl; means = refl; unlisted = refl; plain = (refl, refl); overlooks = λ _ _ _. refl; passes_over = λ _ _ _. refl })

pub select_proposal : SelectsRows desk_layout 12 proposals SELECT_PROPOSAL.now (equals proposals (codes "no") 0 ∷ []) [] (columns_of proposals) (names_of proposals)
unfolding understood everything
select_proposal = beside_any desk_layout _ (λ others refer. record { place = refl; means = refl; unlisted = refl; plain = (refl, refl); overlooks = λ _. tt; passes_over = λ _. tt })

pub select_proposals : SelectsRows desk_layout 12 proposals SELECT_PROPOSALS.now [] (by_first 1 proposals) (columns_after 1 proposals) (names_of proposals)
unfolding understood everything
select_proposals = beside_any desk_layout _ (λ others refer. record { place = refl; means = refl; unlisted = refl; plain = (refl, refl); overlooks = λ _. tt; passes_over = λ _. tt })

pub select_proposal_items : SelectsRows desk_layout 13 proposal_items SELECT_PROPOSAL_ITEMS.now (equals proposal_items (codes "proposal") 0 ∷ []) (by_first 2 proposal_items) (columns_after 2 proposal_items) (names_of proposal_items)
unfolding understood everything
select_proposal_items = beside_any desk_layout _ (λ others refer. record { place = refl; means = refl; unlisted = refl; plain = (refl, refl); overlooks = λ _ _ _. refl; passes_over = λ _ _ _. refl })
