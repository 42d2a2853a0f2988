-- What each text means, told by computing: count(*). Other tables and indexes may come after the desk's.
use Rattle.std.proofs.Common.{[], ◌∷◌, codes, refl}
use Rattle.sqlite.specs.Listing.{understood}
use Rattle.sqlite_tied.specs.Compute.{everything}
use Rattle.store_sql.specs.Meanings.{CountsRows}
use Rattle.store_sql.proofs.BesideLemmas.{beside_any}
use Rattle.store_schema.specs.Named.{equals}
use Rattle.store_schema.specs.Tables.{desk_layout, people, calls, requests, listed, revoked_digests, revoked_certificates, components, proposals}
use Rattle.store_schema.specs.declared.counting.TheConstants.{COUNT_PEOPLE, COUNT_CALLS, COUNT_REQUESTS, COUNT_REQUESTS_IN, COUNT_LISTED, COUNT_LISTED_OF, COUNT_REVOKED_DIGESTS, COUNT_REVOKED_CERTIFICATES, COUNT_COMPONENTS, COUNT_PROPOSALS}

pub count_people : CountsRows desk_layout 1 people COUNT_PEOPLE.now [] (codes "count(*)" ∷ [])
unfolding understood everything
count_people = beside_any desk_layout _ (λ others refer. record { place = refl; means = refl; unlisted = refl; plain = (refl, refl); overlooks = λ _ _ _. refl })

pub count_calls : CountsRows desk_layout 2 calls COUNT_CALLS.now [] (codes "count(*)" ∷ [])
unfolding understood everything
count_calls = beside_any desk_layout _ (λ others refer. record { place = refl; means = refl; unlisted = refl; plain = (refl, refl); overlooks = λ _. tt })

pub count_requests : CountsRows desk_layout 3 requests COUNT_REQUESTS.now [] (codes "count(*)" ∷ [])
unfolding understood everything
count_requests = beside_any desk_layout _ (λ others refer. record { place = refl; means = refl; unlisted = refl; plain = (refl, refl); overlooks = λ _. tt })

pub count_requests_in : CountsRows desk_layout 3 requests COUNT_REQUESTS_IN.now (equals requests (codes "state") 0 ∷ []) (codes "count(*)" ∷ [])
unfolding understood everything
count_requests_in = beside_any desk_layout _ (λ others refer. record { place = refl; means = refl; unlisted = refl; plain = (refl, refl); overlooks = λ _. tt })

pub count_listed : CountsRows desk_layout 8 listed COUNT_LISTED.now [] (codes "count(*)" ∷ [])
unfolding understood everything
count_listed = beside_any desk_layout _ (λ others refer. record { place = refl; means = refl; unlisted = refl; plain = (refl, refl); overlooks = λ _ _ _. refl })

pub count_listed_of : CountsRows desk_layout 8 listed COUNT_LISTED_OF.now (equals listed (codes "kind") 0 ∷ []) (codes "count(*)" ∷ [])
unfolding understood everything
count_listed_of = beside_any desk_layout _ (λ others refer. record { place = refl; means = refl; unlisted = refl; plain = (refl, refl); overlooks = λ _ _ _. refl })

pub count_revoked_digests : CountsRows desk_layout 9 revoked_digests COUNT_REVOKED_DIGESTS.now [] (codes "count(*)" ∷ [])
unfolding understood everything
count_revoked_digests = beside_any desk_layout _ (λ others refer. record { place = refl; means = refl; unlisted = refl; plain = (refl, refl); overlooks = λ _ _ _. refl })

pub count_revoked_certificates : CountsRows desk_layout 10 revoked_certificates COUNT_REVOKED_CERTIFICATES.now [] (codes "count(*)" ∷ [])
unfolding understood everything
count_revoked_certificates = beside_any desk_layout _ (λ others refer. record { place = refl; means = refl; unlisted = refl; plain = (refl, refl); overlooks = λ _ _ _. refl })

pub count_components : CountsRows desk_layout 11 components COUNT_COMPONENTS.now [] (codes "count(*)" ∷ [])
unfolding understood everything
count_components = beside_any desk_layout _ (λ others refer. record { place = refl; means = refl; unlisted = refl; plain = (refl, refl); overlooks = λ _ _ _. refl })

pub count_proposals : CountsRows desk_layout 12 proposals COUNT_PROPOSALS.now [] (codes "count(*)" ∷ [])
unfolding understood everything
count_proposals = beside_any desk_layout _ (λ others refer. record { place = refl; means = refl; unlisted = refl; plain = (refl, refl); overlooks = λ _. tt })
