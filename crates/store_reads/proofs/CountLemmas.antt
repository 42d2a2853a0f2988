-- The answer of a count, for each thing that is counted.
use Rattle.std.proofs.Common.{◌≡◌, ℕ, List, [], ◌∷◌, codes, Result, Ok, Err, IfOk, refl}
use Rattle.sqlite.specs.Order.{Row}
use Rattle.sqlite.specs.State.{State}
use Rattle.sqlite.specs.declared.types.Value.TheVariants.{Text}
use Rattle.store_schema.specs.rows.Values as values
use Rattle.desk_history.specs.Calls.{is_same_kind}
use Rattle.desk_history.specs.Requests.{is_state}
use Rattle.desk_history.specs.Tables.{Tables}
use Rattle.store_schema.specs.Named.{equals}
use Rattle.store_schema.specs.Tables as tables
use Rattle.store_schema.specs.declared.counting.TheConstants as texts
use Rattle.store_schema.proofs.CountFacts as facts
use Rattle.desk_types.specs.Words.{kind_text, state_text}
use Rattle.store_reads.specs.Counting.{count_params, count_text, counted}
use Rattle.store_reads.specs.Reads.{IsCounted, ReadsTables}
use Rattle.store_reads.specs.declared.counts.Counted.{Counted}
use Rattle.store_reads.specs.declared.counts.Counted.TheVariants as what
use Rattle.store_reads.specs.declared.fault.ReadFault.{ReadFault}
use Rattle.store_reads.proofs.FindLemmas.{tells_count, tells_count_of}
use Rattle.store_reads.proofs.KeyLemmas.{is_in, is_of_kind}

tells : (asked : Counted) (old new : State) (n : ℕ) → IsCounted (count_text asked) (count_params asked) n old new → ReadsTables (λ t. n ≡ counted asked t) old new
tells what.People = tells_count 1 tables.people texts.COUNT_PEOPLE.now (codes "count(*)" ∷ []) facts.count_people values.person_values (λ (t : Tables). t.people) (λ t. refl)
tells what.Calls = tells_count 2 tables.calls texts.COUNT_CALLS.now (codes "count(*)" ∷ []) facts.count_calls values.call_values (λ (t : Tables). t.calls) (λ t. refl)
tells what.Requests = tells_count 3 tables.requests texts.COUNT_REQUESTS.now (codes "count(*)" ∷ []) facts.count_requests values.request_values (λ (t : Tables). t.requests) (λ t. refl)
tells (what.RequestsIn state) = tells_count_of 3 tables.requests texts.COUNT_REQUESTS_IN.now (equals tables.requests (codes "state") 0 ∷ []) (codes "count(*)" ∷ []) facts.count_requests_in values.request_values (λ (t : Tables). t.requests) (λ t. refl)
    (Text (state_text state) ∷ []) (λ r. is_state state r.state) (is_in state)
tells what.Listed = tells_count 8 tables.listed texts.COUNT_LISTED.now (codes "count(*)" ∷ []) facts.count_listed values.entry_values (λ (t : Tables). t.listed) (λ t. refl)
tells (what.ListedOf kind) = tells_count_of 8 tables.listed texts.COUNT_LISTED_OF.now (equals tables.listed (codes "kind") 0 ∷ []) (codes "count(*)" ∷ []) facts.count_listed_of values.entry_values (λ (t : Tables). t.listed) (λ t. refl)
    (Text (kind_text kind) ∷ []) (λ e. is_same_kind kind e.kind) (is_of_kind kind)
tells what.RevokedDigests = tells_count 9 tables.revoked_digests texts.COUNT_REVOKED_DIGESTS.now (codes "count(*)" ∷ []) facts.count_revoked_digests values.digest_values (λ (t : Tables). t.revoked_digests) (λ t. refl)
tells what.RevokedCertificates = tells_count 10 tables.revoked_certificates texts.COUNT_REVOKED_CERTIFICATES.now (codes "count(*)" ∷ []) facts.count_revoked_certificates values.digest_values (λ (t : Tables). t.revoked_certificates) (λ t. refl)
tells what.Components = tells_count 11 tables.components texts.COUNT_COMPONENTS.now (codes "count(*)" ∷ []) facts.count_components values.component_values (λ (t : Tables). t.components) (λ t. refl)
tells what.Proposals = tells_count 12 tables.proposals texts.COUNT_PROPOSALS.now (codes "count(*)" ∷ []) facts.count_proposals values.proposal_values (λ (t : Tables). t.proposals) (λ t. refl)

pub tells_counted : (asked : Counted) (text : List ℕ) (params : Row) (old new : State) (result : Result ℕ ReadFault) → text ≡ count_text asked → params ≡ count_params asked
    → IfOk result (λ n. IsCounted text params n old new) → IfOk result (λ n. ReadsTables (λ t. n ≡ counted asked t) old new)
tells_counted asked text params old new (Ok n) is_text is_params h = tells asked old new n (rw (is_text, is_params) at h)
tells_counted asked text params old new (Err e) is_text is_params h = tt
