-- The counts of a desk's tables, and their SQL texts.
use Rattle.std.specs.Prelude.{ℕ, List, [], ◌∷◌, count_by, length}
use Rattle.sqlite.specs.declared.types.Value.TheVariants.{Text}
use Rattle.sqlite.specs.Order.{Row}
use Rattle.desk_types.specs.Words.{kind_text, state_text}
use Rattle.desk_history.specs.Calls.{is_same_kind}
use Rattle.desk_history.specs.Requests.{is_state}
use Rattle.desk_history.specs.Tables.{Tables}
use Rattle.store_schema.specs.declared.counting.TheConstants as texts
use Rattle.store_reads.specs.declared.counts.Counted.{Counted}
use Rattle.store_reads.specs.declared.counts.Counted.TheVariants as what

-- the count of the tables
abbrev pub counted : Counted → Tables → ℕ
counted what.People t = length t.people
counted what.Calls t = length t.calls
counted what.Requests t = length t.requests
counted (what.RequestsIn state) t = count_by (λ r. is_state state r.state) t.requests
counted what.Listed t = length t.listed
counted (what.ListedOf kind) t = count_by (λ e. is_same_kind kind e.kind) t.listed
counted what.RevokedDigests t = length t.revoked_digests
counted what.RevokedCertificates t = length t.revoked_certificates
counted what.Components t = length t.components
counted what.Proposals t = length t.proposals

-- the text of the count
abbrev pub count_text : Counted → List ℕ
count_text what.People = texts.COUNT_PEOPLE.now
count_text what.Calls = texts.COUNT_CALLS.now
count_text what.Requests = texts.COUNT_REQUESTS.now
count_text (what.RequestsIn state) = texts.COUNT_REQUESTS_IN.now
count_text what.Listed = texts.COUNT_LISTED.now
count_text (what.ListedOf kind) = texts.COUNT_LISTED_OF.now
count_text what.RevokedDigests = texts.COUNT_REVOKED_DIGESTS.now
count_text what.RevokedCertificates = texts.COUNT_REVOKED_CERTIFICATES.now
count_text what.Components = texts.COUNT_COMPONENTS.now
count_text what.Proposals = texts.COUNT_PROPOSALS.now

-- the parameters of the text
abbrev pub count_params : Counted → Row
count_params what.People = []
count_params what.Calls = []
count_params what.Requests = []
count_params (what.RequestsIn state) = Text (state_text state) ∷ []
count_params what.Listed = []
count_params (what.ListedOf kind) = Text (kind_text kind) ∷ []
count_params what.RevokedDigests = []
count_params what.RevokedCertificates = []
count_params what.Components = []
count_params what.Proposals = []
