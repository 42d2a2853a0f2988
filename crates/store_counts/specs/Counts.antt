-- The counts of a desk, of its tables and of its history.
use Rattle.std.specs.Prelude.{◌≡◌, count_by, length}
use Rattle.desk_types.specs.declared.kind.ListedKind.TheVariants as kinds
use Rattle.desk_types.specs.declared.state.State.TheVariants as states
use Rattle.desk_history.specs.Calls.{History, distinct, is_same_kind}
use Rattle.desk_history.specs.Level.{generations, names, stamp}
use Rattle.desk_history.specs.People.{people}
use Rattle.desk_history.specs.Requests.{is_state, requests}
use Rattle.desk_history.specs.Revocations.{revocations}
use Rattle.desk_history.specs.Tables.{Tables}
use Rattle.desk_exports.specs.Reports.{count_in, count_listed}
use Rattle.store_counts.specs.declared.numbers.Counts.{Counts}
use Rattle.store_counts.specs.declared.numbers.KindCounts.{KindCounts}
use Rattle.store_counts.specs.declared.numbers.ListCounts.{ListCounts}
use Rattle.store_counts.specs.declared.numbers.RequestCounts.{RequestCounts}

-- ---- of the tables

-- requests, and those in each state
pub record CountRequests (n : RequestCounts) (t : Tables) : Type 0 where
  pub all : n.all ≡ length t.requests
  pub still_open : n.still_open ≡ count_by (λ r. is_state states.Open r.state) t.requests
  pub approved : n.approved ≡ count_by (λ r. is_state states.Approved r.state) t.requests
  pub rejected : n.rejected ≡ count_by (λ r. is_state states.Rejected r.state) t.requests
  pub withdrawn : n.withdrawn ≡ count_by (λ r. is_state states.Withdrawn r.state) t.requests
  pub signed : n.signed ≡ count_by (λ r. is_state states.Signed r.state) t.requests

-- listed entries of each kind
pub record CountEntries (n : KindCounts) (t : Tables) : Type 0 where
  pub digests : n.digests ≡ count_by (λ e. is_same_kind kinds.Digest e.kind) t.listed
  pub certificates : n.certificates ≡ count_by (λ e. is_same_kind kinds.Certificate e.kind) t.listed

-- revoked digests of each kind
pub record CountRevoked (n : KindCounts) (t : Tables) : Type 0 where
  pub digests : n.digests ≡ length t.revoked_digests
  pub certificates : n.certificates ≡ length t.revoked_certificates

-- listed and revoked entries, and the level
pub record CountLists (n : ListCounts) (t : Tables) : Type 0 where
  pub listed : CountEntries n.listed t
  pub revoked : CountRevoked n.revoked t
  pub components : n.components ≡ length t.components
  pub stamp : n.stamp ≡ t.desk.stamp

-- all counts of a desk
pub record CountTables (n : Counts) (t : Tables) : Type 0 where
  pub people : n.people ≡ length t.people
  pub calls : n.calls ≡ length t.calls
  pub requests : CountRequests n.requests t
  pub lists : CountLists n.lists t

-- ---- of the history

-- the numbers of a history's report
pub record CountHistory (n : Counts) (cs : History) : Type 0 where
  pub people : n.people ≡ length (people cs)
  pub requests : n.requests.all ≡ length (requests cs)
  pub still_open : n.requests.still_open ≡ count_in states.Open cs
  pub approved : n.requests.approved ≡ count_in states.Approved cs
  pub rejected : n.requests.rejected ≡ count_in states.Rejected cs
  pub withdrawn : n.requests.withdrawn ≡ count_in states.Withdrawn cs
  pub signed : n.requests.signed ≡ count_in states.Signed cs
  pub listed_digests : n.lists.listed.digests ≡ count_listed kinds.Digest cs
  pub listed_certificates : n.lists.listed.certificates ≡ count_listed kinds.Certificate cs
  pub revoked_digests : n.lists.revoked.digests ≡ length (distinct (revocations kinds.Digest cs))
  pub revoked_certificates : n.lists.revoked.certificates ≡ length (distinct (revocations kinds.Certificate cs))
  pub components : n.lists.components ≡ length (names (generations cs))
  pub calls : n.calls ≡ length cs
  pub stamp : n.lists.stamp ≡ stamp cs
