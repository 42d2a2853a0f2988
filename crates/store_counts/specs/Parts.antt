-- Groups of a desk's counts.
use Rattle.std.specs.Prelude.{◌≡◌, count_by}
use Rattle.desk_types.specs.declared.state.State.TheVariants as states
use Rattle.desk_history.specs.Requests.{is_state}
use Rattle.desk_history.specs.Tables.{Tables}
use Rattle.store_counts.specs.declared.counting.Ended.{Ended}
use Rattle.store_counts.specs.declared.counting.Waiting.{Waiting}

-- the requests that wait: for votes, and for the signed file
pub record CountWaiting (n : Waiting) (t : Tables) : Type 0 where
  pub still_open : n.still_open ≡ count_by (λ r. is_state states.Open r.state) t.requests
  pub approved : n.approved ≡ count_by (λ r. is_state states.Approved r.state) t.requests

-- the requests that are closed
pub record CountEnded (n : Ended) (t : Tables) : Type 0 where
  pub rejected : n.rejected ≡ count_by (λ r. is_state states.Rejected r.state) t.requests
  pub withdrawn : n.withdrawn ≡ count_by (λ r. is_state states.Withdrawn r.state) t.requests
  pub signed : n.signed ≡ count_by (λ r. is_state states.Signed r.state) t.requests
