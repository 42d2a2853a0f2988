-- own: the counts of a desk, as a text.
use Rattle.std.specs.Prelude.{ℕ, ◌-◌, List, ◌++◌, codes, count_by, decimal, length, replicate}
use Rattle.desk_types.specs.declared.kind.ListedKind.{ListedKind}
use Rattle.desk_types.specs.declared.kind.ListedKind.TheVariants as kinds
use Rattle.desk_types.specs.declared.state.State.{State}
use Rattle.desk_types.specs.declared.state.State.TheVariants as states
use Rattle.desk_history.specs.Calls.{History, distinct, is_same_kind}
use Rattle.desk_history.specs.Level.{generations, names, stamp}
use Rattle.desk_history.specs.Listing.{listed}
use Rattle.desk_history.specs.People.{people}
use Rattle.desk_history.specs.Requests.{is_state, requests, state}
use Rattle.desk_history.specs.Revocations.{revocations}

-- the number of requests in this state
abbrev pub count_in : State → History → ℕ
count_in s cs = count_by (λ r. is_state s (state cs r.number)) (requests cs)

-- the number of listed entries of this kind
abbrev pub count_listed : ListedKind → History → ℕ
count_listed kind cs = count_by (λ e. is_same_kind kind e.kind) (listed cs)

-- the label at the left in 24 places, the number at the right in 10, and LF
abbrev pub line : List ℕ → ℕ → List ℕ
line label number =
    label ++ replicate (24 - length label) 32 ++ replicate (10 - length (decimal number)) 32 ++ decimal number ++ codes "\n"

-- the fourteen lines
abbrev pub report : History → List ℕ
report cs =
    line (codes "people") (length (people cs))
    ++ line (codes "requests") (length (requests cs))
    ++ line (codes "open") (count_in states.Open cs)
    ++ line (codes "approved") (count_in states.Approved cs)
    ++ line (codes "rejected") (count_in states.Rejected cs)
    ++ line (codes "withdrawn") (count_in states.Withdrawn cs)
    ++ line (codes "signed") (count_in states.Signed cs)
    ++ line (codes "listed digests") (count_listed kinds.Digest cs)
    ++ line (codes "listed certificates") (count_listed kinds.Certificate cs)
    ++ line (codes "revoked digests") (length (distinct (revocations kinds.Digest cs)))
    ++ line (codes "revoked certificates") (length (distinct (revocations kinds.Certificate cs)))
    ++ line (codes "level components") (length (names (generations cs)))
    ++ line (codes "commands") (length cs)
    ++ line (codes "stamp") (stamp cs)
