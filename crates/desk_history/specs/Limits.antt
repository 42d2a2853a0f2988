-- Limits of a desk.
use Rattle.std.specs.Prelude.{ℕ, Bool, ◌&&◌, nat_le, length}
use Rattle.desk_types.specs.declared.kind.ListedKind.TheVariants as kinds
use Rattle.desk_history.specs.Calls.{History, distinct}
use Rattle.desk_history.specs.Level.{generations, names}
use Rattle.desk_history.specs.Listing.{listed}
use Rattle.desk_history.specs.People.{people}
use Rattle.desk_history.specs.Proposals.{proposals}
use Rattle.desk_history.specs.Requests.{requests}
use Rattle.desk_history.specs.Revocations.{revocations}

-- own: the most people of a desk
abbrev pub most_people : ℕ
most_people = 1000

-- own: the most requests
abbrev pub most_requests : ℕ
most_requests = 100000

-- own: the most proposals, closed ones included
abbrev pub most_proposals : ℕ
most_proposals = 100000

-- own: the most listed entries, of images and certificates together
abbrev pub most_listed : ℕ
most_listed = 10000

-- own: the most revoked digests of images
abbrev pub most_revoked_digests : ℕ
most_revoked_digests = 100000

-- own: the most revoked certificates
abbrev pub most_revoked_certificates : ℕ
most_revoked_certificates = 10000

-- own: the most components of the level, not counting `sbat`
abbrev pub most_level_components : ℕ
most_level_components = 10000

-- own: the most accepted calls
abbrev pub most_calls : ℕ
most_calls = 1000000

-- the desk is within its limits
abbrev pub is_within : History → Bool
is_within cs =
    nat_le (length (people cs)) most_people
    && nat_le (length (requests cs)) most_requests
    && nat_le (length (proposals cs)) most_proposals
    && nat_le (length (listed cs)) most_listed
    && nat_le (length (distinct (revocations kinds.Digest cs))) most_revoked_digests
    && nat_le (length (distinct (revocations kinds.Certificate cs))) most_revoked_certificates
    && nat_le (length (names (generations cs))) most_level_components
    && nat_le (length cs) most_calls
