-- Room in the tables for the writes of a decision.
use Rattle.std.specs.Prelude.{◌≡◌, ◌≤◌, ◌⊎◌, ℕ, ◌+◌, ◌==◌, Bool, true, false, ◌&&◌, ◌||◌, nat_le, List, ◌∷◌, length, count_by}
use Rattle.std.specs.List.{list_any}
use Rattle.desk_types.specs.declared.command.Call.{Call}
use Rattle.desk_history.specs.declared.write.Write.{Write}
use Rattle.desk_history.specs.declared.write.Write.TheVariants as writes
use Rattle.desk_types.specs.declared.kind.ListedKind.{ListedKind}
use Rattle.desk_types.specs.declared.kind.ListedKind.TheVariants as kinds
use Rattle.desk_history.specs.Calls.{History, is_same_kind, item}
use Rattle.desk_history.specs.Listing.{listed}
use Rattle.desk_history.specs.Limits.{most_calls, most_level_components, most_listed, most_people, most_proposals, most_requests, most_revoked_certificates, most_revoked_digests}
use Rattle.desk_rules.specs.declared.view.LimitedTable.{LimitedTable}
use Rattle.desk_rules.specs.declared.view.LimitedTable.TheVariants as counted
use Rattle.desk_rules.specs.declared.view.Sizes.{Sizes}

-- the write revokes a digest of this kind
abbrev pub revokes : ListedKind → Write → Bool
revokes kind (writes.Revoke l) = is_same_kind kind l.kind
revokes kind _ = false

-- the write inserts a row into the table
abbrev pub puts : LimitedTable → Write → Bool
puts counted.People (writes.Person p) = true
puts counted.Requests (writes.Request r) = true
puts counted.Listed (writes.List e) = true
puts counted.RevokedDigests w = revokes kinds.Digest w
puts counted.RevokedCertificates w = revokes kinds.Certificate w
puts counted.Components (writes.Component x) = true
puts counted.Proposals (writes.Propose p) = true
puts _ _ = false

-- the write takes an entry off the list
abbrev pub takes_off : Write → Bool
takes_off (writes.Unlist l) = true
takes_off _ = false

-- a table of this size has room for `count` more rows; if there are none, its size doesn't matter
abbrev pub fits : ℕ → ℕ → ℕ → Bool
fits count size most = (count == 0) || nat_le (count + size) most

-- own: tables of these sizes have room for the rows that a command's writes insert, and for the
-- call's own
abbrev pub has_room : Sizes → List Write → Bool
has_room s ws =
    fits (count_by (puts counted.People) ws) s.people most_people
    && fits (count_by (puts counted.Requests) ws) s.requests most_requests
    && fits (count_by (puts counted.Proposals) ws) s.proposals most_proposals
    && fits (count_by (puts counted.Listed) ws) s.listed most_listed
    && fits (count_by (puts counted.RevokedDigests) ws) s.revoked_digests most_revoked_digests
    && fits (count_by (puts counted.RevokedCertificates) ws) s.revoked_certificates most_revoked_certificates
    && fits (count_by (puts counted.Components) ws) s.components most_level_components
    && nat_le (1 + s.calls) most_calls

-- the writes take no listed entry off the list, or they insert none and no more is listed after the
-- call than before
abbrev pub IsRoomed : List Write → History → Call → Type 0
IsRoomed ws cs c = (list_any takes_off ws ≡ false) ⊎ ((count_by (puts counted.Listed) ws ≡ 0) × (length (listed (item c ∷ cs)) ≤ length (listed cs)))
