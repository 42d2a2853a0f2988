-- The report of the counts.
use Rattle.std.specs.Prelude.{ℕ, List, ◌++◌, codes}
use Rattle.store_counts.specs.declared.numbers.Counts.{Counts}
use Rattle.store_counts.specs.declared.numbers.ListCounts.{ListCounts}
use Rattle.store_counts.specs.declared.numbers.RequestCounts.{RequestCounts}
use Rattle.desk_exports.specs.Reports.{line}

-- the lines of the people and of the requests
unfoldable pub front_lines : ℕ → RequestCounts → List ℕ
front_lines people n = line (codes "people") people ++ line (codes "requests") n.all

-- the lines of the states
unfoldable pub state_lines : RequestCounts → List ℕ
state_lines n =
    line (codes "open") n.still_open
    ++ line (codes "approved") n.approved
    ++ line (codes "rejected") n.rejected
    ++ line (codes "withdrawn") n.withdrawn
    ++ line (codes "signed") n.signed

-- the lines of the listed and revoked entries
unfoldable pub list_lines : ListCounts → List ℕ
list_lines n =
    line (codes "listed digests") n.listed.digests
    ++ line (codes "listed certificates") n.listed.certificates
    ++ line (codes "revoked digests") n.revoked.digests
    ++ line (codes "revoked certificates") n.revoked.certificates

-- the lines of the level's components, the accepted calls and the stamp
unfoldable pub end_lines : ListCounts → ℕ → List ℕ
end_lines n calls = line (codes "level components") n.components ++ line (codes "commands") calls ++ line (codes "stamp") n.stamp

-- the fourteen lines
abbrev pub report_of : Counts → List ℕ
report_of n = front_lines n.people n.requests ++ state_lines n.requests ++ list_lines n.lists ++ end_lines n.lists n.calls
