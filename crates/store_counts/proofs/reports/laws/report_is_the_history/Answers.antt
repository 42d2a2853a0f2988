use Rattle.std.proofs.Common.{◌≡◌, ◌++◌, ◌∙◌, ℕ, List, codes, refl}
use Rattle.store_counts.specs.declared.numbers.Counts.{Counts}
use Rattle.desk_exports.specs.Reports.{line}
use Rattle.store_counts.specs.reports.Reports.{end_lines, front_lines, list_lines, report_of, state_lines}
use Rattle.store_counts.proofs.TextLemmas.{grouped}
use Rattle.store_counts.proofs.reports.laws.report_is_the_history.Goals as goal

abbrev fourteen : Counts → List ℕ
fourteen n =
    line (codes "people") n.people
    ++ line (codes "requests") n.requests.all
    ++ line (codes "open") n.requests.still_open
    ++ line (codes "approved") n.requests.approved
    ++ line (codes "rejected") n.requests.rejected
    ++ line (codes "withdrawn") n.requests.withdrawn
    ++ line (codes "signed") n.requests.signed
    ++ line (codes "listed digests") n.lists.listed.digests
    ++ line (codes "listed certificates") n.lists.listed.certificates
    ++ line (codes "revoked digests") n.lists.revoked.digests
    ++ line (codes "revoked certificates") n.lists.revoked.certificates
    ++ line (codes "level components") n.lists.components
    ++ line (codes "commands") n.calls
    ++ line (codes "stamp") n.lists.stamp

front : (n : Counts) → front_lines n.people n.requests ≡ line (codes "people") n.people ++ line (codes "requests") n.requests.all
unfolding front_lines
front n = refl

states : (n : Counts) → state_lines n.requests ≡ line (codes "open") n.requests.still_open ++ line (codes "approved") n.requests.approved ++ line (codes "rejected") n.requests.rejected ++ line (codes "withdrawn") n.requests.withdrawn ++ line (codes "signed") n.requests.signed
unfolding state_lines
states n = refl

lists : (n : Counts) → list_lines n.lists ≡ line (codes "listed digests") n.lists.listed.digests ++ line (codes "listed certificates") n.lists.listed.certificates ++ line (codes "revoked digests") n.lists.revoked.digests ++ line (codes "revoked certificates") n.lists.revoked.certificates
unfolding list_lines
lists n = refl

ends : (n : Counts) → end_lines n.lists n.calls ≡ line (codes "level components") n.lists.components ++ line (codes "commands") n.calls ++ line (codes "stamp") n.lists.stamp
unfolding end_lines
ends n = refl

flat : (n : Counts) → report_of n ≡ fourteen n
flat n =
    rw (front n, states n, lists n, ends n) (grouped
    (line (codes "people") n.people) (line (codes "requests") n.requests.all) (line (codes "open") n.requests.still_open)
    (line (codes "approved") n.requests.approved) (line (codes "rejected") n.requests.rejected) (line (codes "withdrawn") n.requests.withdrawn)
    (line (codes "signed") n.requests.signed) (line (codes "listed digests") n.lists.listed.digests) (line (codes "listed certificates") n.lists.listed.certificates)
    (line (codes "revoked digests") n.lists.revoked.digests) (line (codes "revoked certificates") n.lists.revoked.certificates) (line (codes "level components") n.lists.components)
    (line (codes "commands") n.calls) (line (codes "stamp") n.lists.stamp))

pub returns : goal.returns
returns c n cs h =
    flat n
    ∙ rw (
      h.people,
      h.requests,
      h.still_open,
      h.approved,
      h.rejected,
      h.withdrawn,
      h.signed,
      h.listed_digests,
      h.listed_certificates,
      h.revoked_digests,
      h.revoked_certificates,
      h.components,
      h.calls,
      h.stamp,
    ) refl
