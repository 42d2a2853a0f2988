-- After an accepted call each counted table has fewer rows than a u64 counts.
use Rattle.std.proofs.Common.{◌≡◌, ℕ, ◌<◌, ◌≤◌, Bool, true, ◌&&◌, List, ◌∷◌, length, arith}
use Rattle.std.specs.Prelude.{nat_le}
use Rattle.std.proofs.lemmas.Bool.{and_parts}
use Rattle.std.proofs.lemmas.Bool.Decides.{nat_tests}
use Rattle.std.proofs.lemmas.List.{length-map}
use Rattle.desk_types.specs.declared.kind.ListedKind.TheVariants as kinds
use Rattle.desk_history.specs.Calls.{History, Item, distinct}
use Rattle.desk_history.specs.Level.{generations, names}
use Rattle.desk_history.specs.Limits.{most_calls, most_level_components, most_listed, most_people, most_proposals, most_requests, most_revoked_certificates, most_revoked_digests}
use Rattle.desk_history.specs.Listing.{listed}
use Rattle.desk_history.specs.People.{people}
use Rattle.desk_history.specs.Proposals.{proposal_state, proposals}
use Rattle.desk_history.specs.Replies.{minutes}
use Rattle.desk_history.specs.Requests.{requests, state}
use Rattle.desk_history.specs.Revocations.{revocations}
use Rattle.desk_history.specs.Runs.{is_legal}
use Rattle.desk_history.specs.Tables.{level_row, proposal_row, request_row, tables}
use Rattle.desk_history.proofs.RunLemmas.{Within, legal_parts, newest}
use Rattle.desk_rules.specs.declared.view.LimitedTable.{LimitedTable}
use Rattle.desk_rules.specs.declared.view.LimitedTable.TheVariants as counted
use Rattle.desk_rules.specs.Shown.{rows_in}
use Rattle.desk_rules.proofs.RoomLemmas.{minutes_length}

below : (n most : ℕ) → nat_le n most ≡ true → most ≤ 1000000 → n < 18446744073709551616
below n most h few = grind (arith, nat_tests, h, few)

-- the last of eight
last : (a b d e f g h m : Bool) → (a && b && d && e && f && g && h && m) ≡ true → m ≡ true
last a b d e f g h m all = (and_parts (a && b && d && e && f && g && h) m all).1

module _ (owner : List ℕ) (cs : History) (i : Item) (legal : is_legal (i ∷ cs) ≡ true) where
  abbrev later : History
  later = i ∷ cs

  within : Within later
  within = legal_parts later legal

  pub few_rows : (table : LimitedTable) → rows_in (tables owner (i ∷ cs)) table < 18446744073709551616
  few_rows counted.People = below (length (people later)) most_people within.people (omega arith)
  few_rows counted.Requests = rw (length-map (requests later) (λ r. request_row (state later r.number) r)) (below (length (requests later)) most_requests within.requests (omega arith))
  few_rows counted.Listed = below (length (listed later)) most_listed within.listed (omega arith)
  few_rows counted.RevokedDigests = below (length (distinct (revocations kinds.Digest later))) most_revoked_digests within.digests (omega arith)
  few_rows counted.RevokedCertificates = below (length (distinct (revocations kinds.Certificate later))) most_revoked_certificates within.certificates (omega arith)
  few_rows counted.Components = rw (length-map (names (generations later)) (level_row (generations later))) (below (length (names (generations later))) most_level_components within.components (omega arith))
  few_rows counted.Proposals = rw (length-map (proposals later) (λ p. proposal_row (proposal_state later p.number) p)) (below (length (proposals later)) most_proposals within.proposals (omega arith))

  few : nat_le (length later) most_calls ≡ true
  few =
      last (nat_le (length (people later)) most_people) (nat_le (length (requests later)) most_requests) (nat_le (length (proposals later)) most_proposals) (nat_le (length (listed later)) most_listed)
      (nat_le (length (distinct (revocations kinds.Digest later))) most_revoked_digests) (nat_le (length (distinct (revocations kinds.Certificate later))) most_revoked_certificates)
      (nat_le (length (names (generations later))) most_level_components) (nat_le (length later) most_calls) (newest cs i legal).new.within

  pub few_calls : length (minutes (i ∷ cs)) < 18446744073709551616
  few_calls = rw (minutes_length later) (below (length later) most_calls few (omega arith))
