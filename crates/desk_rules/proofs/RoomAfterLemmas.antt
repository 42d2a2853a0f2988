-- Room in the tables after a call, by what it writes.
use Rattle.std.proofs.Common.{◌≡◌, ◌⊎◌, ℕ, ◌+◌, ◌≤◌, Bool, true, false, ◌&&◌, List, ◌∷◌, length, sym, ◌∙◌, ap, inl, inr, arith}
use Rattle.std.specs.Prelude.{IsTrue, count_by, nat_le}
use Rattle.std.specs.List.{list_any}
use Rattle.std.proofs.lemmas.List.{length-map}
use Rattle.desk_types.specs.declared.kind.ListedKind.TheVariants as kinds
use Rattle.desk_history.specs.declared.write.Write.{Write}
use Rattle.desk_history.specs.Calls.{History, Item, distinct}
use Rattle.desk_history.specs.Level.{generations, names}
use Rattle.desk_history.specs.Limits.{is_within, most_calls, most_level_components, most_listed, most_people, most_proposals, most_requests, most_revoked_certificates, most_revoked_digests}
use Rattle.desk_history.specs.Listing.{listed}
use Rattle.desk_history.specs.People.{people}
use Rattle.desk_history.specs.Proposals.{proposal_state, proposals}
use Rattle.desk_history.specs.Replies.{minutes}
use Rattle.desk_history.specs.Requests.{requests, state}
use Rattle.desk_history.specs.Revocations.{revocations}
use Rattle.desk_history.specs.Runs.{is_legal}
use Rattle.desk_history.specs.Tables.{Tables, level_row, proposal_row, request_row, tables}
use Rattle.desk_history.specs.Writes.{all_written, written}
use Rattle.desk_history.proofs.CountLemmas.{one_if}
use Rattle.desk_history.proofs.RunLemmas.{Within, legal_parts}
use Rattle.desk_rules.specs.declared.view.LimitedTable.{LimitedTable}
use Rattle.desk_rules.specs.declared.view.LimitedTable.TheVariants as kept
use Rattle.desk_rules.specs.declared.view.Sizes.{Sizes}
use Rattle.desk_rules.specs.Room.{fits, has_room, puts, takes_off}
use Rattle.desk_rules.specs.Shown.{rows_in, size_in}
use Rattle.desk_rules.proofs.RoomLemmas.{certificates_step, components_step, digests_step, entries_grow, fits_fewer, fits_is, grows, minutes_length, people_step, proposals_step, requests_step}

-- whether numbers of rows are within the limits
abbrev all_fit : Bool → Bool → Bool → Bool → Bool → Bool → Bool → ℕ → Bool
all_fit few_people few_requests few_proposals few_listed few_digests few_certificates few_names calls =
    few_people && few_requests && few_proposals && few_listed && few_digests && few_certificates && few_names && nat_le calls most_calls

-- a call into whose other tables than these no rows are put leaves them no more rows
pub record LeavesRows (may : LimitedTable → Bool) (cs : History) (i : Item) : Type 0 where
  pub people : may kept.People ≡ false → length (people (i ∷ cs)) ≤ length (people cs)
  pub requests : may kept.Requests ≡ false → length (requests (i ∷ cs)) ≤ length (requests cs)
  pub proposals : may kept.Proposals ≡ false → length (proposals (i ∷ cs)) ≤ length (proposals cs)
  pub listed : may kept.Listed ≡ false → length (listed (i ∷ cs)) ≤ length (listed cs)
  pub digests : may kept.RevokedDigests ≡ false → length (distinct (revocations kinds.Digest (i ∷ cs))) ≤ length (distinct (revocations kinds.Digest cs))
  pub certificates : may kept.RevokedCertificates ≡ false → length (distinct (revocations kinds.Certificate (i ∷ cs))) ≤ length (distinct (revocations kinds.Certificate cs))
  pub components : may kept.Components ≡ false → length (names (generations (i ∷ cs))) ≤ length (names (generations cs))

-- the writes take no listed entry off the list, or they insert none and no more is listed after the
-- call than before
abbrev pub KeepsListed : List Write → History → Item → Type 0
KeepsListed ws cs i = (list_any takes_off ws ≡ false) ⊎ ((count_by (puts kept.Listed) ws ≡ 0) × (length (listed (i ∷ cs)) ≤ length (listed cs)))

-- of a call into whose tables by `may` its writes may put rows
module _ (s : Sizes) (owner : List ℕ) (cs : History) (i : Item) (ws : List Write) (may : LimitedTable → Bool) (calls : s.calls ≡ length (minutes cs))
    (sizes : (table : LimitedTable) → IsTrue (may table) → size_in s table ≡ rows_in (tables owner cs) table) (legal : is_legal cs ≡ true) (no_more : LeavesRows may cs i)
    (made : all_written ws (tables owner cs) ≡ record (tables owner (i ∷ cs)) { calls = minutes cs; migrated = (tables owner cs).migrated }) where
  abbrev next : Tables
  next = record (tables owner (i ∷ cs)) { calls = minutes cs; migrated = (tables owner cs).migrated }

  within : Within cs
  within = legal_parts cs legal

  -- one table's count
  counted : (f : Tables → ℕ) (p : Write → Bool) → ((w : Write) (t : Tables) → f (written w t) ≡ one_if (p w) + f t) → count_by p ws + f (tables owner cs) ≡ f (next)
  counted f p step = sym (grows f p step ws (tables owner cs)) ∙ ap f made

  row_count : (at : History) → length (tables owner at).requests ≡ length (requests at)
  row_count at = length-map (requests at) (λ r. request_row (state at r.number) r)

  proposal_count : (at : History) → length (tables owner at).proposals ≡ length (proposals at)
  proposal_count at = length-map (proposals at) (λ p. proposal_row (proposal_state at p.number) p)

  name_count : (at : History) → length (tables owner at).components ≡ length (names (generations at))
  name_count at = length-map (names (generations at)) (level_row (generations at))

  people_after : fits (count_by (puts kept.People) ws) s.people most_people ≡ nat_le (length (people (i ∷ cs))) most_people
  people_after =
      fits_is (may kept.People) (count_by (puts kept.People) ws) s.people (length (people cs)) (length (people (i ∷ cs))) most_people
      (counted (λ t. length t.people) (puts kept.People) people_step) within.people (sizes kept.People) no_more.people

  requests_after : fits (count_by (puts kept.Requests) ws) s.requests most_requests ≡ nat_le (length (requests (i ∷ cs))) most_requests
  requests_after =
      fits_is (may kept.Requests) (count_by (puts kept.Requests) ws) s.requests (length (requests cs)) (length (requests (i ∷ cs))) most_requests
      (ap (λ n. count_by (puts kept.Requests) ws + n) (sym (row_count cs)) ∙ (counted (λ t. length t.requests) (puts kept.Requests) requests_step ∙ row_count (i ∷ cs)))
      within.requests (λ may. sizes kept.Requests may ∙ row_count cs) no_more.requests

  proposals_after : fits (count_by (puts kept.Proposals) ws) s.proposals most_proposals ≡ nat_le (length (proposals (i ∷ cs))) most_proposals
  proposals_after =
      fits_is (may kept.Proposals) (count_by (puts kept.Proposals) ws) s.proposals (length (proposals cs)) (length (proposals (i ∷ cs))) most_proposals
      (ap (λ n. count_by (puts kept.Proposals) ws + n) (sym (proposal_count cs)) ∙ (counted (λ t. length t.proposals) (puts kept.Proposals) proposals_step ∙ proposal_count (i ∷ cs)))
      within.proposals (λ may. sizes kept.Proposals may ∙ proposal_count cs) no_more.proposals

  listed_after : KeepsListed ws cs i → fits (count_by (puts kept.Listed) ws) s.listed most_listed ≡ nat_le (length (listed (i ∷ cs))) most_listed
  listed_after (inl none) =
      fits_is (may kept.Listed) (count_by (puts kept.Listed) ws) s.listed (length (listed cs)) (length (listed (i ∷ cs))) most_listed
      (sym (entries_grow ws (tables owner cs) none) ∙ ap (λ t. length t.listed) made) within.listed (sizes kept.Listed) no_more.listed
  listed_after (inr fewer) =
      fits_fewer (count_by (puts kept.Listed) ws) s.listed (length (listed cs)) (length (listed (i ∷ cs))) most_listed fewer.0 fewer.1 within.listed

  digests_after : fits (count_by (puts kept.RevokedDigests) ws) s.revoked_digests most_revoked_digests ≡ nat_le (length (distinct (revocations kinds.Digest (i ∷ cs)))) most_revoked_digests
  digests_after =
      fits_is (may kept.RevokedDigests) (count_by (puts kept.RevokedDigests) ws) s.revoked_digests (length (distinct (revocations kinds.Digest cs))) (length (distinct (revocations kinds.Digest (i ∷ cs)))) most_revoked_digests
      (counted (λ t. length t.revoked_digests) (puts kept.RevokedDigests) digests_step) within.digests (sizes kept.RevokedDigests) no_more.digests

  certificates_after : fits (count_by (puts kept.RevokedCertificates) ws) s.revoked_certificates most_revoked_certificates ≡ nat_le (length (distinct (revocations kinds.Certificate (i ∷ cs)))) most_revoked_certificates
  certificates_after =
      fits_is (may kept.RevokedCertificates) (count_by (puts kept.RevokedCertificates) ws) s.revoked_certificates (length (distinct (revocations kinds.Certificate cs))) (length (distinct (revocations kinds.Certificate (i ∷ cs)))) most_revoked_certificates
      (counted (λ t. length t.revoked_certificates) (puts kept.RevokedCertificates) certificates_step) within.certificates (sizes kept.RevokedCertificates) no_more.certificates

  components_after : fits (count_by (puts kept.Components) ws) s.components most_level_components ≡ nat_le (length (names (generations (i ∷ cs)))) most_level_components
  components_after =
      fits_is (may kept.Components) (count_by (puts kept.Components) ws) s.components (length (names (generations cs))) (length (names (generations (i ∷ cs)))) most_level_components
      (ap (λ n. count_by (puts kept.Components) ws + n) (sym (name_count cs)) ∙ (counted (λ t. length t.components) (puts kept.Components) components_step ∙ name_count (i ∷ cs)))
      within.components (λ may. sizes kept.Components may ∙ name_count cs) no_more.components

  calls_after : 1 + s.calls ≡ length (i ∷ cs)
  calls_after = let h : s.calls ≡ length cs = calls ∙ minutes_length cs in omega arith

  pub room_after : KeepsListed ws cs i → has_room s ws ≡ is_within (i ∷ cs)
  room_after roomed =
      let requests_fit : Bool = fits (count_by (puts kept.Requests) ws) s.requests most_requests in
      let proposals_fit : Bool = fits (count_by (puts kept.Proposals) ws) s.proposals most_proposals in
      let listed_fit : Bool = fits (count_by (puts kept.Listed) ws) s.listed most_listed in
      let digests_fit : Bool = fits (count_by (puts kept.RevokedDigests) ws) s.revoked_digests most_revoked_digests in
      let certificates_fit : Bool = fits (count_by (puts kept.RevokedCertificates) ws) s.revoked_certificates most_revoked_certificates in
      let components_fit : Bool = fits (count_by (puts kept.Components) ws) s.components most_level_components in
      let few_people : Bool = nat_le (length (people (i ∷ cs))) most_people in
      let few_requests : Bool = nat_le (length (requests (i ∷ cs))) most_requests in
      let few_proposals : Bool = nat_le (length (proposals (i ∷ cs))) most_proposals in
      let few_listed : Bool = nat_le (length (listed (i ∷ cs))) most_listed in
      let few_digests : Bool = nat_le (length (distinct (revocations kinds.Digest (i ∷ cs)))) most_revoked_digests in
      let few_certificates : Bool = nat_le (length (distinct (revocations kinds.Certificate (i ∷ cs)))) most_revoked_certificates in
      let few_names : Bool = nat_le (length (names (generations (i ∷ cs)))) most_level_components in
      ap (λ b. all_fit b requests_fit proposals_fit listed_fit digests_fit certificates_fit components_fit (1 + s.calls)) people_after
      ∙ (ap (λ b. all_fit few_people b proposals_fit listed_fit digests_fit certificates_fit components_fit (1 + s.calls)) requests_after
      ∙ (ap (λ b. all_fit few_people few_requests b listed_fit digests_fit certificates_fit components_fit (1 + s.calls)) proposals_after
      ∙ (ap (λ b. all_fit few_people few_requests few_proposals b digests_fit certificates_fit components_fit (1 + s.calls)) (listed_after roomed)
      ∙ (ap (λ b. all_fit few_people few_requests few_proposals few_listed b certificates_fit components_fit (1 + s.calls)) digests_after
      ∙ (ap (λ b. all_fit few_people few_requests few_proposals few_listed few_digests b components_fit (1 + s.calls)) certificates_after
      ∙ (ap (λ b. all_fit few_people few_requests few_proposals few_listed few_digests few_certificates b (1 + s.calls)) components_after
      ∙ ap (λ n. all_fit few_people few_requests few_proposals few_listed few_digests few_certificates few_names n) calls_after))))))
