-- Room in the tables after a call, where those before it have room for its writes.
use Rattle.std.proofs.Common.{◌≡◌, ℕ, ◌+◌, ◌≤◌, Bool, true, false, List, [], ◌∷◌, length, refl, sym, ◌∙◌, ap, arith, suc}
use Rattle.std.specs.Prelude.{count_by, nat_le}
use Rattle.std.specs.List.{list_any}
use Rattle.std.proofs.lemmas.Bool.{or_parts}
use Rattle.std.proofs.lemmas.Bool.Decides.{nat_tests}
use Rattle.std.proofs.lemmas.List.{length-map}
use Rattle.desk_types.specs.declared.kind.ListedKind.TheVariants as kinds
use Rattle.desk_history.specs.declared.write.Write.{Write}
use Rattle.desk_history.specs.declared.write.Write.TheVariants as writes
use Rattle.desk_types.specs.declared.kind.ListedKind.{ListedKind}
use Rattle.desk_history.specs.Calls.{History, is_same_kind}
use Rattle.desk_history.specs.Replies.{minutes}
use Rattle.desk_history.specs.Tables.{Tables}
use Rattle.desk_history.specs.Writes.{all_written, set_generation, set_proposal_state, set_state, with_revoked, written}
use Rattle.desk_rules.specs.declared.view.LimitedTable.TheVariants as kept
use Rattle.desk_rules.specs.Room.{fits, puts, takes_off}
use Rattle.desk_history.proofs.CountLemmas.{one_if}
use Rattle.desk_history.proofs.RequestLemmas.{count_more}

-- a measure of the tables that each write of a kind makes one more
pub grows : (f : Tables → ℕ) (p : Write → Bool) → ((w : Write) (t : Tables) → f (written w t) ≡ one_if (p w) + f t) → (ws : List Write) (t : Tables) → f (all_written ws t) ≡ count_by p ws + f t
grows f p step [] t = omega arith
grows f p step (w ∷ ws) t =
    let rest : f (all_written ws (written w t)) ≡ count_by p ws + f (written w t) = grows f p step ws (written w t) in
    let one : f (written w t) ≡ one_if (p w) + f t = step w t in
    let more : count_by p (w ∷ ws) ≡ one_if (p w) + count_by p ws = count_more p w ws in
    omega arith

pub people_step : (w : Write) (t : Tables) → length (written w t).people ≡ one_if (puts kept.People w) + length t.people
people_step (writes.Person p) t = omega arith
people_step (writes.Revoke l) t = by_kind l.kind
  where
    by_kind : (kind : ListedKind) → length (with_revoked kind l.digest t).people ≡ one_if false + length t.people
    by_kind kinds.Digest = omega arith
    by_kind kinds.Certificate = omega arith
people_step _ t = omega arith

pub requests_step : (w : Write) (t : Tables) → length (written w t).requests ≡ one_if (puts kept.Requests w) + length t.requests
requests_step (writes.Request r) t = omega arith
requests_step (writes.State o) t = omega (arith, length-map t.requests (set_state o.request o.state))
requests_step (writes.Revoke l) t = by_kind l.kind
  where
    by_kind : (kind : ListedKind) → length (with_revoked kind l.digest t).requests ≡ one_if false + length t.requests
    by_kind kinds.Digest = omega arith
    by_kind kinds.Certificate = omega arith
requests_step _ t = omega arith

pub proposals_step : (w : Write) (t : Tables) → length (written w t).proposals ≡ one_if (puts kept.Proposals w) + length t.proposals
proposals_step (writes.Propose p) t = omega arith
proposals_step (writes.ProposalState o) t = omega (arith, length-map t.proposals (set_proposal_state o.proposal o.state))
proposals_step (writes.Revoke l) t = by_kind l.kind
  where
    by_kind : (kind : ListedKind) → length (with_revoked kind l.digest t).proposals ≡ one_if false + length t.proposals
    by_kind kinds.Digest = omega arith
    by_kind kinds.Certificate = omega arith
proposals_step _ t = omega arith

pub digests_step : (w : Write) (t : Tables) → length (written w t).revoked_digests ≡ one_if (puts kept.RevokedDigests w) + length t.revoked_digests
digests_step (writes.Revoke l) t = by_kind l.kind
  where
    by_kind : (kind : ListedKind) → length (with_revoked kind l.digest t).revoked_digests ≡ one_if (is_same_kind kinds.Digest kind) + length t.revoked_digests
    by_kind kinds.Digest = omega arith
    by_kind kinds.Certificate = omega arith
digests_step _ t = omega arith

pub certificates_step : (w : Write) (t : Tables) → length (written w t).revoked_certificates ≡ one_if (puts kept.RevokedCertificates w) + length t.revoked_certificates
certificates_step (writes.Revoke l) t = by_kind l.kind
  where
    by_kind : (kind : ListedKind) → length (with_revoked kind l.digest t).revoked_certificates ≡ one_if (is_same_kind kinds.Certificate kind) + length t.revoked_certificates
    by_kind kinds.Digest = omega arith
    by_kind kinds.Certificate = omega arith
certificates_step _ t = omega arith

pub components_step : (w : Write) (t : Tables) → length (written w t).components ≡ one_if (puts kept.Components w) + length t.components
components_step (writes.Component x) t = omega arith
components_step (writes.Generation x) t = omega (arith, length-map t.components (set_generation x))
components_step (writes.Revoke l) t = by_kind l.kind
  where
    by_kind : (kind : ListedKind) → length (with_revoked kind l.digest t).components ≡ one_if false + length t.components
    by_kind kinds.Digest = omega arith
    by_kind kinds.Certificate = omega arith
components_step _ t = omega arith

entries_step : (w : Write) (t : Tables) → takes_off w ≡ false → length (written w t).listed ≡ one_if (puts kept.Listed w) + length t.listed
entries_step (writes.List e) t h = omega arith
entries_step (writes.Unlist l) t h = cc
entries_step (writes.Revoke l) t h = by_kind l.kind
  where
    by_kind : (kind : ListedKind) → length (with_revoked kind l.digest t).listed ≡ one_if false + length t.listed
    by_kind kinds.Digest = omega arith
    by_kind kinds.Certificate = omega arith
entries_step _ t h = omega arith

-- where no entry is taken off, each that is put in is one more
pub entries_grow : (ws : List Write) (t : Tables) → list_any takes_off ws ≡ false → length (all_written ws t).listed ≡ count_by (puts kept.Listed) ws + length t.listed
entries_grow [] t h = omega arith
entries_grow (w ∷ ws) t h =
    let both : (takes_off w ≡ false) × (list_any takes_off ws ≡ false) = or_parts (takes_off w) (list_any takes_off ws) h in
    let rest : length (all_written ws (written w t)).listed ≡ count_by (puts kept.Listed) ws + length (written w t).listed = entries_grow ws (written w t) both.1 in
    let one : length (written w t).listed ≡ one_if (puts kept.Listed w) + length t.listed = entries_step w t both.0 in
    let more : count_by (puts kept.Listed) (w ∷ ws) ≡ one_if (puts kept.Listed w) + count_by (puts kept.Listed) ws = count_more (puts kept.Listed) w ws in
    omega arith

pub minutes_length : (cs : History) → length (minutes cs) ≡ length cs
minutes_length [] = refl
minutes_length (c ∷ cs) = ap suc (minutes_length cs)

-- a table whose rows don't become more by a command that may put none in has room for its writes
-- exactly where it keeps within the limit after the call; its size is right where the command may
-- put rows in
pub fits_is : (may : Bool) (count size old new most : ℕ) → count + old ≡ new → nat_le old most ≡ true → (may ≡ true → size ≡ old) → (may ≡ false → new ≤ old) → fits count size most ≡ nat_le new most
fits_is true count size old new most grown within right fewer =
    let same : size ≡ old = right refl in grind (arith, nat_tests)
fits_is false count size old new most grown within right fewer =
    let less : new ≤ old = fewer refl in
    let none : count ≡ 0 = omega arith in
    let fine : nat_le new most ≡ true = grind (arith, nat_tests) in
    ap (λ n. fits n size most) none ∙ sym fine

-- entries were taken off and none put in
pub fits_fewer : (count size old new most : ℕ) → count ≡ 0 → new ≤ old → nat_le old most ≡ true → fits count size most ≡ nat_le new most
fits_fewer count size old new most none fewer within =
    let fine : nat_le new most ≡ true = grind (arith, nat_tests) in
    ap (λ n. fits n size most) none ∙ sym fine
