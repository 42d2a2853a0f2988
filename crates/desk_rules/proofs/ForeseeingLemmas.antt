-- What another officer's Confirm would add, from a view that shows the history for one.
use Rattle.std.proofs.Common.{◌≡◌, ◌⊎◌, ℕ, ◌+◌, ◌-◌, Bool, true, false, not, ◌&&◌, List, length, Some, None, Err, Result, refl, sym, ◌∙◌, ap, subst, inl, inr, arith}
use Rattle.std.specs.Prelude.{MatchResult, if◌then◌else◌, count_by, nat_le}
use Rattle.std.specs.Option.{option_or}
use Rattle.base.specs.declared.refusal.Refusal.{Refusal}
use Rattle.base.specs.declared.refusal.Refusal.TheVariants as refusals
use Rattle.desk_types.specs.declared.caller.Caller.{Caller}
use Rattle.desk_types.specs.declared.command.Command.TheVariants as command
use Rattle.desk_types.specs.declared.kind.ListedKind.TheVariants as kinds
use Rattle.desk_types.specs.declared.reply.Counts.{Counts}
use Rattle.desk_history.specs.Calls.{History, distinct}
use Rattle.desk_history.specs.Impact.{after, another_refusal, dbx_length, impact_refusal, list_length}
use Rattle.desk_history.specs.Limits.{is_within, most_revoked_certificates, most_revoked_digests}
use Rattle.desk_history.specs.Proposals.{proposal, proposal_state}
use Rattle.desk_history.specs.Refusals.{refuse_if}
use Rattle.desk_history.specs.Revocations.{revocations}
use Rattle.desk_history.specs.Runs.{is_legal}
use Rattle.desk_history.specs.Tables.{tables}
use Rattle.desk_history.proofs.RunLemmas.{Within, within_parts}
use Rattle.desk_rules.specs.declared.decisions.imports.Enforced.{Enforced}
use Rattle.desk_rules.specs.declared.foreseeing.Foreseen.{Foreseen}
use Rattle.desk_rules.specs.declared.view.LimitedTable.TheVariants as counted
use Rattle.desk_rules.specs.declared.view.View.{View}
use Rattle.desk_history.specs.Called.{called}
use Rattle.desk_rules.specs.Foreseen.{IsForeseen, dbx_with}
use Rattle.desk_rules.specs.ImportSteps.{IsConfirmed}
use Rattle.desk_rules.specs.Room.{has_room, puts}
use Rattle.desk_rules.specs.Shown.{Shows}
use Rattle.desk_rules.proofs.RoomByRules.{room_is}
use Rattle.desk_rules.proofs.RoomLemmas.{certificates_step, digests_step, grows}

-- a table of as many rows as before and as many more as were gained has as many as after
size_after : (size more count old new : ℕ) → size ≡ old → more ≡ new - old → new ≡ count + old → size + more ≡ new
size_after size more count old new is gained grown = omega arith

-- both within their limits
dbx_by : (a b c d most_a most_b : ℕ) → a ≡ c → b ≡ d → nat_le c most_a ≡ true → nat_le d most_b ≡ true
    → (if nat_le a most_a && nat_le b most_b then Some (list_length 48 a + list_length 64 b) else None) ≡ Some (list_length 48 c + list_length 64 d)
dbx_by a b c d most_a most_b is_a is_b few_a few_b = rw (is_a, is_b, few_a, few_b) refl

module _ (v : View) (k : ℕ) (owner : List ℕ) (cs : History) (caller : Caller) (key : List ℕ) (legal : is_legal cs ≡ true) (shown : Shows v (tables owner cs) (called caller key (command.Confirm k))) where
  -- a refusal other than for want of room
  pub foresees_refused : (r : Refusal) → (another_refusal cs (proposal cs k) (proposal_state cs k) ≡ Some r) ⊎ (r ≡ refusals.NoMemory) → (result : Result Foreseen Refusal) → result ≡ Err r
      → MatchResult result (λ f. IsForeseen f cs k) (λ refusal. (impact_refusal cs k ≡ Some refusal) ⊎ (refusal ≡ refusals.NoMemory))
  foresees_refused r why result is =
      subst (λ out. MatchResult out (λ f. IsForeseen f cs k) (λ refusal. (impact_refusal cs k ≡ Some refusal) ⊎ (refusal ≡ refusals.NoMemory))) (sym is) (because why)
    where
      because : (another_refusal cs (proposal cs k) (proposal_state cs k) ≡ Some r) ⊎ (r ≡ refusals.NoMemory) → (impact_refusal cs k ≡ Some r) ⊎ (r ≡ refusals.NoMemory)
      because (inl h) = inl (ap (λ o. option_or o (refuse_if (not (is_within (after cs k))) refusals.Full)) h)
      because (inr e) = inr e

  module _ (e : Enforced) (done : IsConfirmed e owner cs caller key k) where
    room : has_room v.sizes e.writes.items ≡ is_within (after cs k)
    room = room_is v.sizes owner cs (called caller key (command.Confirm k)) e.writes.items shown.count shown.sizes legal done.made (inl done.kept)

    by_room : (b : Bool) → has_room v.sizes e.writes.items ≡ b → impact_refusal cs k ≡ refuse_if (not b) refusals.Full
    by_room b h =
        ap (λ o. option_or o (refuse_if (not (is_within (after cs k))) refusals.Full)) done.free
        ∙ ap (λ t. refuse_if (not t) refusals.Full) (sym room ∙ h)

    -- no room
    pub foresees_full : has_room v.sizes e.writes.items ≡ false → impact_refusal cs k ≡ Some refusals.Full
    foresees_full h = by_room false h

    module _ (fits : has_room v.sizes e.writes.items ≡ true) where
      within : Within (after cs k)
      within = within_parts (after cs k) (sym room ∙ fits)

      digests_after : v.sizes.revoked_digests + e.counts.digests ≡ length (distinct (revocations kinds.Digest (after cs k)))
      digests_after =
          size_after v.sizes.revoked_digests e.counts.digests (count_by (puts counted.RevokedDigests) e.writes.items) (length (distinct (revocations kinds.Digest cs))) (length (distinct (revocations kinds.Digest (after cs k))))
          (shown.sizes counted.RevokedDigests refl) (ap (λ (n : Counts). n.digests) done.counts)
          (sym (ap (λ t. length t.revoked_digests) done.made) ∙ grows (λ t. length t.revoked_digests) (puts counted.RevokedDigests) digests_step e.writes.items (tables owner cs))

      certificates_after : v.sizes.revoked_certificates + e.counts.certificates ≡ length (distinct (revocations kinds.Certificate (after cs k)))
      certificates_after =
          size_after v.sizes.revoked_certificates e.counts.certificates (count_by (puts counted.RevokedCertificates) e.writes.items) (length (distinct (revocations kinds.Certificate cs))) (length (distinct (revocations kinds.Certificate (after cs k))))
          (shown.sizes counted.RevokedCertificates refl) (ap (λ (n : Counts). n.certificates) done.counts)
          (sym (ap (λ t. length t.revoked_certificates) done.made) ∙ grows (λ t. length t.revoked_certificates) (puts counted.RevokedCertificates) certificates_step e.writes.items (tables owner cs))

      dbx_is : dbx_with v.sizes e.counts ≡ Some (dbx_length (after cs k))
      dbx_is =
          dbx_by (v.sizes.revoked_digests + e.counts.digests) (v.sizes.revoked_certificates + e.counts.certificates) (length (distinct (revocations kinds.Digest (after cs k)))) (length (distinct (revocations kinds.Certificate (after cs k)))) most_revoked_digests most_revoked_certificates
          digests_after certificates_after within.digests within.certificates

      -- with room, dbx is within its limits
      pub foresees_none : dbx_with v.sizes e.counts ≡ None → {A : Type 0} → A
      foresees_none none = clash (sym none ∙ dbx_is)
        where
          clash : {n : ℕ} → None ≡ Some n → {A : Type 0} → A
          clash h = cc

      pub foresees : (n : ℕ) → dbx_with v.sizes e.counts ≡ Some n → (f : Foreseen) → f ≡ record { adds = e.counts; dbx = n } → IsForeseen f cs k
      foresees n is f made = subst (λ (g : Foreseen). IsForeseen g cs k) (sym made) (record {
        free = by_room true fits;
        adds = done.counts;
        dbx = some_same n (dbx_length (after cs k)) (sym is ∙ dbx_is);
      })
        where
          some_same : (m p : ℕ) → Some m ≡ Some p → m ≡ p
          some_same m p h = cc
