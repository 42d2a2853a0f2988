-- Entries that a call puts into force.
use Rattle.std.proofs.Common.{◌≡◌, ℕ, ◌-◌, Bool, true, false, not, ◌&&◌, ◌||◌, cond, List, [], ◌∷◌, ◌++◌, map, filter, length, Option, Some, None, Ok, Err, Result, refl, sym, ◌∙◌, ap, arith}
use Rattle.std.specs.Prelude.{if◌then◌else◌, IfOk, IsTrue, bytes_eq, nat_lt, reverse, unwrap_or}
use Rattle.std.specs.List.{list_any}
use Rattle.std.specs.Option.{option_map_or}
use Rattle.std.proofs.lemmas.Bool.{or_left, or_right}
use Rattle.std.proofs.lemmas.Bool.Decides.{nat_tests}
use Rattle.std.proofs.lemmas.List.Folds.{list_any-append}
use Rattle.std.proofs.lemmas.List.{length-append, length-reverse}
use Rattle.sbat.specs.declared.component.Component.{Component}
use Rattle.base.specs.declared.refusal.Refusal.{Refusal}
use Rattle.base.specs.declared.refusal.Refusal.TheVariants as refusals
use Rattle.desk_types.specs.Imports.{Imported}
use Rattle.desk_types.specs.declared.caller.Caller.{Caller}
use Rattle.desk_types.specs.declared.command.Command.TheVariants as command
use Rattle.desk_types.specs.declared.kind.ListedKind.{ListedKind}
use Rattle.desk_types.specs.declared.kind.ListedKind.TheVariants as kinds
use Rattle.desk_types.specs.declared.proposal.ProposalKind.{ProposalKind}
use Rattle.desk_types.specs.declared.proposal.ProposalKind.TheVariants as proposed
use Rattle.desk_types.specs.declared.proposal.ProposalState.TheVariants as states
use Rattle.desk_types.specs.declared.reply.Counts.{Counts}
use Rattle.desk_history.specs.declared.rows.ProposalRow.{ProposalRow}
use Rattle.desk_history.specs.declared.write.Write.{Write}
use Rattle.desk_history.specs.declared.write.Write.TheVariants as writes
use Rattle.desk_history.specs.Calls.{History, Item, is_among, distinct, item}
use Rattle.desk_history.specs.Forces.{InForce, enforced_by, forced, nothing}
use Rattle.desk_history.specs.Level.{generations, greatest, is_above, is_sbat, names, raises, raises_some, stamp}
use Rattle.desk_history.specs.Refusals.{is_later, refuse_if}
use Rattle.desk_history.specs.Replies.{counted, minutes, raised_count}
use Rattle.desk_history.specs.Revocations.{is_revoked, revocations}
use Rattle.desk_history.specs.Tables.{Tables, level_rows, tables}
use Rattle.desk_history.specs.Writes.{all_written, written}
use Rattle.desk_history.proofs.LevelLemmas.{all_raise_so, others_reversed}
use Rattle.desk_history.proofs.ListLemmas.{bytes_eq-refl}
use Rattle.desk_history.proofs.ProposalRowLemmas.{confirm_rows, is_lower, refused_by}
use Rattle.desk_history.proofs.WriteLemmas.{written-append}
use Rattle.desk_rules.specs.declared.decisions.imports.Enforced.{Enforced}
use Rattle.desk_rules.specs.declared.decisions.imports.SoFar.{SoFar}
use Rattle.desk_rules.specs.declared.view.View.{View}
use Rattle.desk_rules.specs.DecisionSteps.{force_refusal_in, is_lower_in, revocation_writes}
use Rattle.desk_history.specs.Called.{called}
use Rattle.desk_rules.specs.ImportSteps.{AreNew, HasTaken, HasTakenAll, PutsEntries, PutsIntoForce, PutsNamed, stamp_writes}
use Rattle.desk_rules.specs.Room.{takes_off}
use Rattle.desk_rules.specs.Keys.{import_keys}
use Rattle.desk_rules.specs.Views.{ShowsLists, generation_in, seen_standing}
use Rattle.desk_rules.proofs.ImportDigests.{put_new-once}
use Rattle.desk_rules.proofs.StandingLemmas.{any_alike, bars_so, shown_generation}
use Rattle.desk_rules.proofs.SubmissionLemmas.{none_taken, turned}

-- a name is raised exactly where some component raises
some_once : (t : List ℕ) (ts : List (List ℕ)) → nat_lt 0 (length (distinct (t ∷ ts))) ≡ true
some_once t [] = refl
some_once t (u ∷ ts) = elim (is_among (u ∷ ts) t) as (λ b. nat_lt 0 (length (if b then distinct (u ∷ ts) else t ∷ distinct (u ∷ ts))) ≡ true) [
  | true ↦ some_once u ts
  | false ↦ grind (arith, nat_tests)
]

some_raised : (p : Component → Bool) (seen : List Component) → nat_lt 0 (length (distinct (map (λ (x : Component). x.name) (filter p seen)))) ≡ list_any p seen
some_raised p [] = refl
some_raised p (x ∷ xs) = elim (p x) as (λ b. nat_lt 0 (length (distinct (map (λ (x : Component). x.name) (cond b (x ∷ filter p xs) (filter p xs))))) ≡ (b || list_any p xs)) [
  | true ↦ some_once x.name (map (λ (x : Component). x.name) (filter p xs))
  | false ↦ some_raised p xs
]

-- the tables with these digests of this kind in front of the revoked ones
abbrev with_all : ListedKind → List (List ℕ) → Tables → Tables
with_all kinds.Digest ds t = record t { revoked_digests = ds ++ t.revoked_digests }
with_all kinds.Certificate ds t = record t { revoked_certificates = ds ++ t.revoked_certificates }

revocations_put : (kind : ListedKind) (ds : List (List ℕ)) (t : Tables) → all_written (revocation_writes kind ds) t ≡ with_all kind (reverse ds) t
revocations_put kinds.Digest [] t = refl
revocations_put kinds.Certificate [] t = refl
revocations_put kinds.Digest (d ∷ ds) t = revocations_put kinds.Digest ds (record t { revoked_digests = d ∷ t.revoked_digests }) ∙ ap (λ rows. record t { revoked_digests = rows }) (turned d ds t.revoked_digests)
revocations_put kinds.Certificate (d ∷ ds) t = revocations_put kinds.Certificate ds (record t { revoked_certificates = d ∷ t.revoked_certificates }) ∙ ap (λ rows. record t { revoked_certificates = rows }) (turned d ds t.revoked_certificates)

-- revocations take nothing off
revocations_kept : (kind : ListedKind) (ds : List (List ℕ)) → list_any takes_off (revocation_writes kind ds) ≡ false
revocations_kept kind ds = none_taken (λ d. writes.Revoke (record { kind = kind; digest = d })) (λ d. refl) ds

-- writes one after the other take nothing off
none_of_two : (ws vs : List Write) → list_any takes_off ws ≡ false → list_any takes_off vs ≡ false → list_any takes_off (ws ++ vs) ≡ false
none_of_two ws vs h k = list_any-append takes_off ws vs ∙ (ap (λ b. b || list_any takes_off vs) h ∙ k)

stamp_kept : (n : ℕ) (o : Option ℕ) → list_any takes_off (stamp_writes n o) ≡ false
stamp_kept n None = refl
stamp_kept n (Some s) = elim (nat_lt 0 n) as (λ b. list_any takes_off (if b then writes.Stamp s ∷ [] else []) ≡ false) [ true ↦ refl | false ↦ refl ]

count_new : (new rows : List (List ℕ)) → length new ≡ length (reverse new ++ rows) - length rows
count_new new rows = omega (arith, length-append (reverse new) rows, length-reverse new)

-- a component refused by its name is refused at any generation
named_lower : (same : Bool) (n first : ℕ) (named : Option ℕ) → (same || not (is_above n named)) ≡ (same || not (is_above n (if same then Some first else named)))
named_lower true n first named = refl
named_lower false n first named = refl

-- components are below the level of a view's rows exactly where they are below that of the history
lower_alike : (rows : List Component) (cs : History) (xs : List Component) → ((q : List ℕ) → IsTrue (is_among (map (λ x. x.name) xs) q) → generation_in rows q ≡ greatest (generations cs) q) →
    list_any (is_lower_in rows) xs ≡ list_any (is_lower cs) xs
lower_alike rows cs [] each = refl
lower_alike rows cs (x ∷ xs) each =
    ap (λ o. (is_sbat x.name || not (is_above x.generation o)) || list_any (is_lower_in rows) xs) (each x.name (or_left (bytes_eq x.name x.name) (is_among (map (λ y. y.name) xs) x.name) (bytes_eq-refl x.name)))
    ∙ ap (λ b. b || list_any (is_lower_in rows) xs) (named_lower (is_sbat x.name) x.generation 1 (greatest (generations cs) x.name))
    ∙ ap (λ b. is_lower cs x || b) (lower_alike rows cs xs (λ q h. each q (or_right (bytes_eq q x.name) (is_among (map (λ y. y.name) xs) q) h)))

-- the tables where this is put into force, and these are the rows of proposals
abbrev pub with_force : List ℕ → History → InForce → List ProposalRow → Tables
with_force owner cs f rows = record (tables owner cs) {
  desk = record (tables owner cs).desk { stamp = (if raises_some cs f then unwrap_or f.stamp (stamp cs) else stamp cs) };
  revoked_digests = distinct (f.digests ++ revocations kinds.Digest cs);
  revoked_certificates = distinct (f.certificates ++ revocations kinds.Certificate cs);
  components = level_rows (f.components ++ generations cs);
  proposals = rows;
}

-- of a view that shows the rows for all that is named, and the stamp
module _ (v : View) (i : Imported) (owner : List ℕ) (cs : History) (lists : ShowsLists v.lists (tables owner cs) (import_keys i)) (stamp_seen : v.stamp ≡ stamp cs) (s : SoFar) (taken : HasTakenAll v i s) where
  so_far : HasTaken i.components (generations cs) (reverse i.components) s
  so_far = taken (generations cs) (λ q asked. shown_generation v.lists owner cs (import_keys i) lists q asked)

  -- as many names are raised by the level as by what is named
  raised : raised_count cs (forced i) ≡ s.names
  raised = ap (λ xs. length (names xs)) (all_raise_so cs (reverse i.components) (others_reversed i.components so_far.other)) ∙ so_far.count

  names_some : nat_lt 0 s.names ≡ raises_some cs (forced i)
  names_some = ap (λ n. nat_lt 0 n) (sym raised) ∙ some_raised (raises cs) (reverse i.components)

  -- it says why what is named isn't put into force
  pub force_seen : (kind : ProposalKind) → force_refusal_in v kind i s.names ≡ refused_by cs kind i
  force_seen proposed.Digest =
      ap (λ b. refuse_if b refusals.AlreadyRevoked)
      (any_alike ((seen_standing v.lists).revoked kinds.Digest) (is_revoked kinds.Digest cs) i.digests (λ d asked. (bars_so v.lists owner cs (import_keys i) lists).revoked kinds.Digest d asked))
  force_seen proposed.Certificate =
      ap (λ b. refuse_if b refusals.AlreadyRevoked)
      (any_alike ((seen_standing v.lists).revoked kinds.Certificate) (is_revoked kinds.Certificate cs) i.certificates (λ d asked. (bars_so v.lists owner cs (import_keys i) lists).revoked kinds.Certificate d asked))
  force_seen proposed.Level =
      ap (λ b. if b then Some refusals.NotHigher else refuse_if (not (is_later v.stamp i.stamp)) refusals.StampNotLater)
      (lower_alike v.lists.components.items cs i.components (λ q asked. shown_generation v.lists owner cs (import_keys i) lists q asked))
      ∙ ap (λ n. if list_any (is_lower cs) i.components then Some refusals.NotHigher else refuse_if (not (is_later n i.stamp)) refusals.StampNotLater) stamp_seen
  force_seen proposed.Import =
      ap (λ b. refuse_if (b && not (is_later v.stamp i.stamp)) refusals.StampNotLater) names_some
      ∙ ap (λ n. refuse_if (raises_some cs (forced i) && not (is_later n i.stamp)) refusals.StampNotLater) stamp_seen

  digest_rows : (new : List (List ℕ)) → AreNew v.lists.revoked_digests.items i.digests new → distinct (reverse i.digests ++ revocations kinds.Digest cs) ≡ reverse new ++ distinct (revocations kinds.Digest cs)
  digest_rows new found = sym (put_new-once i.digests (revocations kinds.Digest cs)) ∙ found (distinct (revocations kinds.Digest cs)) (λ d asked. lists.revoked kinds.Digest d asked)

  certificate_rows : (new : List (List ℕ)) → AreNew v.lists.revoked_certificates.items i.certificates new → distinct (reverse i.certificates ++ revocations kinds.Certificate cs) ≡ reverse new ++ distinct (revocations kinds.Certificate cs)
  certificate_rows new found = sym (put_new-once i.certificates (revocations kinds.Certificate cs)) ∙ found (distinct (revocations kinds.Certificate cs)) (λ d asked. lists.revoked kinds.Certificate d asked)

  stamped : (o : Option ℕ) (t : Tables) → t.desk ≡ (tables owner cs).desk → all_written (stamp_writes s.names o) t ≡ record t { desk = record (tables owner cs).desk { stamp = (if nat_lt 0 s.names then unwrap_or o (stamp cs) else stamp cs) } }
  stamped None t is = elim (nat_lt 0 s.names) as (λ b. t ≡ record t { desk = record (tables owner cs).desk { stamp = (if b then stamp cs else stamp cs) } }) [ true ↦ ap (λ d. record t { desk = d }) is | false ↦ ap (λ d. record t { desk = d }) is ]
  stamped (Some n) t is = elim (nat_lt 0 s.names) as (λ b. all_written (if b then writes.Stamp n ∷ [] else []) t ≡ record t { desk = record (tables owner cs).desk { stamp = (if b then n else stamp cs) } }) [
    | true ↦ ap (λ d. record t { desk = record d { stamp = n } }) is
    | false ↦ ap (λ d. record t { desk = d }) is
  ]

  -- these numbers, and as many entries skipped as are named
  abbrev counts_with : ℕ → ℕ → ℕ → Counts
  counts_with digests certificates components = record { digests = digests; certificates = certificates; components = components; passed = i.passed }

  -- the numbers of what is put into force
  abbrev counts_of : Option Imported → Counts
  counts_of o = record {
    digests = length (distinct ((option_map_or forced o nothing).digests ++ revocations kinds.Digest cs)) - length (distinct (revocations kinds.Digest cs));
    certificates = length (distinct ((option_map_or forced o nothing).certificates ++ revocations kinds.Certificate cs)) - length (distinct (revocations kinds.Certificate cs));
    components = raised_count cs (option_map_or forced o nothing);
    passed = option_map_or (λ n. n.passed) o 0;
  }

  module _ (entered : Enforced) (made : PutsEntries v i s entered) where
    first : distinct (reverse i.digests ++ revocations kinds.Digest cs) ≡ reverse made.digests ++ distinct (revocations kinds.Digest cs)
    first = digest_rows made.digests made.new_digests

    second : distinct (reverse i.certificates ++ revocations kinds.Certificate cs) ≡ reverse made.certificates ++ distinct (revocations kinds.Certificate cs)
    second = certificate_rows made.certificates made.new_certificates

    -- the counts are those of a call that puts this into force
    pub enters_as : (at : Item) → enforced_by cs at ≡ Some i → entered.counts ≡ counted cs at
    enters_as at enforced =
        let digests : List (List ℕ) = distinct (revocations kinds.Digest cs) in
        let certificates : List (List ℕ) = distinct (revocations kinds.Certificate cs) in
        made.counts
        ∙ (ap (λ n. counts_with n (length made.certificates) s.names) (count_new made.digests digests ∙ ap (λ r. length r - length digests) (sym first))
        ∙ (ap (λ n. counts_with (length (distinct (reverse i.digests ++ revocations kinds.Digest cs)) - length digests) n s.names) (count_new made.certificates certificates ∙ ap (λ r. length r - length certificates) (sym second))
        ∙ (ap (λ n. counts_with (length (distinct (reverse i.digests ++ revocations kinds.Digest cs)) - length digests) (length (distinct (reverse i.certificates ++ revocations kinds.Certificate cs)) - length certificates) n) (sym raised)
        ∙ ap (λ o. counts_of o) (sym enforced))))

    -- the writes put it into force
    pub enters : all_written entered.writes.items (tables owner cs) ≡ with_force owner cs (forced i) (tables owner cs).proposals
    enters =
        let t : Tables = record (tables owner cs) { components = level_rows (reverse i.components ++ generations cs) } in
        let u : Tables = record t { revoked_digests = distinct (reverse i.digests ++ revocations kinds.Digest cs) } in
        let w : Tables = record u { revoked_certificates = distinct (reverse i.certificates ++ revocations kinds.Certificate cs) } in
        let digests : List Write = revocation_writes kinds.Digest made.digests in
        let certificates : List Write = revocation_writes kinds.Certificate made.certificates in
        ap (λ ws. all_written ws (tables owner cs)) made.wrote
        ∙ (written-append ((s.writes.items ++ digests) ++ certificates) (stamp_writes s.names i.stamp) (tables owner cs)
        ∙ (ap (λ r. all_written (stamp_writes s.names i.stamp) r)
        (written-append (s.writes.items ++ digests) certificates (tables owner cs)
        ∙ (ap (λ r. all_written certificates r)
        (written-append s.writes.items digests (tables owner cs)
        ∙ (ap (λ r. all_written digests r) (so_far.written (tables owner cs) refl)
        ∙ (revocations_put kinds.Digest made.digests t ∙ ap (λ rows. record t { revoked_digests = rows }) (sym first))))
        ∙ (revocations_put kinds.Certificate made.certificates u ∙ ap (λ rows. record u { revoked_certificates = rows }) (sym second))))
        ∙ (stamped i.stamp w refl
        ∙ ap (λ b. record w { desk = record (tables owner cs).desk { stamp = (if b then unwrap_or i.stamp (stamp cs) else stamp cs) } }) names_some)))

    pub keeps : list_any takes_off entered.writes.items ≡ false
    keeps =
        let digests : List Write = revocation_writes kinds.Digest made.digests in
        let certificates : List Write = revocation_writes kinds.Certificate made.certificates in
        ap (λ ws. list_any takes_off ws) made.wrote
        ∙ none_of_two ((s.writes.items ++ digests) ++ certificates) (stamp_writes s.names i.stamp)
        (none_of_two (s.writes.items ++ digests) certificates
        (none_of_two s.writes.items digests so_far.kept (revocations_kept kinds.Digest made.digests))
        (revocations_kept kinds.Certificate made.certificates))
        (stamp_kept s.names i.stamp)

  module _ (caller : Caller) (key : List ℕ) (k : ℕ) (enforced : enforced_by cs (item (called caller key (command.Confirm k))) ≡ Some i) (done : Enforced) (made : PutsIntoForce v i k s done) where
    abbrev closing : Write
    closing = writes.ProposalState (record { proposal = k; state = states.Confirmed })

    pub says : done.counts ≡ counted cs (item (called caller key (command.Confirm k)))
    says = made.counts ∙ enters_as made.entries made.enters (item (called caller key (command.Confirm k))) enforced

    pub puts : all_written done.writes.items (tables owner cs) ≡ record (tables owner (item (called caller key (command.Confirm k)) ∷ cs)) { calls = minutes cs }
    puts =
        ap (λ ws. all_written ws (tables owner cs)) made.wrote
        ∙ (written-append made.entries.writes.items (closing ∷ []) (tables owner cs)
        ∙ (ap (λ r. written closing r) (enters made.entries made.enters)
        ∙ (ap (λ rows. with_force owner cs (forced i) rows) (confirm_rows owner cs caller key k)
        ∙ ap (λ o. with_force owner cs (option_map_or forced o nothing) (tables owner (item (called caller key (command.Confirm k)) ∷ cs)).proposals) (sym enforced))))

    pub kept : list_any takes_off done.writes.items ≡ false
    kept =
        ap (λ ws. list_any takes_off ws) made.wrote
        ∙ none_of_two made.entries.writes.items (closing ∷ []) (keeps made.entries made.enters) refl

-- entries that nothing refuses
pub puts_named : (v : View) (kind : ProposalKind) (n : Imported) (s : SoFar) → HasTakenAll v n s → force_refusal_in v kind n s.names ≡ None
    → (result : Result Enforced Refusal) → IfOk result (PutsEntries v n s) → IfOk result (PutsNamed v kind n)
puts_named v kind n s taken free (Ok e) enters = record { so_far = s; taken = taken; free = free; enters = enters }
puts_named v kind n s taken free (Err r) enters = tt
