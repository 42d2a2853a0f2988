-- Rows gathered for keys, which show the lists for these keys.
use Rattle.std.proofs.Common.{◌≡◌, ℕ, Bool, true, false, ◌||◌, ◌&&◌, List, [], ◌∷◌, ◌++◌, map, Option, None, refl, sym, ap, subst, ◌∙◌, IsTrue}
use Rattle.std.specs.Prelude.{All, bytes_eq, filter, find, flat_map, if◌then◌else◌}
use Rattle.std.specs.List.{list_any}
use Rattle.std.specs.Option.{is_some}
use Rattle.std.proofs.lemmas.List.{map-append}
use Rattle.std.proofs.lemmas.List.Elements.{All-append, All-same, All-weaker}
use Rattle.std.proofs.lemmas.List.Folds.{list_any-append}
use Rattle.sbat.specs.declared.component.Component.{Component}
use Rattle.desk_types.specs.declared.command.Listing.{Listing}
use Rattle.desk_types.specs.declared.kind.ListedKind.{ListedKind}
use Rattle.desk_types.specs.declared.kind.ListedKind.TheVariants as kinds
use Rattle.desk_history.specs.declared.rows.Entry.{Entry}
use Rattle.desk_history.specs.Calls.{is_among, is_same_kind}
use Rattle.desk_history.specs.Listing.{has_entry, is_entry}
use Rattle.desk_history.specs.Tables.{Tables}
use Rattle.desk_history.specs.Writes.{is_named}
use Rattle.desk_history.proofs.ListLemmas.{same_text}
use Rattle.desk_rules.specs.Shown.{key_of}
use Rattle.desk_rules.specs.declared.list_view.ListView.{ListView}
use Rattle.desk_rules.specs.Views.{EntryKeys, Keys, ShowsLists, is_listing, keys_for, revoked_rows, seen_revoked}
use Rattle.store_decision_rows.specs.lists.Gathering.{Gathers, PutsOnly, ShowsListed, levels_of, listings_of, revocations_of}
use Rattle.store_decision_rows.proofs.ListedFindLemmas.{any_found, any_map, of_keys}

alike_text : (d k : List ℕ) → bytes_eq d k ≡ true → (x : List ℕ) → bytes_eq k x ≡ bytes_eq d x
alike_text d k is x = ap (λ l. bytes_eq l x) (sym (same_text d k is))

apart_text : (d k : List ℕ) → bytes_eq d k ≡ false → (x : List ℕ) → bytes_eq k x ≡ true → bytes_eq d x ≡ false
apart_text d k differs x is = ap (bytes_eq d) (sym (same_text k x is)) ∙ differs

pub shows_revoked : (d : List ℕ) (table keys : List (List ℕ)) → is_among keys d ≡ true
    → is_among (flat_map (λ k. filter (bytes_eq k) table) keys) d ≡ is_among table d
shows_revoked d table keys asked =
    any_found (bytes_eq d) (flat_map (λ k. filter (bytes_eq k) table) keys)
    ∙ ap is_some (of_keys bytes_eq (bytes_eq d) (bytes_eq d) (alike_text d) (apart_text d) table keys
    ∙ ap (λ b. if b then find (bytes_eq d) table else None) asked)
    ∙ sym (any_found (bytes_eq d) table)

pub shows_components : (name : List ℕ) (table named : List Component) → is_among (map (λ x. x.name) named) name ≡ true
    → find (is_named name) (flat_map (λ (k : Component). filter (is_named k.name) table) named) ≡ find (is_named name) table
shows_components name table named asked =
    of_keys (λ (k : Component). is_named k.name) (is_named name) (λ (k : Component). bytes_eq name k.name)
    (λ k is x. alike_text name k.name is x.name) (λ k differs x is. apart_text name k.name differs x.name is) table named
    ∙ ap (λ b. if b then find (is_named name) table else None)
    (sym (any_map (λ (k : Component). k.name) (bytes_eq name) named) ∙ asked)

-- ---- listed entries

map_gathered : {K X Y : Type 0} (view : X → Y) (f : K → List X) (keys : List K)
    → flat_map (λ k. map view (f k)) keys ≡ map view (flat_map f keys)
map_gathered view f [] = refl
map_gathered view f (k ∷ keys) = ap (λ l. map view (f k) ++ l) (map_gathered view f keys)
    ∙ sym (map-append view (f k) (flat_map f keys))

found_if : {X : Type 0} (b : Bool) (found : Option X) → is_some (if b then found else None) ≡ (b && is_some found)
found_if true found = refl
found_if false found = refl

module _ (kind : ListedKind) (digest : List ℕ) (table : List Entry) where
  alike_entry : (other : ListedKind) (k : List ℕ) → (is_same_kind kind other && bytes_eq digest k) ≡ true → (x : Entry)
      → is_entry other k x ≡ is_entry kind digest x
  alike_entry other k is x = go kind other x.kind is
    where
      go : (a b c : ListedKind) → (is_same_kind a b && bytes_eq digest k) ≡ true
          → (is_same_kind b c && bytes_eq k x.digest) ≡ (is_same_kind a c && bytes_eq digest x.digest)
      go kinds.Digest kinds.Digest c h = ap (λ e. is_same_kind kinds.Digest c && e) (alike_text digest k h x.digest)
      go kinds.Digest kinds.Certificate c h = absurd cc
      go kinds.Certificate kinds.Digest c h = absurd cc
      go kinds.Certificate kinds.Certificate c h = ap (λ e. is_same_kind kinds.Certificate c && e)
          (alike_text digest k h x.digest)

  apart_entry : (other : ListedKind) (k : List ℕ) → (is_same_kind kind other && bytes_eq digest k) ≡ false → (x : Entry)
      → is_entry other k x ≡ true → is_entry kind digest x ≡ false
  apart_entry other k differs x is = go kind other x.kind differs is
    where
      go : (a b c : ListedKind) → (is_same_kind a b && bytes_eq digest k) ≡ false
          → (is_same_kind b c && bytes_eq k x.digest) ≡ true → (is_same_kind a c && bytes_eq digest x.digest) ≡ false
      go kinds.Digest kinds.Digest kinds.Digest n h = apart_text digest k n x.digest h
      go kinds.Digest kinds.Digest kinds.Certificate n h = refl
      go kinds.Digest kinds.Certificate kinds.Digest n h = absurd cc
      go kinds.Digest kinds.Certificate kinds.Certificate n h = refl
      go kinds.Certificate kinds.Digest kinds.Digest n h = refl
      go kinds.Certificate kinds.Digest kinds.Certificate n h = absurd cc
      go kinds.Certificate kinds.Certificate kinds.Digest n h = refl
      go kinds.Certificate kinds.Certificate kinds.Certificate n h = apart_text digest k n x.digest h

  of_kind : (other : ListedKind) (keys : List (List ℕ))
      → list_any (is_listing kind digest) (flat_map (λ k. map key_of (filter (is_entry other k) table)) keys) ≡
      (list_any (λ k. is_same_kind kind other && bytes_eq digest k) keys && has_entry kind digest table)
  of_kind other keys =
      let rows : List Entry = flat_map (λ k. filter (is_entry other k) table) keys in
      ap (list_any (is_listing kind digest)) (map_gathered key_of (λ k. filter (is_entry other k) table) keys)
      ∙ any_map key_of (is_listing kind digest) rows
      ∙ any_found (is_entry kind digest) rows
      ∙ ap is_some (of_keys (is_entry other) (is_entry kind digest) (λ k. is_same_kind kind other && bytes_eq digest k)
      (alike_entry other) (apart_entry other) table keys)
      ∙ found_if (list_any (λ k. is_same_kind kind other && bytes_eq digest k) keys) (find (is_entry kind digest) table)
      ∙ ap (λ b. list_any (λ k. is_same_kind kind other && bytes_eq digest k) keys && b)
      (sym (any_found (is_entry kind digest) table))

first_has : (b has : Bool) → ((true && has) || (b && has)) ≡ has
first_has true true = refl
first_has true false = refl
first_has false true = refl
first_has false false = refl

second_has : (b has : Bool) → ((b && has) || (true && has)) ≡ has
second_has true true = refl
second_has true false = refl
second_has false true = refl
second_has false false = refl

-- the keys of entries that were gathered for digests of images and for certificates
pub shows_listed : (kind : ListedKind) (digest : List ℕ) (t : Tables) (digests certificates : List (List ℕ))
    → is_among (keys_for (record { digests = digests; certificates = certificates }) kind) digest ≡ true
    → list_any (is_listing kind digest) (flat_map (listings_of kinds.Digest t) digests ++ flat_map
    (listings_of kinds.Certificate t) certificates) ≡ has_entry kind digest t.listed
shows_listed kind digest t digests certificates asked =
    list_any-append (is_listing kind digest) (flat_map (listings_of kinds.Digest t) digests)
    (flat_map (listings_of kinds.Certificate t) certificates)
    ∙ ap (λ b. b || list_any (is_listing kind digest) (flat_map (listings_of kinds.Certificate t) certificates))
    (of_kind kind digest t.listed kinds.Digest digests)
    ∙ ap (λ b. (list_any
    (λ k. is_same_kind kind kinds.Digest && bytes_eq digest k) digests && has_entry kind digest t.listed) || b)
    (of_kind kind digest t.listed kinds.Certificate certificates)
    ∙ go kind asked
  where
    go : (k : ListedKind) → is_among (keys_for (record { digests = digests; certificates = certificates }) k) digest ≡ true
        → ((list_any (λ x. is_same_kind k kinds.Digest && bytes_eq digest x) digests && has_entry kind digest t.listed) ||
        (list_any (λ x. is_same_kind k kinds.Certificate && bytes_eq digest x) certificates && has_entry kind digest t.listed))
        ≡ has_entry kind digest t.listed
    go kinds.Digest h = ap (λ b. (b && has_entry kind digest t.listed) || (list_any
        (λ x. is_same_kind kinds.Digest kinds.Certificate && bytes_eq digest x) certificates && has_entry kind digest t.listed)) h
        ∙ first_has (list_any (λ x. is_same_kind kinds.Digest kinds.Certificate && bytes_eq digest x) certificates)
        (has_entry kind digest t.listed)
    go kinds.Certificate h = ap (λ b. (list_any
        (λ x. is_same_kind kinds.Certificate kinds.Digest && bytes_eq digest x) digests && has_entry kind digest t.listed) ||
        (b && has_entry kind digest t.listed)) h
        ∙ second_has (list_any (λ x. is_same_kind kinds.Certificate kinds.Digest && bytes_eq digest x) digests)
        (has_entry kind digest t.listed)

-- ---- rows gathered from nothing

pub gathered_listed : (k : EntryKeys) (start mid rows : List Listing) → start ≡ [] → (t : Tables)
    → Gathers (listings_of kinds.Digest) k.digests start mid t
    → Gathers (listings_of kinds.Certificate) k.certificates mid rows t → ShowsListed rows k t
gathered_listed k start mid rows none t a b kind digest asked =
    ap (list_any (is_listing kind digest)) (b ∙ ap (λ l. l ++ flat_map (listings_of kinds.Certificate t) k.certificates) (a
    ∙ ap (λ l. l ++ flat_map (listings_of kinds.Digest t) k.digests) none))
    ∙ shows_listed kind digest t k.digests k.certificates asked

pub gathered_revoked : (kind : ListedKind) (keys start rows : List (List ℕ)) → start ≡ [] → (t : Tables)
    → Gathers (revocations_of kind) keys start rows t → (digest : List ℕ) → IsTrue (is_among keys digest)
    → is_among rows digest ≡ is_among (revoked_rows t kind) digest
gathered_revoked kind keys start rows none t a digest asked =
    ap (λ l. is_among l digest) (a ∙ ap (λ l. l ++ flat_map (revocations_of kind t) keys) none)
    ∙ shows_revoked digest (revoked_rows t kind) keys asked

pub gathered_components : (named start rows : List Component) → start ≡ [] → (t : Tables)
    → Gathers levels_of named start rows t → (name : List ℕ) → IsTrue (is_among (map (λ x. x.name) named) name)
    → find (is_named name) rows ≡ find (is_named name) t.components
gathered_components named start rows none t a name asked =
    ap (find (is_named name)) (a ∙ ap (λ l. l ++ flat_map (levels_of t) named) none)
    ∙ shows_components name t.components named asked

-- the three lists together
pub shows_lists : (v : ListView) (k : Keys) (t : Tables) → ShowsListed v.listed.items k.listed t
    → ((digest : List ℕ) → IsTrue (is_among k.revoked.digests digest)
    → is_among v.revoked_digests.items digest ≡ is_among t.revoked_digests digest)
    → ((digest : List ℕ) → IsTrue (is_among k.revoked.certificates digest)
    → is_among v.revoked_certificates.items digest ≡ is_among t.revoked_certificates digest)
    → ((name : List ℕ) → IsTrue (is_among k.names name)
    → find (is_named name) v.components.items ≡ find (is_named name) t.components)
    → ShowsLists v t k
shows_lists v k t listed digests certificates components = record { revoked = go; listed = listed; components = components }
  where
    go : (kind : ListedKind) (digest : List ℕ) → IsTrue (is_among (keys_for k.revoked kind) digest)
        → is_among (seen_revoked v kind) digest ≡ is_among (revoked_rows t kind) digest
    go kinds.Digest = digests
    go kinds.Certificate = certificates

-- ---- no row but those of the keys

abbrev IsOfKey : EntryKeys → Listing → Type 0
IsOfKey k x = IsTrue (is_among (keys_for k x.kind) x.digest)

abbrev IsOfKind : ListedKind → EntryKeys → Listing → Type 0
IsOfKind kind k x = (x.kind ≡ kind) × IsTrue (is_among (keys_for k kind) x.digest)

of_kind_key : (kind : ListedKind) (k : EntryKeys) (x : Listing) → IsOfKind kind k x → IsOfKey k x
of_kind_key kind k x h = subst (λ a. IsTrue (is_among (keys_for k a) x.digest)) (sym h.0) h.1

pub only_listed : (k : EntryKeys) (start mid rows : List Listing) → start ≡ [] → PutsOnly (IsOfKind kinds.Digest k) start mid
    → PutsOnly (IsOfKind kinds.Certificate k) mid rows → All (IsOfKey k) rows
only_listed k start mid rows none a b =
    All-same (IsOfKey k) rows (a.more ++ b.more) (b.is ∙ ap (λ l. l ++ b.more) (a.is ∙ ap (λ l. l ++ a.more) none))
    (All-append (IsOfKey k) a.more b.more
    (All-weaker (IsOfKind kinds.Digest k) (IsOfKey k) (of_kind_key kinds.Digest k) a.more a.all)
    (All-weaker (IsOfKind kinds.Certificate k) (IsOfKey k) (of_kind_key kinds.Certificate k) b.more b.all))
