-- The gathering of rows by keys, key by key. Auditors needn't believe these words.
use Rattle.std.specs.Prelude.{◌≡◌, ℕ, List, ◌++◌, map, filter, flat_map, bytes_eq, All, IsTrue}
use Rattle.std.specs.List.{list_any}
use Rattle.sbat.specs.declared.component.Component.{Component}
use Rattle.desk_types.specs.declared.command.Listing.{Listing}
use Rattle.desk_types.specs.declared.facts.Facts.{Facts}
use Rattle.desk_types.specs.declared.kind.ListedKind.{ListedKind}
use Rattle.desk_types.specs.Imports.{Imported}
use Rattle.desk_history.specs.Calls.{is_among}
use Rattle.desk_history.specs.Listing.{has_entry, is_entry}
use Rattle.desk_history.specs.Tables.{Tables}
use Rattle.desk_history.specs.Writes.{is_named}
use Rattle.desk_rules.specs.Keys.{no_keys, one_key}
use Rattle.desk_rules.specs.Shown.{key_of}
use Rattle.desk_rules.specs.Views as views
use Rattle.desk_rules.specs.Views.{EntryKeys, Keys, is_listing, keys_for, revoked_rows}
use Rattle.store_decision_rows.specs.declared.lists.keys.Digests.{Digests}

-- requested digests, as keys
abbrev pub entry_keys : Digests → EntryKeys
entry_keys d = record { digests = d.images.now; certificates = d.certificates.now }

-- the requested keys: of listed entries, of revoked entries, and the names of components
abbrev pub keys_of : Digests → Digests → List Component → Keys
keys_of listed revoked components = record {
  listed = entry_keys listed;
  revoked = entry_keys revoked;
  names = map
      (λ x. x.name) components;
}

-- the key of this kind among the listed entries, and no other key
abbrev pub listed_keys : ListedKind → List ℕ → Keys
listed_keys kind digest = record no_keys { listed = one_key kind digest }

-- the key of this kind among the revoked entries, and no other key
abbrev pub revoked_keys : ListedKind → List ℕ → Keys
revoked_keys kind digest = record no_keys { revoked = one_key kind digest }

-- these keys among the revoked entries, the names of these components in the level, and no other
-- key
abbrev pub barring_keys : EntryKeys → List Component → Keys
barring_keys revoked components = record no_keys {
  revoked = revoked;
  names = map
      (λ x. x.name) components;
}

-- all that an import names
abbrev pub import_keys : Imported → Keys
import_keys i = barring_keys (record { digests = i.digests; certificates = i.certificates }) i.components

-- all that these facts name, except listed entries
abbrev pub submission_keys : Facts → Keys
submission_keys x = barring_keys (views.revoked_keys x) x.components

-- the key of the listed entry of this kind and digest, if there is one
abbrev pub listings_of : ListedKind → Tables → List ℕ → List Listing
listings_of kind t digest = map key_of (filter (is_entry kind digest) t.listed)

-- the digest of this kind, if it is revoked
abbrev pub revocations_of : ListedKind → Tables → List ℕ → List (List ℕ)
revocations_of kind t digest = filter (bytes_eq digest) (revoked_rows t kind)

-- the level's component of the same name, if there is one
abbrev pub levels_of : Tables → Component → List Component
levels_of t named = filter (is_named named.name) t.components

-- the rows that the tables have of each of these keys were appended to the old ones
abbrev pub Gathers : {K X : Type 0} → (Tables → K → List X) → List K → List X → List X → Tables → Type 0
Gathers rows_of keys old new t = new ≡ old ++ flat_map (rows_of t) keys

-- all of the appended rows have this property
pub record PutsOnly {X : Type 0} (P : X → Type 0) (old new : List X) : Type 0 where
  pub more : List X
  pub is : new ≡ old ++ more
  pub all : All P more

-- for each of these keys the rows show whether the tables list it
abbrev pub ShowsListed : List Listing → EntryKeys → Tables → Type 0
ShowsListed rows k t = (kind : ListedKind) (digest : List ℕ) → IsTrue (is_among (keys_for k kind) digest)
    → list_any (is_listing kind digest) rows ≡ has_entry kind digest t.listed
