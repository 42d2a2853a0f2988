-- Views: rows of the tables for a verdict or a decision, and the rows that they must show.
use Rattle.std.specs.Prelude.{◌≡◌, ℕ, Bool, ◌&&◌, if◌then◌else◌, List, [], ◌∷◌, map, find, Option, Some, option_map, bytes_eq, IsTrue}
use Rattle.std.specs.List.{list_any}
use Rattle.sbat.specs.declared.component.Component.{Component}
use Rattle.desk_types.specs.declared.command.Listing.{Listing}
use Rattle.desk_types.specs.declared.facts.Facts.{Facts}
use Rattle.desk_types.specs.declared.kind.ListedKind.{ListedKind}
use Rattle.desk_types.specs.declared.kind.ListedKind.TheVariants as kinds
use Rattle.desk_history.specs.Calls.{History, is_among, is_same_kind}
use Rattle.desk_history.specs.Level.{is_sbat}
use Rattle.desk_history.specs.Listing.{has_entry}
use Rattle.desk_history.specs.Tables.{Tables, tables}
use Rattle.desk_history.specs.Writes.{is_named}
use Rattle.desk_history.specs.declared.finding.Verdict.{Verdict}
use Rattle.desk_rules.specs.declared.list_view.ListView.{ListView}
use Rattle.desk_history.specs.Verdicts.{Standing, verdict}

-- the listing has this kind and digest
abbrev pub is_listing : ListedKind → List ℕ → Listing → Bool
is_listing kind digest l = is_same_kind kind l.kind && bytes_eq digest l.digest

-- the revoked digests of this kind in a view
abbrev pub seen_revoked : ListView → ListedKind → List (List ℕ)
seen_revoked v kinds.Digest = v.revoked_digests.items
seen_revoked v kinds.Certificate = v.revoked_certificates.items

-- the revoked digests of this kind in the tables
abbrev pub revoked_rows : Tables → ListedKind → List (List ℕ)
revoked_rows t kinds.Digest = t.revoked_digests
revoked_rows t kinds.Certificate = t.revoked_certificates

-- the generation in the row of this name
abbrev pub generation_in : List Component → List ℕ → Option ℕ
generation_in rows name = option_map (λ row. row.generation) (find (is_named name) rows)

-- the revoked and the listed entries and the required generations, by the rows of a view
abbrev pub seen_standing : ListView → Standing
seen_standing v = record {
  revoked = λ kind digest. is_among (seen_revoked v kind) digest;
  listed = λ kind digest. list_any (is_listing kind digest) v.listed.items;
  required = λ name. if is_sbat name then Some 1 else generation_in v.components.items name;
}

-- keys of entries: digests of images and of certificates
pub record EntryKeys : Type 0 where
  pub digests : List (List ℕ)
  pub certificates : List (List ℕ)

-- the keys of this kind
abbrev pub keys_for : EntryKeys → ListedKind → List (List ℕ)
keys_for k kinds.Digest = k.digests
keys_for k kinds.Certificate = k.certificates

-- no key
abbrev pub no_entries : EntryKeys
no_entries = record { digests = []; certificates = [] }

-- the keys that a verdict or a decision reads: of the listed and the revoked entries, and names of
-- the level
pub record Keys : Type 0 where
  pub listed : EntryKeys
  pub revoked : EntryKeys
  pub names : List (List ℕ)

-- the keys of an image's facts among the listed entries: its digest, and the certificates that it
-- carries
abbrev pub listed_keys : Facts → EntryKeys
listed_keys x = record { digests = x.digest ∷ []; certificates = x.carried }

-- their keys among the revoked entries: also the digest that a signature of the image holds
abbrev pub revoked_keys : Facts → EntryKeys
revoked_keys x = record { digests = x.digest ∷ x.signing ∷ []; certificates = x.carried }

-- their keys in the level: the names of the image's components
abbrev pub component_names : Facts → List (List ℕ)
component_names x = map (λ y. y.name) x.components

-- all keys of an image's facts
abbrev pub keys_of : Facts → Keys
keys_of x = record { listed = listed_keys x; revoked = revoked_keys x; names = component_names x }

-- For each of these keys the view has the tables' row, or none if they have none. It may have other
-- rows.
pub record ShowsLists (v : ListView) (t : Tables) (k : Keys) : Type 0 where
  pub revoked : (kind : ListedKind) (digest : List ℕ) → IsTrue (is_among (keys_for k.revoked kind) digest)
      → is_among (seen_revoked v kind) digest ≡ is_among (revoked_rows t kind) digest
  pub listed : (kind : ListedKind) (digest : List ℕ) → IsTrue (is_among (keys_for k.listed kind) digest)
      → list_any (is_listing kind digest) v.listed.items ≡ has_entry kind digest t.listed
  pub components : (name : List ℕ) → IsTrue (is_among k.names name)
      → find (is_named name) v.components.items ≡ find (is_named name) t.components

-- on each history that the view shows for the image, this is the verdict
abbrev pub SaysVerdict : ListView → Facts → Verdict → Type 0
SaysVerdict v x said =
    (owner : List ℕ) (cs : History) → ShowsLists v (tables owner cs) (keys_of x) → said ≡ verdict cs x
