-- Views of digests in order, which are also views of the digests that were named.
use Rattle.std.proofs.Common.{◌≡◌, ℕ, List, ap, subst, sym, ◌∙◌, IsTrue}
use Rattle.std.specs.Prelude.{All, bytes_eq}
use Rattle.std.specs.List.{Contains}
use Rattle.std.proofs.lemmas.List.Elements.{All-weaker}
use Rattle.std.proofs.lemmas.List.Folds.{Any-from_list_any, list_any_at}
use Rattle.base.specs.Digests.{IsArranged}
use Rattle.sbat.specs.declared.component.Component.{Component}
use Rattle.desk_types.specs.declared.kind.ListedKind.{ListedKind}
use Rattle.desk_types.specs.declared.kind.ListedKind.TheVariants as kinds
use Rattle.desk_history.specs.Calls.{is_among}
use Rattle.desk_history.specs.Tables.{Tables}
use Rattle.desk_rules.specs.declared.list_view.ListView.{ListView}
use Rattle.desk_rules.specs.Views.{EntryKeys, ShowsLists, keys_for, revoked_rows, seen_revoked}
use Rattle.store_decision_rows.specs.lists.Gathering.{barring_keys}
use Rattle.store_decision_rows.specs.lists.Lists.{HoldsNoOther}

-- lists equal to these are arranged so too
pub arranged_as : (named digests ordered images : List (List ℕ)) → named ≡ digests → images ≡ ordered
    → IsArranged named ordered → IsArranged digests images
arranged_as named digests ordered images same is h =
    subst (λ l. IsArranged digests l) (sym is) (subst (λ l. IsArranged l ordered) same h)

-- a text among some is among others that hold each of these
kept_among : (xs ys : List (List ℕ)) → ((d : List ℕ) → Contains xs d → Contains ys d)
    → (d : List ℕ) → IsTrue (is_among xs d) → IsTrue (is_among ys d)
kept_among xs ys all d h =
    let found = Any-from_list_any (bytes_eq d) xs h in
    let there = all found.1 (found.0, found.2, found.3) in
    list_any_at (bytes_eq d) ys there.0 found.1 there.1 (ap (bytes_eq d) there.2 ∙ found.4)

abbrev pub entries : List (List ℕ) → List (List ℕ) → EntryKeys
entries digests certificates = record { digests = digests; certificates = certificates }

module _ (v : ListView) (named : List Component) (images certificates digests certs : List (List ℕ))
    (first : IsArranged digests images) (second : IsArranged certs certificates) where
  pub shows_named : (t : Tables) → ShowsLists v t (barring_keys (entries images certificates) named)
      → ShowsLists v t (barring_keys (entries digests certs) named)
  shows_named t s = record { revoked = go; listed = s.listed; components = s.components }
    where
      go : (kind : ListedKind) (d : List ℕ) → IsTrue (is_among (keys_for (entries digests certs) kind) d)
          → is_among (seen_revoked v kind) d ≡ is_among (revoked_rows t kind) d
      go kinds.Digest d h = s.revoked kinds.Digest d (kept_among digests images first.all d h)
      go kinds.Certificate d h = s.revoked kinds.Certificate d (kept_among certs certificates second.all d h)

  pub holds_named : HoldsNoOther v (barring_keys (entries images certificates) named)
      → HoldsNoOther v (barring_keys (entries digests certs) named)
  holds_named s = record { listed = s.listed; revoked = go; components = s.components }
    where
      go : (kind : ListedKind) → All (λ d. IsTrue (is_among (keys_for (entries digests certs) kind) d)) (seen_revoked v kind)
      go kinds.Digest = All-weaker (λ d. IsTrue (is_among images d)) (λ d. IsTrue (is_among digests d))
          (kept_among images digests first.no_other) (seen_revoked v kinds.Digest) (s.revoked kinds.Digest)
      go kinds.Certificate = All-weaker (λ d. IsTrue (is_among certificates d)) (λ d. IsTrue (is_among certs d))
          (kept_among certificates certs second.no_other) (seen_revoked v kinds.Certificate) (s.revoked kinds.Certificate)
