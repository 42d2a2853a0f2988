-- The only row of a key, which has that key.
use Rattle.std.proofs.Common.{◌≡◌, ℕ, Bool, true, false, List, [], ◌∷◌, map, refl, sym, ap, ◌∙◌}
use Rattle.std.specs.Prelude.{bytes_eq, filter, if◌then◌else◌}
use Rattle.std.proofs.lemmas.Bool.{and_parts}
use Rattle.sbat.specs.declared.component.Component.{Component}
use Rattle.desk_types.specs.declared.command.Listing.{Listing}
use Rattle.desk_types.specs.declared.kind.ListedKind.{ListedKind}
use Rattle.desk_types.specs.declared.kind.ListedKind.TheVariants as kinds
use Rattle.desk_history.specs.declared.rows.Entry.{Entry}
use Rattle.desk_history.specs.Calls.{is_same_kind}
use Rattle.desk_history.specs.Listing.{is_entry}
use Rattle.desk_history.specs.Writes.{is_named}
use Rattle.desk_history.specs.Tables.{Tables}
use Rattle.desk_history.proofs.ListLemmas.{same_text}
use Rattle.store_decision_rows.specs.lists.Gathering.{revocations_of}
use Rattle.store_reads.specs.Reads.{revoked_in}
use Rattle.desk_rules.specs.Shown.{key_of}

passes : {X : Type 0} (p : X → Bool) (xs : List X) (x : X) → filter p xs ≡ x ∷ [] → p x ≡ true
passes p [] x e = absurd cc
passes p (y ∷ ys) x e = elim (p y) as (λ b. p y ≡ b → (if b then y ∷ filter p ys else filter p ys) ≡ x ∷ [] → p x ≡ true) [
  | true ↦ λ is f. (let same : y ≡ x = cc in ap p (sym same) ∙ is)
  | false ↦ λ is f. passes p ys x f
] refl e

same_kind : (a b : ListedKind) → is_same_kind a b ≡ true → a ≡ b
same_kind kinds.Digest kinds.Digest h = refl
same_kind kinds.Digest kinds.Certificate h = absurd cc
same_kind kinds.Certificate kinds.Digest h = absurd cc
same_kind kinds.Certificate kinds.Certificate h = refl

pub only_digest : (digest : List ℕ) (xs : List (List ℕ)) (x : List ℕ) → filter (bytes_eq digest) xs ≡ x ∷ []
    → filter (bytes_eq digest) xs ≡ digest ∷ []
only_digest digest xs x h = h ∙ ap (λ y. y ∷ []) (sym (same_text digest x (passes (bytes_eq digest) xs x h)))

-- the revoked digests of a kind, as a read gives them
pub told_revoked : (kind : ListedKind) (t : Tables) (digest : List ℕ) (xs : List (List ℕ)) → filter (bytes_eq digest) (revoked_in kind t) ≡ xs → revocations_of kind t digest ≡ xs
told_revoked kinds.Digest t digest xs h = h
told_revoked kinds.Certificate t digest xs h = h

abbrev listing : ListedKind → List ℕ → Listing
listing kind digest = record { kind = kind; digest = digest }

abbrev named : List ℕ → ℕ → Component
named name generation = record { name = name; generation = generation }

pub only_listing : (kind : ListedKind) (digest : List ℕ) (xs : List Entry) (x : Entry)
    → filter (is_entry kind digest) xs ≡ x ∷ []
    → map key_of (filter (is_entry kind digest) xs) ≡ record { kind = kind; digest = digest } ∷ []
only_listing kind digest xs x h =
    let parts : (is_same_kind kind x.kind ≡ true) × (bytes_eq digest x.digest ≡ true) = and_parts (is_same_kind kind x.kind)
    (bytes_eq digest x.digest) (passes (is_entry kind digest) xs x h) in
    ap (map key_of) h ∙ ap (λ k. listing k x.digest ∷ []) (sym (same_kind kind x.kind parts.0))
    ∙ ap (λ d. listing kind d ∷ []) (sym (same_text digest x.digest parts.1))

pub only_component : (name : List ℕ) (xs : List Component) (x : Component) → filter (is_named name) xs ≡ x ∷ []
    → filter (is_named name) xs ≡ record { name = name; generation = x.generation } ∷ []
only_component name xs x h = h ∙ ap (λ n. named n x.generation ∷ []) (sym (same_text name x.name (passes (is_named name) xs x h)))
