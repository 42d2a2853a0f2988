-- One key more.
use Rattle.std.proofs.Common.{◌≡◌, ℕ, ◌<◌, ◌+◌, List, [], ◌∷◌, ◌++◌, take, length, get_or, add-one, append-nil, arith, append_assoc, Option, Some, None, sym, ap, subst, ◌∙◌, map, true, IsTrue}
use Rattle.std.specs.Prelude.{All, IfSome, flat_map, bytes_eq}
use Rattle.std.proofs.Math.Seq.{take-suc}
use Rattle.std.proofs.lemmas.List.{flat_map_more}
use Rattle.std.proofs.lemmas.List.Elements.{All-append, All-cons, All-nil}
use Rattle.std.proofs.lemmas.List.Folds.{list_any_at}
use Rattle.sqlite.specs.State.{HasCleanDisk, State, Survives}
use Rattle.sbat.specs.declared.component.Component.{Component}
use Rattle.desk_types.specs.declared.command.Listing.{Listing}
use Rattle.desk_types.specs.declared.kind.ListedKind.{ListedKind}
use Rattle.desk_history.specs.Calls.{is_among}
use Rattle.desk_history.specs.Tables.{Tables}
use Rattle.desk_history.proofs.ListLemmas.{bytes_eq-refl}
use Rattle.store_reads.specs.Reads.{ReadsTables, listed}
use Rattle.store_decision_rows.specs.lists.Gathering.{Gathers, PutsOnly}
use Rattle.store_decision_rows.proofs.ListedFindLemmas.{any_map}
use Rattle.store_decision_rows.proofs.StepLemmas.{spares_then}
use Rattle.store_reads.proofs.TellsLemmas.{tells_so, tells_then}

module _ {K X : Type 0} (rows_of : Tables → K → List X) (keys : List K) where
  pub gathers_none : (rows : List X) (t : Tables) → Gathers rows_of [] rows rows t
  gathers_none rows t = sym (append-nil rows)

  module _ (i : ℕ) (key : K) (start before after : List X) (found : Option X) where
    next : i < length keys → key ≡ get_or keys i key → after ≡ before ++ listed found
        → (t : Tables) → Gathers rows_of (take i keys) start before t × (rows_of t key ≡ listed found)
        → Gathers rows_of (take (i + 1) keys) start after t
    next low is put t told =
        put ∙ ap (λ l. before ++ l) (sym told.1) ∙ ap (λ l. l ++ rows_of t key) told.0
        ∙ flat_map_more (rows_of t) start (take i keys) key
        ∙ ap (λ l. start ++ flat_map (rows_of t) l)
        (sym (ap (λ k. take k keys) (add-one i) ∙ take-suc keys i key low ∙ ap (λ x. take i keys ++ x ∷ []) (sym is)))

    -- the rows that the tables have for one key more were appended
    pub gathers_next : (first mid new : State) → i < length keys → key ≡ get_or keys i key → after ≡ before ++ listed found
        → ReadsTables (Gathers rows_of (take i keys) start before) first mid → ReadsTables (λ t. rows_of t key ≡ listed found) mid new
        → ReadsTables (Gathers rows_of (take (i + 1) keys) start after) first new
    gathers_next first mid new low is put a b =
        tells_so first new (λ t. Gathers rows_of (take i keys) start before t × (rows_of t key ≡ listed found))
        (Gathers rows_of (take (i + 1) keys) start after)
        (next low is put) (tells_then first mid new (Gathers rows_of (take i keys) start before)
        (λ t. rows_of t key ≡ listed found) a b)

module _ {X : Type 0} (P : X → Type 0) where
  pub puts_none : (rows : List X) → PutsOnly P rows rows
  puts_none rows = record { more = []; is = sym (append-nil rows); all = All-nil P }

  all_listed : (found : Option X) → IfSome found P → All P (listed found)
  all_listed None h = All-nil P
  all_listed (Some x) h = All-cons P x [] h (All-nil P)

  pub puts_next : (start before after : List X) (found : Option X) → after ≡ before ++ listed found → IfSome found P
      → PutsOnly P start before → PutsOnly P start after
  puts_next start before after found put holds a = record {
    more = a.more ++ listed found;
    is = put ∙ ap (λ l. l ++ listed found) a.is ∙ append_assoc start a.more (listed found);
    all = All-append P a.more (listed found) a.all (all_listed found holds);
  }

-- ---- the loop over the keys

module _ {K X : Type 0} (rows_of : Tables → K → List X) (keys : List K) (P : X → Type 0) (start : List X) where
  -- after the first keys, in the state that the reads left
  abbrev pub Gathered : ℕ → List X → State → State → Type 0
  Gathered i rows first now = Survives first now (λ _. ⊥)
      × (HasCleanDisk now → IsTrue first.in_transaction → ReadsTables (Gathers rows_of (take i keys) start rows) first now)
      × PutsOnly P start rows

  pub gathered_next : (i : ℕ) (key : K) (before after : List X) (found : Option X) (first mid new : State)
      → i < length keys → key ≡ get_or keys i key → after ≡ before ++ listed found → IfSome found P
      → Survives mid new (λ _. ⊥) → (HasCleanDisk new → IsTrue mid.in_transaction → ReadsTables (λ t. rows_of t key ≡ listed found) mid new)
      → Gathered i before first mid → Gathered (i + 1) after first new
  gathered_next i key before after found first mid new low is put holds spares read had = (
    spares_then first mid new had.0 spares,
    λ clean inside.
        let late : HasCleanDisk mid = omega (arith, spares.clean, clean) in
        let stood = had.1 late inside in
        gathers_next rows_of keys i key start before after found first mid new low is put stood (read clean stood.kept.inside),
    puts_next P start before after found put holds had.2,
  )

-- ---- each of a list of keys is among them

pub is_key : (keys : List (List ℕ)) (i : ℕ) (key : List ℕ) → i < length keys → key ≡ get_or keys i key
    → IsTrue (is_among keys key)
is_key keys i key low is = list_any_at (bytes_eq key) keys i key low (subst (λ k. bytes_eq key k ≡ true) is (bytes_eq-refl key))

pub is_name : (named : List Component) (i : ℕ) (x : Component) → i < length named → x ≡ get_or named i x
    → IsTrue (is_among (map (λ y. y.name) named) x.name)
is_name named i x low is =
    any_map (λ (y : Component). y.name) (bytes_eq x.name) named
    ∙ list_any_at (λ (y : Component). bytes_eq x.name y.name) named i x low
    (subst (λ (y : Component). bytes_eq x.name y.name ≡ true) is (bytes_eq-refl x.name))

some_so : {X : Type 0} (P Q : X → Type 0) → ((x : X) → P x → Q x) → (found : Option X) → IfSome found P → IfSome found Q
some_so P Q so None h = h
some_so P Q so (Some x) h = so x h

pub is_key_found : (keys : List (List ℕ)) (key : List ℕ) → IsTrue (is_among keys key) → (found : Option (List ℕ))
    → IfSome found (λ x. x ≡ key) → IfSome found (λ x. IsTrue (is_among keys x))
is_key_found keys key among found h = some_so (λ x. x ≡ key) (λ x. IsTrue (is_among keys x))
    (λ x is. subst (λ k. IsTrue (is_among keys k)) (sym is) among) found h

pub is_listing_found : (kind : ListedKind) (keys : List (List ℕ)) (key : List ℕ) → IsTrue (is_among keys key)
    → (found : Option Listing) → IfSome found (λ x. x ≡ record { kind = kind; digest = key })
    → IfSome found (λ x. (x.kind ≡ kind) × IsTrue (is_among keys x.digest))
is_listing_found kind keys key among found h =
    some_so (λ (x : Listing). x ≡ record { kind = kind; digest = key })
    (λ (x : Listing). (x.kind ≡ kind) × IsTrue (is_among keys x.digest))
    (λ x is. (
      ap (λ (y : Listing). y.kind) is,
      subst (λ k. IsTrue (is_among keys k))
          (sym (ap (λ (y : Listing). y.digest) is)) among,
    )) found h

pub is_name_found : (names : List (List ℕ)) (name : List ℕ) → IsTrue (is_among names name) → (found : Option Component)
    → IfSome found (λ x. x.name ≡ name) → IfSome found (λ x. IsTrue (is_among names x.name))
is_name_found names name among found h =
    some_so (λ (x : Component). x.name ≡ name) (λ (x : Component). IsTrue (is_among names x.name))
    (λ x is. subst (λ k. IsTrue (is_among names k)) (sym is) among) found h
