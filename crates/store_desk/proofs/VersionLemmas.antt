-- The version in a desk's row, by the tables of a history, and the result of an opening.
use Rattle.std.proofs.Common.{◌≡◌, ◌≢◌, ◌⊎◌, inl, inr, ℕ, ℤ, pos, List, [], ◌∷◌, length, refl, subst, sym, true, ◌∙◌, arith, IsTrue}
use Rattle.std.proofs.lemmas.List.Sorted.{IsPermutation-refl}
use Rattle.sqlite.proofs.Callers.{one_permutation}
use Rattle.sqlite.specs.Order.{Row}
use Rattle.sqlite.specs.Schema.{Schema}
use Rattle.sqlite.specs.State.{State, HasCleanDisk, Survives}
use Rattle.sqlite.proofs.StateLemmas.{survives_then}
use Rattle.base.specs.declared.refusal.Refusal.{Refusal}
use Rattle.base.specs.declared.refusal.Refusal.TheVariants as refusals
use Rattle.desk_history.specs.Calls.{History}
use Rattle.desk_history.specs.Formed.{IsHistory}
use Rattle.desk_history.specs.Level.{stamp}
use Rattle.desk_history.specs.Tables.{tables}
use Rattle.store_reads.specs.Failures.{IsFailure}
use Rattle.store_sql.proofs.LayoutLemmas.{is_alone}
use Rattle.store_sql.specs.Layouts.{Fits, Layout}
use Rattle.store_schema.specs.Tables.{desk_layout, first_layout, first_schema}
use Rattle.store_schema.specs.rows.Values.{desk_values}
use Rattle.store_schema.specs.rows.Histories.{ShowsFirst, ShowsHistory, first_rows_of, rows_of}
use Rattle.store_migration.specs.Migrations.{KeepsShown, Migrates}
use Rattle.store_schema.specs.Names.{takes_an_added_name}
use Rattle.store_reads.specs.Own.{own_columns}
use Rattle.store_reads.specs.declared.desk_row.OwnRow.{OwnRow}
use Rattle.store_migration.proofs.NameLemmas.{none_taken}
use Rattle.store_desk.specs.Rows.{AreBy, AreOf, AreOfNone}
use Rattle.store_desk.specs.Steps.{AreShownAs, Brings, IsOwnOf, IsReadRefusal, ShowsRows}
use Rattle.store_desk.proofs.StampLemmas.{stamp_is_formed}

-- a desk of another version, by the rows of a desk's tables
abbrev pub ShowsOther : State → Type 0
ShowsOther s = (version : ℤ) × (version ≢ pos 1) × (version ≢ pos 2) × AreShownAs s version

-- a store of this layout has a name that version 2 adds
abbrev pub TakesAName : Layout → Type 0
TakesAName layout = (schema : Schema) × Fits layout schema × IsTrue (takes_an_added_name schema)

-- no desk, or one of version 1 in which a name that version 2 adds is taken
abbrev pub ShowsNone : State → Type 0
ShowsNone s = ShowsRows s (λ _ rows. AreOfNone rows) ⊎ ShowsRows s (λ layout rows. AreOf rows (pos 1) × TakesAName layout)

-- the row of a desk of this version with this owner and history
abbrev desk_row : List ℕ → ℕ → History → List Row
desk_row owner version cs = desk_values (record (tables owner cs).desk { version = version }) ∷ []

-- it reads as that of a desk of this version
reads_as : (owner : List ℕ) (version : ℕ) (cs : History) → length owner ≡ 16 → IsHistory cs → AreOf (desk_row owner version cs) (pos version)
reads_as owner version cs long history = (
  own_columns owner (pos version) (stamp cs) ∷ [],
  record { same = IsPermutation-refl (own_columns owner (pos version) (stamp cs) ∷ []); sorted = λ i d from below. absurd (omega (arith, below)) },
  (owner, stamp cs, (long, stamp_is_formed cs history.formed, refl)),
)

same_version : (a b : List ℕ) (n m : ℤ) (s t : ℕ) → ◌≡◌ {A = List Row} (own_columns a n s ∷ []) (own_columns b m t ∷ []) → m ≡ n
same_version a b n m s t e = cc

same_owner : (a b : List ℕ) (n m : ℤ) (s t : ℕ) → ◌≡◌ {A = List Row} (own_columns a n s ∷ []) (own_columns b m t ∷ []) → b ≡ a
same_owner a b n m s t e = cc

same_stamp : (a b : List ℕ) (n m : ℤ) (s t : ℕ) → ◌≡◌ {A = List Row} (own_columns a n s ∷ []) (own_columns b m t ∷ []) → t ≡ s
same_stamp a b n m s t e = cc

-- and of no other
reads_as_one : (owner : List ℕ) (n : ℕ) (cs : History) (version : ℤ) → AreOf (desk_row owner n cs) version → version ≡ pos n
reads_as_one owner n cs version it =
    let answer = one_permutation (own_columns owner (pos n) (stamp cs)) it.0 it.1.same in
    let reads = it.2 in
    same_version owner reads.0 (pos n) version (stamp cs) reads.1 (sym answer ∙ reads.2.2)

-- nor of another owner or with another stamp
reads_by_one : (owner : List ℕ) (n : ℕ) (cs : History) (own : OwnRow) → AreBy (desk_row owner n cs) own → (own.owner ≡ owner) × (own.stamp ≡ stamp cs)
reads_by_one owner n cs own it =
    let answer = one_permutation (own_columns owner (pos n) (stamp cs)) it.0 it.1.same in
    let same = sym answer ∙ it.2.2 in
    (same_owner owner own.owner (pos n) own.version (stamp cs) own.stamp same, same_stamp owner own.owner (pos n) own.version (stamp cs) own.stamp same)

-- what was read is that of each history that is shown
pub one_own : (s : State) (own : OwnRow) → ShowsRows s (λ _ rows. AreBy rows own) → IsOwnOf s own
one_own s own reads o cs (inl early) = reads_by_one o 1 cs own (reads first_layout (first_rows_of o cs) (desk_row o 1 cs) (inl refl) early.1 refl)
one_own s own reads o cs (inr shows) = reads_by_one o 2 cs own (reads desk_layout (rows_of o cs) (desk_row o 2 cs) (inr refl) shows refl)

-- the twelve tables of version 1 have none of the names
takes_none : TakesAName first_layout → ⊥
takes_none (schema, fits, takes) =
    let there : takes_an_added_name first_schema ≡ true = subst (λ (x : Schema). takes_an_added_name x ≡ true) (is_alone first_schema schema fits) takes in
    let clash = sym there ∙ none_taken in cc

module _ (s : State) (owner : List ℕ) (cs : History) where
  -- the tables of a history of version 2 read as those of version 2
  pub second_version : (version : ℤ) → AreShownAs s version → ShowsHistory s owner cs → version ≡ pos 2
  second_version version reads shows = reads_as_one owner 2 cs version (reads desk_layout (rows_of owner cs) (desk_row owner 2 cs) (inr refl) shows refl)

  -- and those of version 1 as those of version 1
  pub first_version : (version : ℤ) → AreShownAs s version → ShowsFirst s owner cs → version ≡ pos 1
  first_version version reads shows = reads_as_one owner 1 cs version (reads first_layout (first_rows_of owner cs) (desk_row owner 1 cs) (inl refl) shows.1 refl)

  -- so an opening of a desk of version 2 fails only with its device
  pub second_fails : (refusal : Refusal) → (refusal ≡ refusals.Version) ⊎ IsReadRefusal refusal → (refusal ≡ refusals.Version → ShowsOther s) → (refusal ≡ refusals.NotADesk → ShowsNone s)
      → length owner ≡ 16 → IsHistory cs → ShowsHistory s owner cs → IsFailure refusal
  second_fails refusal (inl is) other none long history shows =
      let found = other is in
      absurd (found.2 (second_version found.0 found.3 shows))
  second_fails refusal (inr (inr failed)) other none long history shows = failed
  second_fails refusal (inr (inl is)) other none long history shows = elim (none is) [
    | inl unread ↦ absurd (unread desk_layout (rows_of owner cs) (desk_row owner 2 cs) (inr refl) shows refl (pos 2) (reads_as owner 2 cs long history))
    | inr taken ↦ absurd (let one = reads_as_one owner 2 cs (pos 1) (taken desk_layout (rows_of owner cs) (desk_row owner 2 cs) (inr refl) shows refl).0 in cc)
  ]

  -- and one of version 1 too
  pub first_fails : (refusal : Refusal) → (refusal ≡ refusals.Version) ⊎ IsReadRefusal refusal → (refusal ≡ refusals.Version → ShowsOther s) → (refusal ≡ refusals.NotADesk → ShowsNone s)
      → length owner ≡ 16 → IsHistory cs → ShowsFirst s owner cs → IsFailure refusal
  first_fails refusal (inl is) other none long history shows =
      let found = other is in
      absurd (found.1 (first_version found.0 found.3 shows))
  first_fails refusal (inr (inr failed)) other none long history shows = failed
  first_fails refusal (inr (inl is)) other none long history shows = elim (none is) [
    | inl unread ↦ absurd (unread first_layout (first_rows_of owner cs) (desk_row owner 1 cs) (inl refl) shows.1 refl (pos 1) (reads_as owner 1 cs long history))
    | inr taken ↦ absurd (takes_none (taken first_layout (first_rows_of owner cs) (desk_row owner 1 cs) (inl refl) shows.1 refl).1)
  ]

  -- an opening of a desk of version 2 commits nothing
  pub second_spared : (new : State) → Survives s new (Brings s) → ShowsHistory s owner cs → Survives s new (λ _. ⊥)
  second_spared new it shows = record {
    clean = it.clean;
    shield = it.shield;
    counts = it.counts;
    limit = it.limit;
    closes = it.closes;
    crash = λ clean db may. elim (it.crash clean db may) [
      | inl was ↦ inl was
      | inr brings ↦ absurd (let one = second_version (pos 1) brings.0 shows in cc)
    ];
  }

-- the tables after a stop in a migration, by those of the connection before the version was read
pub brought_left : (s mid new : State) → Survives s mid (λ _. ⊥) → Survives mid new (Migrates mid) → (HasCleanDisk mid → AreShownAs s (pos 1)) → (HasCleanDisk mid → KeepsShown s mid) → Survives s new (Brings s)
brought_left s mid new one two reads shown = survives_then s mid new (λ _. ⊥) (Migrates mid) (Brings s)
    (λ _ db none. absurd none)
    (λ clean db migrates. let late : HasCleanDisk mid = omega (arith, two.clean, clean) in
    (reads late, λ owner cs early. migrates owner cs (early.0, shown late first_layout (first_rows_of owner cs) early.1)))
    one two
