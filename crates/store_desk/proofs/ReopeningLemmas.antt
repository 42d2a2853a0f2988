-- The step from the last commit of a connection to the history that it shows, and to a desk that is
-- opened over it.
use Rattle.std.proofs.Common.{◌≡◌, inl, inr, List, [], ap, sym, subst, ◌∙◌, IsTrue, false}
use Rattle.std.proofs.Math.Logic.{∥∥₁_elim}
use Rattle.sqlite.specs.Effect.{Database}
use Rattle.sqlite.specs.Order.{Row}
use Rattle.sqlite.specs.Schema.{Schema}
use Rattle.sqlite.specs.State.{State, IsLive}
use Rattle.sqlite_catalog.specs.Listing.{AreListed}
use Rattle.sqlite_trees.specs.Objects.{catalog_tree}
use Rattle.base.specs.declared.refusal.Refusal.{Refusal}
use Rattle.base.specs.declared.refusal.Refusal.TheVariants as refusals
use Rattle.store_reads.specs.Failures.{IsFailure}
use Rattle.store_desk.specs.Steps.{IsReadRefusal}
use Rattle.store_sql.specs.Contents.{AreTablesOf, Contents, IsDatabaseIn}
use Rattle.store_sql.specs.Layouts.{Fits, Layout}
use Rattle.store_sql.specs.States.{Shows}
use Rattle.store_sql.proofs.ContentLemmas.{catalog_of}

-- a connection shows the tables of its last commit: their catalog lists their schema, and so no
-- other
pub shown_by_catalog : (s : State) (layout : Layout) (c : Contents) → layout.schema.views ≡ []
    → ((objects : List Row) (one other : Schema) → one.views ≡ [] → AreListed objects one → AreListed objects other → one ≡ other)
    → IsLive s → (IsTrue s.is_open → s.now ≡ s.committed) → s.in_transaction ≡ false → AreTablesOf layout s.committed.trees c → Shows layout s c
shown_by_catalog s layout c no_view one_schema live settled outside holds = record {
  outside = outside;
  holds = λ clean is_open.
      let now = settled is_open in
      let mine : AreTablesOf layout s.now.trees c = subst (λ (d : Database). AreTablesOf layout d.trees c) (sym now) holds in
      let it = mine.sound in
      let none : it.schema.views ≡ [] = ap (λ (x : Schema). x.views) it.fits.is ∙ no_view in
      let same : it.schema ≡ s.now.schema = one_schema (s.now.trees catalog_tree) it.schema s.now.schema none (catalog_of it.schema s.now.trees it.sound) (live is_open).0.lists.listed in
      (record { fits = subst (Fits layout) same it.fits; sound = subst (λ x. IsDatabaseIn x s.now.trees) same it.sound; rows = mine.rows }, now);
}

-- a thing that exists isn't missing
pub not_missing : {A : Type 0} → ∥ A ∥₁ → (A → ⊥) → ⊥
not_missing there none = ∥∥₁_elim there (λ x y. absurd x) none

-- a device's failure isn't that there is no desk
pub no_failure : (refusal : Refusal) → refusal ≡ refusals.NotADesk → IsFailure refusal → ⊥
no_failure refusal is (inl memory) = let e = sym memory ∙ is in cc
no_failure refusal is (inr store) = let e = sym store ∙ is in cc

-- nor that it is of another version
pub no_version : (refusal : Refusal) → refusal ≡ refusals.Version → IsFailure refusal → ⊥
no_version refusal is (inl memory) = let e = sym memory ∙ is in cc
no_version refusal is (inr store) = let e = sym store ∙ is in cc

-- nor is it, or that there is none, another version
pub never_version : (refusal : Refusal) → refusal ≡ refusals.Version → IsReadRefusal refusal → ⊥
never_version refusal is (inl none) = let e = sym none ∙ is in cc
never_version refusal is (inr (inl memory)) = let e = sym memory ∙ is in cc
never_version refusal is (inr (inr store)) = let e = sym store ∙ is in cc
