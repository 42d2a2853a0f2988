-- A table of a schema where other tables that don't refer to it come after.
use Rattle.std.proofs.Common.{◌≡◌, inl, inr, ℕ, zero, suc, ◌==◌, Bool, true, false, not, List, [], ◌∷◌, ◌++◌, length, slice_get, Option, None, Some, refl, sym, ap, subst, arith}
use Rattle.std.specs.List.{AllByRecursion, flat_map, filter_map}
use Rattle.std.proofs.lemmas.Bool.{and_parts, and_from}
use Rattle.sqlite.specs.Order.{Row}
use Rattle.sqlite.specs.Schema.{Schema}
use Rattle.sqlite.specs.Table.{Table}
use Rattle.sqlite_rules.proofs.ListLemmas.{all_has, has_either}
use Rattle.sqlite_rules.proofs.PlaceLemmas.{named_parent}
use Rattle.sqlite_rules.specs.Action.{Work, deed_for, pairs, work_by, work_for, works}
use Rattle.sqlite_rules.specs.Lists.{Has}
use Rattle.sqlite_rules.specs.declared.action.Deed.{Deed}
use Rattle.sqlite_schema.specs.declared.schema.Keys.TheVariants.{Enforced}
use Rattle.sqlite_schema.specs.declared.schema.Reference.{Reference}
use Rattle.sqlite_schema.specs.Names.{same_name}
use Rattle.sqlite_schema.specs.Rules.{ParentKey, parent_key}
use Rattle.store_sql.specs.Layouts.{Fits, Layout, Others, RefersToNone, are_other, beside, is_apart}
use Rattle.store_sql.specs.Meanings.{StandsAt}

-- what holds beside any others holds of each schema that fits
pub beside_any : (layout : Layout) (P : Schema → Type 0) → ((others : Others) → AllByRecursion (RefersToNone layout.schema.tables) others.tables → P (beside layout.schema others))
    → (schema : Schema) → Fits layout schema → P schema
beside_any layout P each schema fits = subst P (sym fits.is) (each fits.others fits.refer)

-- ---- places and trees

place_beside : (tables more : List Table) (at : ℕ) (table : Table) → slice_get tables at ≡ Some table → slice_get (tables ++ more) at ≡ Some table
place_beside [] more at table is = absurd cc
place_beside (t ∷ ts) more zero table is = is
place_beside (t ∷ ts) more (suc at) table is = place_beside ts more at table is

apart_beside : (tables more : List Table) (at : ℕ) (table : Table) → slice_get tables at ≡ Some table → is_apart at table.tree tables ≡ true → are_other table.tree more ≡ true
    → is_apart at table.tree (tables ++ more) ≡ true
apart_beside [] more at table is apart other = absurd cc
apart_beside (t ∷ ts) more zero table is apart other = all_other ts apart
  where
    all_other : (ts : List Table) → are_other table.tree ts ≡ true → are_other table.tree (ts ++ more) ≡ true
    all_other [] h = other
    all_other (t ∷ ts) h = let parts = and_parts _ _ h in and_from _ _ parts.0 (all_other ts parts.1)
apart_beside (t ∷ ts) more (suc at) table is apart other = let parts = and_parts _ _ apart in and_from _ _ parts.0 (apart_beside ts more at table is parts.1 other)

turned : (a b : ℕ) → not (a == b) ≡ true → not (b == a) ≡ true
turned a b h = grind arith

-- a tree that none of the tables has isn't that of one of them
other_than : (tables : List Table) (at : ℕ) (table : Table) (tree : ℕ) → slice_get tables at ≡ Some table → are_other tree tables ≡ true → not (table.tree == tree) ≡ true
other_than [] at table tree is other = absurd cc
other_than (t ∷ ts) zero table tree is other = let it : t ≡ table = (let e = is in cc) in subst (λ (x : Table). not (x.tree == tree) ≡ true) it (and_parts _ _ other).0
other_than (t ∷ ts) (suc at) table tree is other = other_than ts at table tree is (and_parts _ _ other).1

other_trees : (tables more : List Table) (at : ℕ) (table : Table) → slice_get tables at ≡ Some table → AllByRecursion (RefersToNone tables) more → are_other table.tree more ≡ true
other_trees tables [] at table is refer = refl
other_trees tables (m ∷ more) at table is refer = and_from _ _ (turned table.tree m.tree (other_than tables at table m.tree is refer.0.tree)) (other_trees tables more at table is refer.1)

-- ---- foreign keys

has_other : (tables : List Table) (t : Table) (tree : ℕ) → Has tables t → are_other tree tables ≡ true → (t.tree == tree) ≡ false
has_other [] t tree has other = absurd has
has_other (x ∷ xs) t tree (inl same) other = subst (λ (y : Table). (y.tree == tree) ≡ false) (sym same) (unsaid (x.tree == tree) (and_parts _ _ other).0)
  where
    unsaid : (b : Bool) → not b ≡ true → b ≡ false
    unsaid true h = absurd (let e = h in cc)
    unsaid false h = refl
has_other (x ∷ xs) t tree (inr later) other = has_other xs t tree later (and_parts _ _ other).1

-- a parent whose name no table at first has comes after them, and so has another tree
parent_after : (tables more : List Table) (key : Reference) (parent : ParentKey) (tree : ℕ) → AllByRecursion (λ (t : Table). same_name t.name key.parent ≡ false) tables → are_other tree more ≡ true
    → parent_key (tables ++ more) key ≡ Some parent → (parent.0 == tree) ≡ false
parent_after tables more key parent tree unnamed other is =
    let it = named_parent (tables ++ more) key parent is in
    elim (has_either tables more it.0 it.1) [
      | inl first ↦ absurd (let no = all_has _ tables it.0 unnamed first in let yes = it.3 in cc)
      | inr after ↦ subst (λ n. (n == tree) ≡ false) it.2 (has_other more it.0 tree after other)
    ]

idle : (tree : ℕ) (moves : List (Row × Row)) (child : Table) (key : Reference) (deed : Option Deed) (parent : Option ParentKey)
    → ((p : ParentKey) → parent ≡ Some p → (p.0 == tree) ≡ false) → work_by 0 tree moves child key deed parent ≡ None
idle tree moves child key None parent elsewhere = refl
idle tree moves child key (Some deed) None elsewhere = refl
idle tree moves child key (Some deed) (Some p) elsewhere = rw (elsewhere p refl) refl

none_kept : {X Y : Type 0} (f : X → Option Y) (xs : List X) → AllByRecursion (λ x. f x ≡ None) xs → filter_map f xs ≡ []
none_kept f [] none = refl
none_kept f (x ∷ xs) none = rw none.0 (none_kept f xs none.1)

none_made : {X Y : Type 0} (f : X → List Y) (xs : List X) → AllByRecursion (λ x. f x ≡ []) xs → flat_map f xs ≡ []
none_made f [] none = refl
none_made f (x ∷ xs) none = rw none.0 (none_made f xs none.1)

both_lists : {X : Type 0} (P : X → Type 0) (xs ys : List X) → AllByRecursion P xs → AllByRecursion P ys → AllByRecursion P (xs ++ ys)
both_lists P [] ys a b = b
both_lists P (x ∷ xs) ys a b = (a.0, both_lists P xs ys a.1 b)

module _ (schema : Schema) (others : Others) (refer : AllByRecursion (RefersToNone schema.tables) others.tables) (alone : AllByRecursion (λ (t : Table). t.references ≡ []) schema.tables) where
  module _ (tree : ℕ) (other : are_other tree others.tables ≡ true) (olds news : List Row) where
    abbrev work : Table → Reference → Option Work
    work = work_for (beside schema others) Enforced 0 tree olds news

    abbrev made : Table → List Work
    made child = filter_map (work child) child.references

    own : (ts : List Table) → AllByRecursion (λ (t : Table). t.references ≡ []) ts → AllByRecursion (λ t. made t ≡ []) ts
    own [] none = tt
    own (t ∷ ts) none = (ap (filter_map (work t)) none.0, own ts none.1)

    keys_idle : (child : Table) (keys : List Reference) → AllByRecursion (λ (key : Reference). AllByRecursion (λ (t : Table). same_name t.name key.parent ≡ false) schema.tables) keys
        → AllByRecursion (λ key. work child key ≡ None) keys
    keys_idle child [] unnamed = tt
    keys_idle child (key ∷ keys) unnamed = (
      idle tree (pairs olds news) child key (deed_for Enforced (length news == 0) key) (parent_key (schema.tables ++ others.tables) key) (λ p is. parent_after schema.tables others.tables key p tree unnamed.0 other is),
      keys_idle child keys unnamed.1,
    )

    of_others : (ts : List Table) → AllByRecursion (RefersToNone schema.tables) ts → AllByRecursion (λ t. made t ≡ []) ts
    of_others [] refer = tt
    of_others (t ∷ ts) refer = (none_kept (work t) t.references (keys_idle t t.references refer.0.parents), of_others ts refer.1)

    no_works : works (beside schema others) Enforced 0 tree olds news ≡ []
    no_works = none_made made (schema.tables ++ others.tables) (both_lists (λ t. made t ≡ []) schema.tables others.tables (own schema.tables alone) (of_others others.tables refer))

  -- where the tables have no foreign keys, each stands as it did
  pub stands_beside : (at : ℕ) (table : Table) → slice_get schema.tables at ≡ Some table → is_apart at table.tree schema.tables ≡ true → StandsAt (beside schema others) at table
  stands_beside at table is apart =
      let other = other_trees schema.tables others.tables at table is refer in
      record {
        place = place_beside schema.tables others.tables at table is;
        apart = apart_beside schema.tables others.tables at table is apart other;
        quiet = no_works table.tree other;
      }
