-- Tables and indexes that are made after those of a layout.
use Rattle.std.proofs.Common.{◌≡◌, ◌<◌, inl, inr, ℕ, ◌==◌, true, not, List, [], ◌∷◌, ◌++◌, refl, sym, ap, ap₂, subst, arith, ◌∙◌, ◌+◌, IsTrue, append-nil}
use Rattle.std.specs.List.{AllByRecursion}
use Rattle.std.proofs.lemmas.Bool.{and_from}
use Rattle.std.proofs.lemmas.List.{append_assoc}
use Rattle.sqlite.specs.Schema.{Schema}
use Rattle.sqlite.specs.Table.{Table}
use Rattle.sqlite_catalog.proofs.StepLemmas.{table_below}
use Rattle.sqlite_catalog.specs.Change.{automatics, created, indexed, next_tree}
use Rattle.sqlite_rules.proofs.ListLemmas.{has_left}
use Rattle.sqlite_rules.specs.Lists.{Has}
use Rattle.sqlite_schema.specs.declared.schema.Index.{Index}
use Rattle.store_sql.specs.Layouts.{Fits, Layout, NamesNone, Others, RefersToNone, are_other, beside}

-- what comes last comes after the others
more_others : (schema first : Schema) (others : Others) (tables : List Table) (indexes : List Index) → schema ≡ beside first others
    → record { tables = schema.tables ++ tables; indexes = schema.indexes ++ indexes; views = schema.views } ≡ beside first (record { tables = others.tables ++ tables; indexes = others.indexes ++ indexes })
more_others schema first others tables indexes is =
    ap (λ (s : Schema). record { tables = s.tables ++ tables; indexes = s.indexes ++ indexes; views = s.views }) is
    ∙ ap₂ (λ ts is. record { tables = ts; indexes = is; views = first.views }) (append_assoc first.tables others.tables tables) (append_assoc first.indexes others.indexes indexes)

other_tree : (tree next : ℕ) → tree < next → not (tree == next) ≡ true
other_tree tree next below = grind arith

-- a tree above those of the tables is none of them
new_tree : (tables : List Table) (tree : ℕ) → ((t : Table) → Has tables t → t.tree < tree) → are_other tree tables ≡ true
new_tree [] tree below = refl
new_tree (t ∷ ts) tree below = and_from _ _ (other_tree t.tree tree (below t (inl refl))) (new_tree ts tree (λ u has. below u (inr has)))

one_more : {X : Type 0} (P : X → Type 0) (xs : List X) (x : X) → AllByRecursion P xs → P x → AllByRecursion P (xs ++ x ∷ [])
one_more P [] x all here = (here, tt)
one_more P (y ∷ xs) x all here = (all.0, one_more P xs x all.1 here)

module _ (layout : Layout) (schema : Schema) (leads : IsTrue layout.leads) (fits : Fits layout schema) where
  pub table_fits : (table : Table) → NamesNone layout.schema.tables table → Fits layout (created schema table)
  table_fits table parents =
      let next = next_tree schema in
      let new : Table = record table { tree = next } in
      let first : (t : Table) → Has layout.schema.tables t → Has schema.tables t =
      (λ t has. subst (λ (s : Schema). Has s.tables t) (sym fits.is) (has_left layout.schema.tables fits.others.tables t has)) in
      record {
        others = record { tables = fits.others.tables ++ new ∷ []; indexes = fits.others.indexes ++ automatics new 0 (next_tree schema + 1) table.uniques };
        is = more_others schema layout.schema fits.others (new ∷ []) (automatics new 0 (next_tree schema + 1) table.uniques) fits.is;
        none = λ closed. absurd (let e = sym leads ∙ closed in cc);
        refer = one_more (RefersToNone layout.schema.tables) fits.others.tables new fits.refer (record {
          tree = new_tree layout.schema.tables next (λ t has. table_below schema t (first t has));
          parents = parents;
        });
      }

  pub index_fits : (table : Table) (index : Index) → Fits layout (indexed schema table index)
  index_fits table index =
      let new : Index = record index { tree = next_tree schema; table = table.tree } in
      record {
        others = record { tables = fits.others.tables ++ []; indexes = fits.others.indexes ++ new ∷ [] };
        is = ap (λ ts. record { tables = ts; indexes = schema.indexes ++ new ∷ []; views = schema.views }) (sym (append-nil schema.tables)) ∙ more_others schema layout.schema fits.others [] (new ∷ []) fits.is;
        none = λ closed. absurd (let e = sym leads ∙ closed in cc);
        refer = subst (AllByRecursion (RefersToNone layout.schema.tables)) (sym (append-nil fits.others.tables)) fits.refer;
      }
