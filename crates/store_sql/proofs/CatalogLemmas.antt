-- Rows of `sqlite_schema`: each is that of one table or one index.
use Rattle.std.proofs.Common.{◌≡◌, ◌+◌, ◌<◌, ℕ, pos, true, false, List, [], ◌∷◌, ◌++◌, Ok, Some, codes, slice_get, refl, sym, ap, ap₂, subst, ◌∙◌, arith}
use Rattle.std.specs.List.{AllZip}
use Rattle.std.specs.Fmt.{decimal}
use Rattle.std.proofs.lemmas.Fmt.{decimal_injective}
use Rattle.std.proofs.lemmas.List.{append_cancel_left}
use Rattle.sqlite_value.specs.declared.value.Value.{Value}
use Rattle.sqlite_value.specs.declared.value.Value.TheVariants.{Null, Int, Real, Text, Blob}
use Rattle.sqlite_value.specs.Order.{Row, column}
use Rattle.sqlite_trees.specs.Tree.{IsAscending, rowid}
use Rattle.sqlite_resolve.specs.Compile.{table_defined_by}
use Rattle.sqlite_schema.specs.Names.{same_name}
use Rattle.sqlite_schema.specs.declared.schema.Index.{Index}
use Rattle.sqlite_schema.specs.declared.schema.Table.{Table}
use Rattle.sqlite_catalog.proofs.StepLemmas.{named_once, same_itself}
use Rattle.sqlite_catalog.specs.Listing.{IsDefined, IsIndexRow, IsTableRow, automatic}

-- a row id of a tree's number plus 1 is that of one tree
one_tree : (v : Value) (m n : ℕ) → v ≡ Int (pos (m + 1)) → v ≡ Int (pos (n + 1)) → m ≡ n
one_tree v m n a b = let e : m + 1 ≡ n + 1 = (let k = sym a ∙ b in cc) in omega (arith, e)

one_text : (v : Value) (a b : List ℕ) → v ≡ Text a → v ≡ Text b → a ≡ b
one_text v a b p q = let k = sym p ∙ q in cc

pub same_table : (row : Row) (s t : Table) → IsTableRow row s → IsTableRow row t → s ≡ t
same_table row s t a b =
    let sql : a.sql ≡ b.sql = one_text (column row 4) a.sql b.sql a.sql_is b.sql_is in
    let both : Ok a.defined.0 ≡ Ok b.defined.0 = sym a.defined.1 ∙ ap table_defined_by sql ∙ b.defined.1 in
    let made : a.defined.0 ≡ b.defined.0 = cc in
    let tree : s.tree ≡ t.tree = one_tree (rowid row) s.tree t.tree a.described.id b.described.id in
    a.defined.2 ∙ ap₂ (λ (m : Table) k. record m { tree = k }) made tree ∙ sym b.defined.2

pub same_tables : (rows : List Row) (ss ts : List Table) → AllZip IsTableRow rows ss → AllZip IsTableRow rows ts → ss ≡ ts
same_tables [] [] [] a b = refl
same_tables [] [] (t ∷ ts) a b = absurd b
same_tables [] (s ∷ ss) ts a b = absurd a
same_tables (row ∷ rows) [] ts a b = absurd a
same_tables (row ∷ rows) (s ∷ ss) [] a b = absurd b
same_tables (row ∷ rows) (s ∷ ss) (t ∷ ts) a b = ap₂ (λ x xs. x ∷ xs) (same_table row s t a.0 b.0) (same_tables rows ss ts a.1 b.1)

-- ---- indexes

abbrev number_of : Table → ℕ → List ℕ
number_of table at = codes "sqlite_autoindex_" ++ (table.name ++ (codes "_" ++ decimal (at + 1)))

one_number : (table : Table) (m n : ℕ) → m < 65536 → n < 65536 → number_of table m ≡ number_of table n → m ≡ n
one_number table m n low few is =
    let a = append_cancel_left (codes "sqlite_autoindex_") (table.name ++ (codes "_" ++ decimal (m + 1))) (table.name ++ (codes "_" ++ decimal (n + 1))) is in
    let b = append_cancel_left table.name (codes "_" ++ decimal (m + 1)) (codes "_" ++ decimal (n + 1)) a in
    let d = append_cancel_left (codes "_") (decimal (m + 1)) (decimal (n + 1)) b in
    let e : m + 1 ≡ n + 1 = decimal_injective (m + 1) (n + 1) (omega (arith, low)) (omega (arith, few)) d in
    omega (arith, e)

same_definition : (table : Table) (i j : Index) (v : Value) → i.name ≡ j.name → i.tree ≡ j.tree → IsDefined table i v → IsDefined table j v → i ≡ j
same_definition table i j Null name tree a b =
    let names : number_of table a.0 ≡ number_of table b.0 = sym (ap (λ (x : Index). x.name) a.3) ∙ name ∙ ap (λ (x : Index). x.name) b.3 in
    let at : a.0 ≡ b.0 = one_number table a.0 b.0 a.4 b.4 names in
    let keys : Some a.1 ≡ Some b.1 = sym a.2 ∙ ap (slice_get table.uniques) at ∙ b.2 in
    let key : a.1 ≡ b.1 = cc in
    a.3 ∙ ap₂ (λ n k. automatic table n k i.tree) at key ∙ ap (automatic table b.0 b.1) tree ∙ sym b.3
same_definition table i j (Int n) name tree a b = absurd a
same_definition table i j (Real x) name tree a b = absurd a
same_definition table i j (Text sql) name tree a b =
    let both : Ok a.0 ≡ Ok b.0 = sym a.1 ∙ b.1 in
    let made : a.0 ≡ b.0 = cc in
    a.2 ∙ ap₂ (λ (m : Index) k. record m { tree = k; table = table.tree }) made tree ∙ sym b.2
same_definition table i j (Blob x) name tree a b = absurd a

pub same_index : (tables : List Table) (row : Row) (i j : Index) → IsAscending (λ s t. same_name s.name t.name ≡ false) tables → IsIndexRow tables row i → IsIndexRow tables row j → i ≡ j
same_index tables row i j named a b =
    let owner : a.table.name ≡ b.table.name = one_text (column row 3) a.table.name b.table.name a.described.owner_is b.described.owner_is in
    let table : a.table ≡ b.table = named_once tables a.table b.table named a.listed b.listed (subst (λ n. same_name a.table.name n ≡ true) owner (same_itself a.table.name)) in
    let name : i.name ≡ j.name = one_text (column row 2) i.name j.name a.described.name_is b.described.name_is in
    let tree : i.tree ≡ j.tree = one_tree (rowid row) i.tree j.tree a.described.id b.described.id in
    same_definition a.table i j (column row 4) name tree a.defined (subst (λ (t : Table). IsDefined t j (column row 4)) (sym table) b.defined)

pub same_indexes : (tables : List Table) (rows : List Row) (is js : List Index) → IsAscending (λ s t. same_name s.name t.name ≡ false) tables
    → AllZip (IsIndexRow tables) rows is → AllZip (IsIndexRow tables) rows js → is ≡ js
same_indexes tables [] [] [] named a b = refl
same_indexes tables [] [] (j ∷ js) named a b = absurd b
same_indexes tables [] (i ∷ is) js named a b = absurd a
same_indexes tables (row ∷ rows) [] js named a b = absurd a
same_indexes tables (row ∷ rows) (i ∷ is) [] named a b = absurd b
same_indexes tables (row ∷ rows) (i ∷ is) (j ∷ js) named a b = ap₂ (λ x xs. x ∷ xs) (same_index tables row i j named a.0 b.0) (same_indexes tables rows is js named a.1 b.1)

-- where the rows list nothing of one kind, every list of it is empty
pub none_listed : {X : Type 0} (R : Row → X → Type 0) (rows : List Row) (xs : List X) → AllZip R rows [] → AllZip R rows xs → xs ≡ []
none_listed R [] [] a b = refl
none_listed R [] (x ∷ xs) a b = absurd b
none_listed R (row ∷ rows) xs a b = absurd a
