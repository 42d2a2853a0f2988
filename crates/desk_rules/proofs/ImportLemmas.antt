-- Writes of an import's components.
use Rattle.std.proofs.Common.{◌≡◌, ℕ, ◌<◌, ◌≤◌, ◌+◌, Bool, true, false, not, ◌&&◌, ◌||◌, cond, max, List, [], ◌∷◌, ◌++◌, map, filter, length, Option, Some, None, refl, sym, ◌∙◌, ap, arith, take, get_or}
use Rattle.std.specs.Prelude.{if◌then◌else◌, find, reverse, bytes_eq, option_map, unwrap_or, is_some, IsTrue}
use Rattle.std.specs.List.{list_any}
use Rattle.std.specs.FinMap.{get}
use Rattle.std.proofs.lemmas.Bool.{and_parts, ltb-true, ltb-false}
use Rattle.std.proofs.lemmas.Bool.Decides.{nat_tests}
use Rattle.std.proofs.lemmas.List.{reverse-append, take_more}
use Rattle.std.proofs.lemmas.List.Folds.{list_any-append, list_any_at}
use Rattle.std.proofs.lemmas.Map.Text.{is_eq-slice_cmp}
use Rattle.sbat.specs.declared.component.Component.{Component}
use Rattle.sbat.specs.Levels.{Generations, greater, raised}
use Rattle.sbat.proofs.GenerationLemmas.{get-raised, ties}
use Rattle.desk_history.specs.Calls.{is_among, distinct}
use Rattle.desk_history.specs.Level.{greatest, greater_of, is_above, is_sbat, names}
use Rattle.desk_types.specs.Raising.{names_no_sbat}
use Rattle.desk_history.specs.Tables.{level_row, level_rows}
use Rattle.desk_history.specs.Writes.{all_written, is_named, written}
use Rattle.desk_rules.specs.declared.decisions.imports.SoFar.{SoFar}
use Rattle.desk_rules.specs.DecisionSteps.{put_of}
use Rattle.desk_rules.specs.ImportSteps.{HasTaken, is_raise, or_else, raised_names, rose}
use Rattle.desk_rules.specs.Room.{takes_off}
use Rattle.desk_rules.specs.Views.{generation_in}
use Rattle.desk_rules.proofs.LevelDecisions.{puts_none, row_other, rows_put}
use Rattle.desk_history.proofs.CountLemmas.{one_if}
use Rattle.desk_history.proofs.ListLemmas.{bytes_eq-refl, same_text}
use Rattle.desk_rules.proofs.StandingLemmas.{named_some}
use Rattle.desk_history.proofs.WriteLemmas.{written-append}

greater_above : (g : ℕ) (o : Option ℕ) → is_above g o ≡ true → greater_of g o ≡ g
greater_above g None h = refl
greater_above g (Some m) h = let lt : m < g = ltb-true m g h in omega arith

greater_below : (g : ℕ) (o : Option ℕ) → is_above g o ≡ false → Some (greater_of g o) ≡ o
greater_below g None h = cc
greater_below g (Some m) h = let le : g ≤ m = ltb-false m g h in ap (λ n. Some n) (omega arith)

-- a generation above the greatest of more components is above that of fewer
above_fewer : (g : ℕ) (n : List ℕ) (seen old : List Component) → is_above g (greatest (seen ++ old) n) ≡ true → is_above g (greatest old n) ≡ true
above_fewer g n [] old h = h
above_fewer g n (x ∷ seen) old h =
    elim (bytes_eq n x.name) as (λ b. is_above g (if b then Some (greater_of x.generation (greatest (seen ++ old) n)) else greatest (seen ++ old) n) ≡ true → is_above g (greatest old n) ≡ true) [
      | true ↦ λ k. above_fewer g n seen old (above_greater (greatest (seen ++ old) n) k)
      | false ↦ λ k. above_fewer g n seen old k
    ] h
  where
    above_greater : (o : Option ℕ) → is_above g (Some (greater_of x.generation o)) ≡ true → is_above g o ≡ true
    above_greater None k = refl
    above_greater (Some m) k = grind (arith, ltb-true (max x.generation m) g k, nat_tests)

-- a component that isn't above changes no row
row_below : (x : Component) (named : List Component) → is_above x.generation (greatest named x.name) ≡ false → (n : List ℕ) → level_row (x ∷ named) n ≡ level_row named n
row_below x named below n =
    elim (bytes_eq n x.name) as (λ b. bytes_eq n x.name ≡ b → level_row (x ∷ named) n ≡ level_row named n) [
      | true ↦ λ e.
          ap (λ b. record { name = n; generation = unwrap_or (if b then Some (greater_of x.generation (greatest named n)) else greatest named n) 0 }) e
          ∙ ap (λ o. record { name = n; generation = unwrap_or o 0 }) (greater_below x.generation (greatest named n) (ap (λ k. is_above x.generation (greatest named k)) (same_text n x.name e) ∙ below))
      | false ↦ λ e. row_other x named n e
    ] refl

map_same : {A B : Type 0} (f g : A → B) → ((a : A) → f a ≡ g a) → (xs : List A) → map f xs ≡ map g xs
map_same f g each [] = refl
map_same f g each (x ∷ xs) = ap (λ y. y ∷ map f xs) (each x) ∙ ap (λ ys. g x ∷ ys) (map_same f g each xs)

there_below : (g : ℕ) (o : Option ℕ) → is_above g o ≡ false → is_some o ≡ true
there_below g None h = sym h
there_below g (Some m) h = refl

rows_below : (x : Component) (named : List Component) → is_above x.generation (greatest named x.name) ≡ false → level_rows (x ∷ named) ≡ level_rows named
rows_below x named below =
    ap (λ b. map (level_row (x ∷ named)) (if b then names named else x.name ∷ names named)) (named_some named x.name ∙ there_below x.generation (greatest named x.name) below)
    ∙ map_same (level_row (x ∷ named)) (level_row named) (row_below x named below) (names named)

rose_self : (o : Option ℕ) → rose o o ≡ false
rose_self None = refl
rose_self (Some n) = grind (arith, nat_tests)

rose_more : (g : ℕ) (now before : Option ℕ) → rose (Some (greater_of g now)) before ≡ (is_above g before || rose now before)
rose_more g None before = or_no (is_above g before)
  where
    or_no : (b : Bool) → b ≡ (b || false)
    or_no true = refl
    or_no false = refl
rose_more g (Some n) None = refl
rose_more g (Some n) (Some m) = grind (arith, nat_tests)

rose_between : (g : ℕ) (now before : Option ℕ) → is_above g now ≡ false → is_above g before ≡ true → rose now before ≡ true
rose_between g None before below above = cc
rose_between g (Some n) None below above = refl
rose_between g (Some n) (Some m) below above = grind (arith, nat_tests, below, above)

-- a name is raised so far exactly where its generation rose
pub names_rose : (old seen : List Component) (q : List ℕ) → is_among (raised_names old seen) q ≡ rose (greatest (seen ++ old) q) (greatest old q)
names_rose old [] q = sym (rose_self (greatest old q))
names_rose old (x ∷ seen) q =
    elim (bytes_eq q x.name) as (λ b. bytes_eq q x.name ≡ b → is_among (raised_names old (x ∷ seen)) q ≡ rose (if b then Some (greater_of x.generation (greatest (seen ++ old) q)) else greatest (seen ++ old) q) (greatest old q)) [
      | true ↦ λ e.
          front (is_raise old x)
          ∙ (ap (λ b. (is_raise old x && b) || is_among (raised_names old seen) q) e
          ∙ (ap (λ b. b || is_among (raised_names old seen) q) (and_true (is_raise old x))
          ∙ (ap (λ n. is_above x.generation (greatest old n) || is_among (raised_names old seen) q) (sym (same_text q x.name e))
          ∙ (ap (λ b. is_above x.generation (greatest old q) || b) (names_rose old seen q)
          ∙ sym (rose_more x.generation (greatest (seen ++ old) q) (greatest old q))))))
      | false ↦ λ e.
          front (is_raise old x)
          ∙ (ap (λ b. (is_raise old x && b) || is_among (raised_names old seen) q) e
          ∙ (ap (λ b. b || is_among (raised_names old seen) q) (and_false (is_raise old x))
          ∙ names_rose old seen q))
    ] refl
  where
    front : (b : Bool) → is_among (map (λ (y : Component). y.name) (cond b (x ∷ filter (is_raise old) seen) (filter (is_raise old) seen))) q ≡ ((b && bytes_eq q x.name) || is_among (raised_names old seen) q)
    front true = refl
    front false = refl

    and_true : (b : Bool) → (b && true) ≡ b
    and_true true = refl
    and_true false = refl

    and_false : (b : Bool) → (b && false) ≡ false
    and_false true = refl
    and_false false = refl

-- levels of rows

or_else_none : (o : Option ℕ) → o ≡ or_else o None
or_else_none None = refl
or_else_none (Some n) = refl

ties_same : (q x : List ℕ) → ties q x ≡ bytes_eq q x
ties_same q x = is_eq-slice_cmp q x

greater_turned : (o : Option ℕ) (g : ℕ) → greater o g ≡ greater_of g o
greater_turned None g = refl
greater_turned (Some m) g = omega arith

-- a component that is raised is one more
pub greatest_more : (m : Generations) (x : Component) (seen : List Component) (q : List ℕ) → get m q ≡ greatest seen q → get (raised m x) q ≡ greatest (x ∷ seen) q
greatest_more m x seen q before =
    get-raised m x q
    ∙ (ap (λ b. cond b (Some (greater (get m q) x.generation)) (get m q)) (ties_same q x.name)
    ∙ (ap (λ o. cond (bytes_eq q x.name) (Some (greater o x.generation)) o) before
    ∙ ap (λ n. cond (bytes_eq q x.name) (Some n) (greatest seen q)) (greater_turned (greatest seen q) x.generation)))

-- a new name has its row's generation
pub row_taken : (m : Generations) (row : Component) → get m row.name ≡ None → (q : List ℕ) → get (raised m row) q ≡ or_else (get m q) (generation_in (row ∷ []) q)
row_taken m row none q =
    get-raised m row q
    ∙ (ap (λ b. cond b (Some (greater (get m q) row.generation)) (get m q)) (ties_same q row.name)
    ∙ elim (bytes_eq q row.name) as (λ b. bytes_eq q row.name ≡ b → cond b (Some (greater (get m q) row.generation)) (get m q) ≡ or_else (get m q) (option_map (λ (r : Component). r.generation) (if b then Some row else None))) [
      | true ↦ λ e. (let missing : get m q ≡ None = ap (λ n. get m n) (same_text q row.name e) ∙ none in
          ap (λ o. Some (greater o row.generation)) missing ∙ sym (ap (λ o. or_else o (Some row.generation)) missing))
      | false ↦ λ e. or_else_none (get m q)
    ] refl)

generation_append : (xs : List Component) (x : Component) (q : List ℕ) → generation_in (xs ++ x ∷ []) q ≡ or_else (generation_in xs q) (generation_in (x ∷ []) q)
generation_append [] x q = refl
generation_append (y ∷ xs) x q =
    elim (bytes_eq q y.name) as (λ b. option_map (λ (r : Component). r.generation) (if b then Some y else find (is_named q) (xs ++ x ∷ [])) ≡ or_else (option_map (λ (r : Component). r.generation) (if b then Some y else find (is_named q) xs)) (generation_in (x ∷ []) q)) [
      | true ↦ refl
      | false ↦ generation_append xs x q
    ]

pub rows_more : (rows : List Component) (i : ℕ) (row : Component) (old new : Option ℕ) (q : List ℕ) → i < length rows → row ≡ get_or rows i row → old ≡ generation_in (take i rows) q → new ≡ or_else old (generation_in (row ∷ []) q) →
    new ≡ generation_in (take (i + 1) rows) q
rows_more rows i row old new q lt is before after =
    after ∙ (ap (λ o. or_else o (generation_in (row ∷ []) q)) before ∙ (sym (generation_append (take i rows) row q)
    ∙ ap (λ ls. generation_in ls q) (sym (take_more rows i row lt ∙ ap (λ y. take i rows ++ y ∷ []) (sym is)))))

-- one component of an import more

module _ (asked old seen : List Component) (x : Component) (s : SoFar) (is_asked : IsTrue (is_among (map (λ y. y.name) asked) x.name)) (before : HasTaken asked old seen s) where
  current : get s.level.generations x.name ≡ greatest (seen ++ old) x.name
  current = before.level x.name is_asked

  pub takes_below : is_above x.generation (get s.level.generations x.name) ≡ false → HasTaken asked old (x ∷ seen) s
  takes_below below =
      let under : is_above x.generation (greatest (seen ++ old) x.name) ≡ false = ap (λ o. is_above x.generation o) (sym current) ∙ below in
      record {
        other = before.other;
        level = λ q h. before.level q h ∙ sym (elim (bytes_eq q x.name) as (λ b. bytes_eq q x.name ≡ b → (if b then Some (greater_of x.generation (greatest (seen ++ old) q)) else greatest (seen ++ old) q) ≡ greatest (seen ++ old) q) [
          | true ↦ λ e. greater_below x.generation (greatest (seen ++ old) q) (ap (λ k. is_above x.generation (greatest (seen ++ old) k)) (same_text q x.name e) ∙ under)
          | false ↦ λ e. refl
        ] refl);
        count = elim (is_raise old x) as (λ b. is_raise old x ≡ b → length (distinct (map (λ (y : Component). y.name) (cond b (x ∷ filter (is_raise old) seen) (filter (is_raise old) seen)))) ≡ s.names) [
          | true ↦ λ e. ap (λ b. length (if b then distinct (raised_names old seen) else x.name ∷ distinct (raised_names old seen))) (names_rose old seen x.name ∙ rose_between x.generation (greatest (seen ++ old) x.name) (greatest old x.name) under e) ∙ before.count
          | false ↦ λ e. before.count
        ] refl;
        written = λ t rows. before.written t rows ∙ ap (λ rs. record t { components = rs }) (sym (rows_below x (seen ++ old) under));
        kept = before.kept;
      }

  pub takes_above : (prev : Generations) → get prev x.name ≡ greatest old x.name → is_above x.generation (get s.level.generations x.name) ≡ true → (after : SoFar) →
      after.level.generations ≡ raised s.level.generations x → after.writes.items ≡ s.writes.items ++ put_of (get s.level.generations x.name) x ∷ [] →
      after.names ≡ s.names + one_if (not (rose (get s.level.generations x.name) (get prev x.name))) → HasTaken asked old (x ∷ seen) after
  takes_above prev was above after leveled wrote counted =
      let over : is_above x.generation (greatest (seen ++ old) x.name) ≡ true = ap (λ o. is_above x.generation o) (sym current) ∙ above in
      let raises : is_raise old x ≡ true = above_fewer x.generation x.name seen old over in
      let risen : is_among (raised_names old seen) x.name ≡ rose (get s.level.generations x.name) (get prev x.name) =
      names_rose old seen x.name ∙ (ap (λ o. rose o (greatest old x.name)) (sym current) ∙ ap (λ o. rose (get s.level.generations x.name) o) (sym was)) in
      record {
        other = before.other;
        level = λ q h. ap (λ m. get m q) leveled ∙ greatest_more s.level.generations x (seen ++ old) q (before.level q h);
        count =
            ap (λ b. length (distinct (map (λ (y : Component). y.name) (cond b (x ∷ filter (is_raise old) seen) (filter (is_raise old) seen))))) raises
            ∙ (ap (λ b. length (if b then distinct (raised_names old seen) else x.name ∷ distinct (raised_names old seen))) risen
            ∙ (one_more (rose (get s.level.generations x.name) (get prev x.name)) ∙ sym counted));
        written = λ t rows.
            ap (λ ws. all_written ws t) wrote
            ∙ (written-append s.writes.items (put_of (get s.level.generations x.name) x ∷ []) t
            ∙ (ap (λ u. written (put_of (get s.level.generations x.name) x) u) (before.written t rows)
            ∙ rows_put x (seen ++ old) (get s.level.generations x.name) (sym current) above (record t { components = level_rows (seen ++ old) }) refl));
        kept =
            ap (λ ws. list_any takes_off ws) wrote
            ∙ (list_any-append takes_off s.writes.items (put_of (get s.level.generations x.name) x ∷ [])
            ∙ (ap (λ b. b || list_any takes_off (put_of (get s.level.generations x.name) x ∷ [])) before.kept
            ∙ ap (λ b. b || false) (puts_none (get s.level.generations x.name) x)));
      }
    where
      one_more : (b : Bool) → length (if b then distinct (raised_names old seen) else x.name ∷ distinct (raised_names old seen)) ≡ s.names + one_if (not b)
      one_more true = (let h : length (distinct (raised_names old seen)) ≡ s.names = before.count in omega arith)
      one_more false = (let h : length (distinct (raised_names old seen)) ≡ s.names = before.count in omega arith)

-- over all components of an import

pub reverse_take : (xs : List Component) (i : ℕ) (x : Component) → i < length xs → x ≡ get_or xs i x → reverse (take (i + 1) xs) ≡ x ∷ reverse (take i xs)
reverse_take xs i x lt is = ap reverse (take_more xs i x lt ∙ ap (λ y. take i xs ++ y ∷ []) (sym is)) ∙ reverse-append (take i xs) (x ∷ [])

pub name_among : (xs : List Component) (i : ℕ) (x : Component) → i < length xs → x ≡ get_or xs i x → is_among (map (λ y. y.name) xs) x.name ≡ true
name_among xs i x lt is = among_any x.name xs ∙ list_any_at (λ (y : Component). bytes_eq x.name y.name) xs i x lt (ap (λ (y : Component). bytes_eq x.name y.name) (sym is) ∙ bytes_eq-refl x.name)
  where
    among_any : (n : List ℕ) (ys : List Component) → is_among (map (λ y. y.name) ys) n ≡ list_any (λ (y : Component). bytes_eq n y.name) ys
    among_any n [] = refl
    among_any n (y ∷ ys) = ap (λ b. bytes_eq n y.name || b) (among_any n ys)

-- a name of an import isn't `sbat`
pub no_sbat : (xs : List Component) → names_no_sbat xs ≡ true → (q : List ℕ) → is_among (map (λ y. y.name) xs) q ≡ true → is_sbat q ≡ false
no_sbat [] h q asked = cc
no_sbat (x ∷ xs) h q asked =
    let both : (not (is_sbat x.name) ≡ true) × (names_no_sbat xs ≡ true) = and_parts (not (is_sbat x.name)) (names_no_sbat xs) h in
    elim (bytes_eq q x.name) as (λ b. bytes_eq q x.name ≡ b → (b || is_among (map (λ y. y.name) xs) q) ≡ true → is_sbat q ≡ false) [
      | true ↦ λ e k. ap is_sbat (same_text q x.name e) ∙ denied (is_sbat x.name) both.0
      | false ↦ λ e k. no_sbat xs both.1 q k
    ] refl asked
  where
    denied : (b : Bool) → not b ≡ true → b ≡ false
    denied false k = refl
    denied true k = cc
