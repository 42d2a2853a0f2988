-- Generations by names: what a row changes, and that the order of rows doesn't matter.
use Rattle.std.proofs.Common.{◌≡◌, ℕ, zero, suc, ◌+◌, ◌<◌, ◌≤◌, leb, max, Bool, true, false, cond, ◌⊎◌, List, [], ◌∷◌, length, get_or, Option, Some, None, refl, sym, ap, subst, ◌∙◌, inl, inr, arith}
use Rattle.std.specs.declared.cmp.Ordering.{Ordering}
use Rattle.std.specs.declared.cmp.Ordering.TheVariants.{Less, Equal, Greater}
use Rattle.std.specs.Cmp.Lexicographic.{nat_list_cmp_total, slice_cmp}
use Rattle.std.specs.FinMap.{IsAntisymmetric, contains_key, empty, get, get-empty, get-insert, get_tied, len, len-insert, nat_cmp-IsAntisymmetric, same_map, slice_cmp-IsAntisymmetric}
use Rattle.std.specs.List.{Contains}
use Rattle.std.specs.Ordering.{eq_by_cmp, is_eq, nat_cmp}
use Rattle.std.proofs.Math.Logic.{⊎_elim}
use Rattle.std.proofs.lemmas.Bool.Decides.{nat_tests}
use Rattle.std.proofs.lemmas.Cmp.{tied_itself}
use Rattle.std.specs.Str.{bytes_eq}
use Rattle.sbat.specs.Fields.{is_generation, is_name, is_stamp, sbat}
use Rattle.sbat.specs.Greatest.{IsGreatest, IsGreatestOf}
use Rattle.sbat.specs.Levels.{Generations, IsLevel, generations_in, greater, raised}
use Rattle.sbat.specs.Rows.{Row}

-- whether two names are one
abbrev pub ties : List ℕ → List ℕ → Bool
ties q x = eq_by_cmp (slice_cmp nat_cmp) q x

pub names_differ : IsAntisymmetric (slice_cmp nat_cmp)
names_differ = slice_cmp-IsAntisymmetric nat_cmp-IsAntisymmetric

equal : (o : Ordering) → is_eq o ≡ true → o ≡ Equal
equal Less e = absurd (cc)
equal Equal e = refl
equal Greater e = absurd (cc)

pub ties_are_one : (q x : List ℕ) → ties q x ≡ true → q ≡ x
ties_are_one q x e = names_differ q x (equal _ e)

tied_value : (b : Bool) (m : Generations) (q x : List ℕ) (n : ℕ) → ties q x ≡ b → cond b (Some (greater (get m x) n)) (get m q) ≡ cond b (Some (greater (get m q) n)) (get m q)
tied_value true m q x n e = ap (λ g. Some (greater g n)) (get_tied nat_list_cmp_total m q x (equal _ e))
tied_value false m q x n e = refl

-- the generation of a name after a row
pub get-raised : (m : Generations) (r : Row) (q : List ℕ) → get (raised m r) q ≡ cond (ties q r.name) (Some (greater (get m q) r.generation)) (get m q)
get-raised m r q =
    get-insert nat_list_cmp_total m r.name (greater (get m r.name) r.generation) q ∙ tied_value (ties q r.name) m q r.name r.generation refl

same_generations : (m n : Generations) → ((q : List ℕ) → get m q ≡ get n q) → m ≡ n
same_generations = same_map nat_list_cmp_total names_differ

-- the generation of a name after a row of generation n, which has that name or not
abbrev seen : Bool → ℕ → Option ℕ → Option ℕ
seen b n g = cond b (Some (greater g n)) g

seen_swaps : (s t : Bool) (m n : ℕ) (g : Option ℕ) → seen t n (seen s m g) ≡ seen s m (seen t n g)
seen_swaps true true m n None = ap Some (omega arith)
seen_swaps true true m n (Some p) = ap Some (omega arith)
seen_swaps true false m n g = refl
seen_swaps false true m n g = refl
seen_swaps false false m n g = refl

-- two rows may change places
raised_swaps : (m : Generations) (a b : Row) → raised (raised m a) b ≡ raised (raised m b) a
raised_swaps m a b =
    same_generations _ _ (λ q.
    get-raised (raised m a) b q
    ∙ ap (seen (ties q b.name) b.generation) (get-raised m a q)
    ∙ seen_swaps (ties q a.name) (ties q b.name) a.generation b.generation (get m q)
    ∙ sym (get-raised (raised m b) a q ∙ ap (seen (ties q a.name) a.generation) (get-raised m b q)))

-- the generations after rows, from the first on
abbrev pub raised_all : Generations → List Row → Generations
raised_all m [] = m
raised_all m (r ∷ rows) = raised_all (raised m r) rows

first_last : (m : Generations) (r : Row) (rows : List Row) → raised_all (raised m r) rows ≡ raised (raised_all m rows) r
first_last m r [] = refl
first_last m r (s ∷ rows) = ap (λ n. raised_all n rows) (raised_swaps m r s) ∙ first_last (raised m s) r rows

-- rows taken from the first on give what they give as a whole
pub raised_all-empty : (rows : List Row) → raised_all empty rows ≡ generations_in rows
raised_all-empty [] = refl
raised_all-empty (r ∷ rows) = first_last empty r rows ∙ ap (λ m. raised m r) (raised_all-empty rows)

more : (b : Bool) (n : ℕ) → n ≤ cond b n (n + 1)
more true n = omega arith
more false n = omega arith

-- a row takes no name away
pub len-raised-le : (m : Generations) (r : Row) → len m ≤ len (raised m r)
len-raised-le m r =
    subst (λ n. len m ≤ n) (sym (len-insert nat_list_cmp_total m r.name (greater (get m r.name) r.generation))) (more (contains_key m r.name) (len m))

-- a row that isn't above what its name has changes nothing
below : (b : Bool) (g : Option ℕ) (p n : ℕ) → (b ≡ true → g ≡ Some p) → n ≤ p → seen b n g ≡ g
below true g p n h l = let has = h refl in ap (λ x. Some (greater x n)) has ∙ ap Some (omega arith) ∙ sym has
below false g p n h l = refl

pub raised-below : (m : Generations) (r : Row) (p : ℕ) → get m r.name ≡ Some p → r.generation ≤ p → raised m r ≡ m
raised-below m r p has l =
    same_generations _ _ (λ q.
    get-raised m r q
    ∙ below (ties q r.name) (get m q) p r.generation (λ t. ap (get m) (ties_are_one q r.name t) ∙ has) l)

-- a level stays one after a row of a name and a generation
greater_is_one : (g : Option ℕ) (n : ℕ) → ((p : ℕ) → g ≡ Some p → is_generation p ≡ true) → is_generation n ≡ true → is_generation (greater g n) ≡ true
greater_is_one None n h e = e
greater_is_one (Some p) n h e = let other = h p refl in grind (arith, nat_tests, other, e)

some_is : (p n : ℕ) → Some p ≡ Some n → p ≡ n
some_is p n e = cc

name_stays : (b : Bool) (g : Option ℕ) (q x : List ℕ) (n p : ℕ) → (b ≡ true → q ≡ x) → is_name x ≡ true → (g ≡ Some p → is_name q ≡ true) → seen b n g ≡ Some p → is_name q ≡ true
name_stays true g q x n p same e old h = ap is_name (same refl) ∙ e
name_stays false g q x n p same e old h = old h

count_stays : (b : Bool) (g : Option ℕ) (n p : ℕ) → is_generation n ≡ true → ((k : ℕ) → g ≡ Some k → is_generation k ≡ true) → seen b n g ≡ Some p → is_generation p ≡ true
count_stays true g n p e old h = ap is_generation (sym (some_is _ p h)) ∙ greater_is_one g n old e
count_stays false g n p e old h = old p h

-- `sbat` has no generation after a row of another name
stays_none : (b : Bool) (x : List ℕ) (g : Option ℕ) (n : ℕ) → ties sbat x ≡ b → bytes_eq x sbat ≡ false → g ≡ None → seen b n g ≡ None
stays_none true x g n t other none =
    let bad : true ≡ false = ap (λ q. bytes_eq q sbat) (ties_are_one sbat x t) ∙ other in
    absurd (cc)
stays_none false x g n t other none = none

pub IsLevel-raised : (stamp : ℕ) (m : Generations) (r : Row) → IsLevel (record { stamp = stamp; generations = m }) → is_name r.name ≡ true → bytes_eq r.name sbat ≡ false → is_generation r.generation ≡ true → IsLevel (record { stamp = stamp; generations = raised m r })
IsLevel-raised stamp m r h name other count = record {
  stamped = h.stamped;
  named = λ q n e. name_stays (ties q r.name) (get m q) q r.name r.generation n (ties_are_one q r.name) name (h.named q n) (sym (get-raised m r q) ∙ e);
  counted = λ q n e. count_stays (ties q r.name) (get m q) r.generation n count (h.counted q) (sym (get-raised m r q) ∙ e);
  others = get-raised m r sbat ∙ stays_none (ties sbat r.name) r.name (get m sbat) r.generation refl other h.others;
}

no_value : {X : Type 0} (x : X) → None ≡ Some x → ⊥
no_value x e = absurd (cc)

-- a stamp and no name are a level
pub IsLevel-empty : (stamp : ℕ) → is_stamp stamp ≡ true → IsLevel (record { stamp = stamp; generations = empty })
IsLevel-empty stamp e = record {
  stamped = e;
  named = λ q n h. absurd (no_value n (sym (get-empty (slice_cmp nat_cmp) q) ∙ h));
  counted = λ q n h. absurd (no_value n (sym (get-empty (slice_cmp nat_cmp) q) ∙ h));
  others = get-empty (slice_cmp nat_cmp) sbat;
}

-- the greatest counts
here : (r : Row) (rows : List Row) (n : ℕ) → r.generation ≡ n → Contains (r ∷ rows) (record { name = r.name; generation = n })
here r rows n e = subst (λ k. Contains (r ∷ rows) (record { name = r.name; generation = k })) e (0, omega arith, refl)

later : (r : Row) (rows : List Row) (x : Row) → Contains rows x → Contains (r ∷ rows) x
later r rows x h = (suc h.0, omega (arith, h.1), h.2)

parted_at : (r : Row) (rows : List Row) (x : Row) (k : ℕ) → k < length (r ∷ rows) → get_or (r ∷ rows) k x ≡ x → (r ≡ x) ⊎ Contains rows x
parted_at r rows x zero l e = inl e
parted_at r rows x (suc k) l e = inr (k, omega arith, e)

-- a row of a list is its first or one of the others
parted : (r : Row) (rows : List Row) (x : Row) → Contains (r ∷ rows) x → (r ≡ x) ⊎ Contains rows x
parted r rows x h = parted_at r rows x h.0 h.1 h.2

-- one more row of the name
given_of : (b : Bool) (r : Row) (rows : List Row) (n : ℕ) → leb n r.generation ≡ b → IsGreatestOf rows r.name n → Contains (r ∷ rows) (record { name = r.name; generation = max n r.generation })
given_of true r rows n e h = here r rows (max n r.generation) (grind (arith, nat_tests, e))
given_of false r rows n e h =
    let same : n ≡ max n r.generation = grind (arith, nat_tests, e) in
    subst (λ k. Contains (r ∷ rows) (record { name = r.name; generation = k })) same (later r rows _ h.given)

most_none : (r : Row) (rows : List Row) (m : ℕ) → IsGreatest rows r.name None → Contains (r ∷ rows) (record { name = r.name; generation = m }) → m ≤ r.generation
most_none r rows m h c = ⊎_elim (λ e. omega (arith, ap (λ (x : Row). x.generation) e)) (λ other. absurd (h m other)) (parted r rows _ c)

most_some : (r : Row) (rows : List Row) (n m : ℕ) → IsGreatestOf rows r.name n → Contains (r ∷ rows) (record { name = r.name; generation = m }) → m ≤ max n r.generation
most_some r rows n m h c = ⊎_elim (λ e. omega (arith, ap (λ (x : Row). x.generation) e)) (λ other. omega (arith, h.most m other)) (parted r rows _ c)

same_name : (r : Row) (rows : List Row) (g : Option ℕ) → IsGreatest rows r.name g → IsGreatestOf (r ∷ rows) r.name (greater g r.generation)
same_name r rows None h = record { given = here r rows r.generation refl; most = λ m c. most_none r rows m h c }
same_name r rows (Some n) h = record { given = given_of (leb n r.generation) r rows n refl h; most = λ m c. most_some r rows n m h c }

-- one more row of another name
not_first : (r : Row) (rows : List Row) (name : List ℕ) (m : ℕ) → (r.name ≡ name → ⊥) → Contains (r ∷ rows) (record { name = name; generation = m }) → Contains rows (record { name = name; generation = m })
not_first r rows name m other c = ⊎_elim (λ e. absurd (other (ap (λ (x : Row). x.name) e))) (λ h. h) (parted r rows _ c)

other_name : (r : Row) (rows : List Row) (name : List ℕ) (g : Option ℕ) → (r.name ≡ name → ⊥) → IsGreatest rows name g → IsGreatest (r ∷ rows) name g
other_name r rows name None other h = λ m c. h m (not_first r rows name m other c)
other_name r rows name (Some n) other h = record { given = later r rows _ h.given; most = λ m c. h.most m (not_first r rows name m other c) }

untied : (q x : List ℕ) → ties q x ≡ false → x ≡ q → ⊥
untied q x e same =
    let itself : ties q q ≡ true = ap is_eq (tied_itself nat_list_cmp_total q) in
    let other : ties q q ≡ false = subst (λ y. ties q y ≡ false) same e in
    absurd (cc)

one_row : (b : Bool) (r : Row) (rows : List Row) (name : List ℕ) (g : Option ℕ) → ties name r.name ≡ b → IsGreatest rows name g → IsGreatest (r ∷ rows) name (seen b r.generation g)
one_row true r rows name g e h =
    let is : r.name ≡ name = sym (ties_are_one name r.name e) in
    subst (λ q. IsGreatestOf (r ∷ rows) q (greater g r.generation)) is (same_name r rows g (subst (λ q. IsGreatest rows q g) (sym is) h))
one_row false r rows name g e h = other_name r rows name g (untied name r.name e) h

pub is_greatest : (rows : List Row) (name : List ℕ) → IsGreatest rows name (get (generations_in rows) name)
is_greatest [] name = subst (IsGreatest [] name) (sym (get-empty (slice_cmp nat_cmp) name)) (λ m c. absurd (omega (arith, c.1)))
is_greatest (r ∷ rows) name =
    subst (IsGreatest (r ∷ rows) name) (sym (get-raised (generations_in rows) r name))
    (one_row (ties name r.name) r rows name (get (generations_in rows) name) refl (is_greatest rows name))
