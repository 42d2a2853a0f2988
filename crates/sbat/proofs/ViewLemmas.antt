-- Generations by texts, as a map holds them, against generations by bytes.
use Rattle.std.proofs.Common.{◌≡◌, ℕ, Bool, true, false, cond, T, ◌&&◌, Result, Ok, Err, OnOk, OnErr, List, [], ◌∷◌, length, Option, Some, None, String, string_bytes, refl, sym, ap, subst, ◌∙◌}
use Rattle.std.specs.declared.cmp.Ordering.TheVariants.{Less}
use Rattle.std.specs.BTreeMap.{BTreeMap, IsOrdered, get_by_text, is_at}
use Rattle.std.specs.Cmp.Lexicographic.{nat_list_cmp_total, slice_cmp}
use Rattle.std.specs.FinMap.{entries, entries-from_sorted, find, from_entries, from_sorted, get, get-from_entries, get-from_sorted, len, len-entries, same_map}
use Rattle.std.specs.FinMap.Entries.{below_all, is_sorted}
use Rattle.std.specs.List.{AllByRecursion}
use Rattle.std.specs.List.Sorted.{IsStrictlySortedBy}
use Rattle.std.specs.Map.{keys_of, lookup}
use Rattle.std.specs.Ordering.{is_lt, nat_cmp}
use Rattle.std.specs.Str.{bytes_eq}
use Rattle.std.specs.String.{string_cmp}
use Rattle.std.proofs.lemmas.List.{length-map}
use Rattle.std.proofs.lemmas.Map.Text.{is_eq-slice_cmp}
use Rattle.sbat.specs.Fields.{is_generation, is_name, sbat}
use Rattle.sbat.specs.Levels.{IsLevel, Stamped, byte_entries, generations_of, greater, raised}
use Rattle.sbat.specs.Rows.{Row}
use Rattle.sbat.proofs.GenerationLemmas.{IsLevel-raised, get-raised, names_differ, ties}

find_bytes : {Y : Type 0} (es : List (String Y × ℕ)) (q : List ℕ) → find (slice_cmp nat_cmp) q (byte_entries es) ≡ lookup (is_at (λ k. slice_cmp nat_cmp q (string_bytes k))) es
find_bytes [] q = refl
find_bytes (e ∷ es) q = ap (cond (ties q (string_bytes e.0)) (Some e.1)) (find_bytes es q)

-- a name has what the map has at the text of its bytes
pub get_generations : {Y : Type 0} (m : BTreeMap (String Y) ℕ) (q : List ℕ) → get (generations_of m.entries) q ≡ get_by_text m q
get_generations m q = get-from_entries nat_list_cmp_total (byte_entries m.entries) q ∙ find_bytes m.entries q

-- a map that was changed at one name
pub raised_from : {Y : Type 0} (old new : BTreeMap (String Y) ℕ) (r : Row) → ((q : List ℕ) → get_by_text new q ≡ cond (bytes_eq q r.name) (Some (greater (get_by_text old q) r.generation)) (get_by_text old q)) → generations_of new.entries ≡ raised (generations_of old.entries) r
raised_from old new r h =
    same_map nat_list_cmp_total names_differ _ _ (λ q.
    get_generations new q
    ∙ h q
    ∙ ap (λ b. cond b (Some (greater (get_by_text old q) r.generation)) (get_by_text old q)) (sym (is_eq-slice_cmp q r.name))
    ∙ ap (λ g. cond (ties q r.name) (Some (greater g r.generation)) g) (sym (get_generations old q))
    ∙ sym (get-raised (generations_of old.entries) r q))

both : (a b : Bool) → T a → T b → T (a && b)
both true b p q = q
both false b p q = p

is_below : {Y : Type 0} (k : String Y) (es : List (String Y × ℕ)) → AllByRecursion (λ y. string_cmp k y ≡ Less) (keys_of es) → T (below_all (slice_cmp nat_cmp) (string_bytes k) (byte_entries es))
is_below k [] h = tt
is_below k (e ∷ es) h = both (is_lt (slice_cmp nat_cmp (string_bytes k) (string_bytes e.0))) _ (subst (λ o. T (is_lt o)) (sym h.0) tt) (is_below k es h.1)

sorted_bytes : {Y : Type 0} (es : List (String Y × ℕ)) → IsStrictlySortedBy string_cmp (keys_of es) → T (is_sorted (slice_cmp nat_cmp) (byte_entries es))
unfolding IsStrictlySortedBy
sorted_bytes [] h = tt
sorted_bytes (e ∷ es) h = both (below_all (slice_cmp nat_cmp) (string_bytes e.0) (byte_entries es)) _ (is_below e.0 es h.0) (sorted_bytes es h.1)

-- entries in order are those of the map that they make
pub entries-from_entries : (es : List (List ℕ × ℕ)) → T (is_sorted (slice_cmp nat_cmp) es) → entries (from_entries {R = slice_cmp nat_cmp} es) ≡ es
entries-from_entries es h =
    let same = same_map nat_list_cmp_total names_differ (from_entries es) (from_sorted es) (λ q. get-from_entries nat_list_cmp_total es q ∙ sym (get-from_sorted (slice_cmp nat_cmp) es q h)) in
    ap entries same ∙ entries-from_sorted (slice_cmp nat_cmp) es h

-- the map's entries are the generations', in their order
pub entries_generations : {Y : Type 0} (m : BTreeMap (String Y) ℕ) → IsOrdered string_cmp m → entries (generations_of m.entries) ≡ byte_entries m.entries
entries_generations m h = entries-from_entries (byte_entries m.entries) (sorted_bytes m.entries h)

pub len_generations : {Y : Type 0} (m : BTreeMap (String Y) ℕ) → IsOrdered string_cmp m → len (generations_of m.entries) ≡ length m.entries
len_generations {Y} m h =
    len-entries (generations_of m.entries) ∙ ap length (entries_generations m h) ∙ length-map m.entries (λ (e : String Y × ℕ). (string_bytes e.0, e.1))

-- a level stays one, whether a name was raised or memory refused
pub IsLevel-after : {Y E : Type 0} (result : Result (Unit {0}) E) (stamp : ℕ) (old new : List (String Y × ℕ)) (r : Row) → OnOk result (generations_of new ≡ raised (generations_of old) r) → OnErr result (new ≡ old) → is_name r.name ≡ true → bytes_eq r.name sbat ≡ false → is_generation r.generation ≡ true → IsLevel (record { stamp = stamp; generations = generations_of old }) → IsLevel (record { stamp = stamp; generations = generations_of new })
IsLevel-after (Ok x) stamp old new r ok err name other count h =
    subst (λ m. IsLevel (record { stamp = stamp; generations = m })) (sym ok) (IsLevel-raised stamp (generations_of old) r h name other count)
IsLevel-after (Err e) stamp old new r ok err name other count h =
    subst (λ es. IsLevel (record { stamp = stamp; generations = generations_of es })) (sym err) h

-- bytes that can't be a name have no generation
has_none : (q : List ℕ) (g : Option ℕ) → ((n : ℕ) → g ≡ Some n → is_name q ≡ true) → (is_name q ≡ true → ⊥) → None ≡ g
has_none q None name never = refl
has_none q (Some n) name never = absurd (never (name n refl))

pub no_generation : (l : Stamped) (q : List ℕ) → IsLevel l → (is_name q ≡ true → ⊥) → None ≡ get l.generations q
no_generation l q h never = has_none q (get l.generations q) (h.named q) never
