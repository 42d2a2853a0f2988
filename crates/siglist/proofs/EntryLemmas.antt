-- Entries that follow each other.
use Rattle.std.proofs.Common.{◌≡◌, ℕ, zero, suc, ◌+◌, ◌-◌, ◌*◌, ◌≤◌, List, [], ◌∷◌, ◌++◌, length, take, drop, refl, sym, ap, ap₂, ◌∙◌, append_assoc, arith}
use Rattle.std.specs.List.{flat_map, AllByRecursion}
use Rattle.std.proofs.lemmas.List.{take_at, drop_at, length-take-le, length-drop, length-append}
use Rattle.base.proofs.OutputLemmas.{take-more}
use Rattle.siglist.specs.SignatureLists.{Entry, IsEntryOf, entry_bytes}
use Rattle.siglist.specs.Steps.Reading.{entries_of}

pub make_entry : List ℕ → List ℕ → Entry
make_entry owner body = record { owner = owner; body = body }

-- entries that are spelt are read
pub entries_of-again : (size : ℕ) (es : List Entry) (rest : List ℕ) → AllByRecursion (IsEntryOf size) es
    → entries_of (length es) size (flat_map entry_bytes es ++ rest) ≡ es
unfolding make_entry
entries_of-again size [] rest h = refl
entries_of-again size (e ∷ es) rest h =
    let after = flat_map entry_bytes es ++ rest in
    let b = ((e.owner ++ e.body) ++ flat_map entry_bytes es) ++ rest in
    let first = h.0 in
    let whole : b ≡ e.owner ++ (e.body ++ after) = append_assoc (e.owner ++ e.body) (flat_map entry_bytes es) rest ∙ append_assoc e.owner e.body after in
    let both : b ≡ (e.owner ++ e.body) ++ after = append_assoc (e.owner ++ e.body) (flat_map entry_bytes es) rest in
    let owner : take 16 b ≡ e.owner = ap (take 16) whole ∙ take_at e.owner (e.body ++ after) 16 first.owner in
    let past : drop 16 b ≡ e.body ++ after = ap (drop 16) whole ∙ drop_at e.owner (e.body ++ after) 16 first.owner in
    let body : take (size - 16) (drop 16 b) ≡ e.body = ap (take (size - 16)) past ∙ take_at e.body after (size - 16) (omega (arith, first.size)) in
    let others : drop size b ≡ after = ap (drop size) both ∙ drop_at (e.owner ++ e.body) after size (omega (arith, length-append e.owner e.body, first.owner, first.size)) in
    ap₂ ◌∷◌ (ap₂ make_entry owner body) (ap (entries_of (length es) size) others ∙ entries_of-again size es rest h.1)

pub record ReadsEntries (n size : ℕ) (b : List ℕ) : Type 0 where
  pub all : AllByRecursion (IsEntryOf size) (entries_of n size b)
  pub spelt : flat_map entry_bytes (entries_of n size b) ≡ take (n * size) b
  pub count : length (entries_of n size b) ≡ n

-- entries that are read are spelt
pub entries_of-spelt : (n size : ℕ) (b : List ℕ) → 16 ≤ size → n * size ≤ length b → ReadsEntries n size b
entries_of-spelt zero size b least fits = record {
  all = tt;
  spelt = let none : 0 * size ≡ 0 = omega arith in ap (λ k. take k b) (sym none);
  count = refl;
}
entries_of-spelt (suc n) size b least fits =
    let size_more : suc n * size ≡ size + n * size = omega arith in
    let rest = length-drop size b in
    let others = entries_of-spelt n size (drop size b) least (omega arith) in
    let past = length-drop 16 b in
    let owner = length-take-le 16 b (omega arith) in
    let body = length-take-le (size - 16) (drop 16 b) (omega arith) in
    let first : take 16 b ++ take (size - 16) (drop 16 b) ≡ take size b = take-more 16 (size - 16) b (omega arith) ∙ ap (λ k. take k b) (let e : 16 + (size - 16) ≡ size = omega arith in e) in
    record {
      all = (record { owner = owner; size = omega arith }, others.all);
      spelt = ap₂ ◌++◌ first others.spelt ∙ take-more size (n * size) b (omega arith) ∙ ap (λ k. take k b) (sym size_more);
      count = ap suc others.count;
    }

-- the number of bytes that the entries take
pub entries_length : (size : ℕ) (es : List Entry) → AllByRecursion (IsEntryOf size) es → length (flat_map entry_bytes es) ≡ size * length es
entries_length size [] h = let none : 0 ≡ size * 0 = omega arith in none
entries_length size (e ∷ es) h =
    let first = h.0 in
    let joined = length-append (e.owner ++ e.body) (flat_map entry_bytes es) in
    let one = length-append e.owner e.body in
    let others = entries_length size es h.1 in
    let more : size * suc (length es) ≡ size + size * length es = omega arith in
    omega (arith, joined, one, others, more, first.owner, first.size)

pub entries_count : (n size : ℕ) (b : List ℕ) → length (entries_of n size b) ≡ n
entries_count zero size b = refl
entries_count (suc n) size b = ap suc (entries_count n size (drop size b))
