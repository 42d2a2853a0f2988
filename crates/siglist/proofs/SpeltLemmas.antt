-- A list that is read from the front of bytes, spelt again.
use Rattle.std.proofs.Common.{◌≡◌, ℕ, ◌+◌, ◌-◌, ◌*◌, ◌/◌, ◌^◌, ◌<◌, ◌≤◌, true, List, [], ◌++◌, length, get_or, take, drop, refl, sym, ap, ap₂, ◌∙◌, subst, ⊎_elim, arith}
use Rattle.std.specs.List.{flat_map}
use Rattle.std.specs.Int.{w32, to_le_bytes}
use Rattle.std.proofs.lemmas.Bool.Decides.{nat_tests}
use Rattle.std.proofs.lemmas.Bool.{cases_lt}
use Rattle.std.proofs.lemmas.Nat.{div-add-mod', le_bytes_4}
use Rattle.std.proofs.lemmas.List.{drop-drop, length-take, length-take-le, length-drop, take-append-drop, get_or-take, get_or-drop, get_or_past}
use Rattle.siglist.specs.Kinds.{kind_of, is_bare, suits, sha256_kind, x509_kind, x509_sha256_kind}
use Rattle.siglist.specs.SignatureLists.{Entry, SignatureList, IsList, KeepsKind, entry_bytes, list_bytes, list_size}
use Rattle.base.specs.Numbers.{u32_at}
use Rattle.siglist.specs.Heads.{size_at, header_size_at, entry_size_at}
use Rattle.siglist.specs.Steps.Reading.{entries_size_at, entries_of, front_of, list_with}
use Rattle.siglist.proofs.ChainLemmas.{HasHead}
use Rattle.std.proofs.Math.Nat.{mul_comm}
use Rattle.siglist.proofs.EntryLemmas.{entries_of-spelt}
use Rattle.siglist.proofs.HeadLemmas.{Parts, make_list, regroup}

-- four bytes from a place on
four_at : (b : List ℕ) (i : ℕ) → i + 4 ≤ length b → (drop i b ≡ take 4 (drop i b) ++ drop (i + 4) b) × (length (take 4 (drop i b)) ≡ 4)
four_at b i fits =
    let rest = length-drop i b in
    (sym (take-append-drop 4 (drop i b)) ∙ ap (λ t. take 4 (drop i b) ++ t) (drop-drop 4 i b), length-take-le 4 (drop i b) (omega arith))

pub parts_of : (b : List ℕ) → 28 ≤ length b → Parts b (take 16 b) (take 4 (drop 16 b)) (take 4 (drop 20 b)) (take 4 (drop 24 b)) (drop 28 b)
parts_of b long =
    let s = four_at b 16 (omega arith) in
    let h = four_at b 20 (omega arith) in
    let e = four_at b 24 (omega arith) in
    record {
      is = sym (take-append-drop 16 b) ∙ ap (λ t. take 16 b ++ t) (s.0 ∙ ap (λ t. take 4 (drop 16 b) ++ t) (h.0 ∙ ap (λ t. take 4 (drop 20 b) ++ t) e.0));
      kind = length-take-le 16 b (omega arith);
      size = s.1;
      header = h.1;
      entry = e.1;
    }

-- each byte is below 256
pub record IsBytes (b : List ℕ) : Type 0 where
  pub at : (i : ℕ) → get_or b i 0 < 256

pub IsBytes-drop : (b : List ℕ) (n : ℕ) → IsBytes b → IsBytes (drop n b)
IsBytes-drop b n h = record { at = λ i. let e = get_or-drop n b i 0 in let l = h.at (n + i) in omega (arith, e, l) }

four_bytes : (b : List ℕ) (n i : ℕ) → IsBytes b → get_or (take 4 (drop n b)) i 0 < 256
four_bytes b n i h = ⊎_elim (λ near. let e = get_or-take 4 (drop n b) i 0 near in let l = (IsBytes-drop b n h).at i in omega (arith, e, l))
    (λ far. let short = length-take 4 (drop n b) in let e = get_or_past (take 4 (drop n b)) i 0 (omega (arith, short)) in omega (arith, e)) (cases_lt i 4)

-- the number that is read at a place is spelt there
u32_spelt : (b : List ℕ) (i : ℕ) → IsBytes b → i + 4 ≤ length b → (to_le_bytes w32 (u32_at b i) ≡ take 4 (drop i b)) × (u32_at b i < 2 ^ 32)
unfolding u32_at
u32_spelt b i h fits =
    let four = four_at b i fits in (
      le_bytes_4 (take 4 (drop i b)) (u32_at b i) four.1 (λ k. four_bytes b i k h) refl,
      let one = four_bytes b i 0 h in
          let two = four_bytes b i 1 h in
          let three = four_bytes b i 2 h in
          let last = four_bytes b i 3 h in
          omega (arith, one, two, three, last),
    )

-- the kind's rules, as the spelling states them
keeps_from : (k : List ℕ) (header : List ℕ) (size : ℕ) (es : List Entry) → (is_bare (kind_of k) ≡ true → header ≡ []) → suits (kind_of k) size ≡ true
    → KeepsKind (record { kind = k; header = header; entry_size = size; entries = es })
unfolding kind_of
keeps_from k header size es bare suit = record {
  sha256 = λ e. let s : suits (kind_of sha256_kind) size ≡ true = subst (λ x. suits (kind_of x) size ≡ true) e suit in
      (bare (ap (λ x. is_bare (kind_of x)) e), grind (arith, nat_tests, s));
  x509 = λ e. let s : suits (kind_of x509_kind) size ≡ true = subst (λ x. suits (kind_of x) size ≡ true) e suit in
      (bare (ap (λ x. is_bare (kind_of x)) e), grind (arith, nat_tests, s));
  x509_sha256 = λ e. let s : suits (kind_of x509_sha256_kind) size ≡ true = subst (λ x. suits (kind_of x) size ≡ true) e suit in
      (bare (ap (λ x. is_bare (kind_of x)) e), grind (arith, nat_tests, s));
}

-- a list that is read is spelt
pub record Spelt (b : List ℕ) (l : SignatureList) (n : ℕ) : Type 0 where
  pub list : IsList l
  pub is : b ≡ list_bytes l ++ drop n b
  pub size : list_size l ≡ n

-- the sizes of a list, which n entries of e bytes fill
record Sized (b : List ℕ) (size hs e n : ℕ) : Type 0 where
  long : 28 ≤ length b
  room : 28 + hs ≤ size
  fits : size ≤ length b
  least : 16 ≤ e
  whole : n * e ≡ size - (28 + hs)
  size_at : to_le_bytes w32 size ≡ take 4 (drop 16 b)
  header_at : to_le_bytes w32 hs ≡ take 4 (drop 20 b)
  entry_at : to_le_bytes w32 e ≡ take 4 (drop 24 b)
  bound : size < 2 ^ 32
  entry_bound : e < 2 ^ 32

assemble : (b k s h e t S H E header es rest : List ℕ) → b ≡ k ++ (s ++ (h ++ (e ++ t))) → S ≡ s → H ≡ h → E ≡ e → t ≡ header ++ (es ++ rest)
    → b ≡ ((((k ++ S) ++ H) ++ E) ++ header ++ es) ++ rest
assemble b k s h e t S H E header es rest is a c d f = is ∙ rw (← a, ← c, ← d, f) (sym (regroup k S H E header es rest))

build : (b : List ℕ) (size hs e n : ℕ) → Sized b size hs e n
    → KeepsKind (make_list (take 16 b) (take hs (drop 28 b)) e (entries_of n e (drop (28 + hs) b)))
    → Spelt b (make_list (take 16 b) (take hs (drop 28 b)) e (entries_of n e (drop (28 + hs) b))) size
build b size hs e n h keeps =
    let long = h.long in
    let room = h.room in
    let fits = h.fits in
    let whole = h.whole in
    let p = parts_of b long in
    let kind = length-take-le 16 b (omega (arith, long)) in
    let past = length-drop 28 b in
    let header = length-take-le hs (drop 28 b) (omega (arith, past, room, fits)) in
    let t = drop (28 + hs) b in
    let t_size = length-drop (28 + hs) b in
    let r = entries_of-spelt n e t h.least (omega (arith, t_size, room, fits, whole)) in
    let product : e * length (entries_of n e t) ≡ n * e = ap (λ k. e * k) r.count ∙ mul_comm e n in
    let total : list_size (make_list (take 16 b) (take hs (drop 28 b)) e (entries_of n e t)) ≡ size = omega (arith, header, product, whole, room) in
    let after : drop (n * e) t ≡ drop size b = drop-drop (n * e) (28 + hs) b ∙ ap (λ k. drop k b) (let sum : (28 + hs) + n * e ≡ size = omega (arith, whole, room) in sum) in
    let entries : t ≡ flat_map entry_bytes (entries_of n e t) ++ drop size b = sym (take-append-drop (n * e) t) ∙ ap₂ ◌++◌ (sym r.spelt) after in
    let tail : drop 28 b ≡ take hs (drop 28 b) ++ (flat_map entry_bytes (entries_of n e t) ++ drop size b) =
    sym (take-append-drop hs (drop 28 b)) ∙ ap (λ x. take hs (drop 28 b) ++ x) (drop-drop hs 28 b ∙ entries) in
    record {
      list = record {
        kind = kind;
        least = h.least;
        fits = let bound = h.bound in omega (arith, total, bound);
        entry_fits = h.entry_bound;
        entries = r.all;
        keeps = keeps;
      };
      is = assemble b _ _ _ _ _ _ _ _ _ _ _ p.is (ap (to_le_bytes w32) total ∙ h.size_at) (ap (to_le_bytes w32) header ∙ h.header_at) h.entry_at tail;
      size = total;
    }

no_header : (b : List ℕ) (n : ℕ) → n ≡ 0 → take n b ≡ []
no_header b n e = ap (λ k. take k b) e

pub reads_spelt : (b : List ℕ) → IsBytes b → HasHead b → Spelt b (front_of b) (size_at b)
unfolding list_with
reads_spelt b bytes h =
    let long = h.long in
    let s = u32_spelt b 16 bytes (omega (arith, long)) in
    let hd = u32_spelt b 20 bytes (omega (arith, long)) in
    let e = u32_spelt b 24 bytes (omega (arith, long)) in
    let parts = div-add-mod' (entries_size_at b) (entry_size_at b) in
    let whole = h.whole in
    build b (size_at b) (header_size_at b) (entry_size_at b) (entries_size_at b / entry_size_at b)
    (record {
      long = long;
      room = h.room;
      fits = h.fits;
      least = h.least;
      whole = omega (arith, parts, whole);
      size_at = s.0;
      header_at = hd.0;
      entry_at = e.0;
      bound = s.1;
      entry_bound = e.1;
    })
    (keeps_from _ _ _ _ (λ t. no_header (drop 28 b) (header_size_at b) (h.bare t)) h.suits)
