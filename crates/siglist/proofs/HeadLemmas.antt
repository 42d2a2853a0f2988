-- A list that is spelt, read from the 28 bytes of its head.
use Rattle.std.proofs.Common.{◌≡◌, ℕ, ◌+◌, ◌*◌, ◌%◌, ◌/◌, ◌^◌, ◌<◌, true, List, ◌++◌, length, take, drop, refl, sym, ap, ap₂, ◌∙◌, append_assoc, arith}
use Rattle.std.specs.List.{flat_map}
use Rattle.std.specs.Int.{w32, to_le_bytes, from_le_bytes}
use Rattle.std.proofs.lemmas.Bool.Decides.{nat_tests}
use Rattle.std.proofs.lemmas.Nat.{from_le_bytes-to_le_bytes_4}
use Rattle.std.proofs.lemmas.List.{take_at, drop_at, drop-drop, length-append}
use Rattle.siglist.specs.Kinds.{kind_of, is_bare, suits}
use Rattle.siglist.specs.declared.kind.Kind.{Kind}
use Rattle.siglist.specs.declared.kind.Kind.TheVariants as kind
use Rattle.siglist.specs.SignatureLists.{Entry, SignatureList, IsList, KeepsKind, entry_bytes, list_bytes, list_size}
use Rattle.base.specs.Numbers.{u32_at}
use Rattle.siglist.specs.Heads.{size_at, header_size_at, entry_size_at}
use Rattle.siglist.specs.Steps.Reading.{entries_size_at, entries_of, front_of, list_with}
use Rattle.siglist.proofs.ChainLemmas.{HasHead, WhichKind, which_kind}
use Rattle.std.proofs.Math.Nat.{mul-mod_right, mul-div_cancel_left}
use Rattle.siglist.proofs.EntryLemmas.{entries_length, entries_of-again}

-- the bytes are these five parts
pub record Parts (b k s h e tail : List ℕ) : Type 0 where
  pub is : b ≡ k ++ (s ++ (h ++ (e ++ tail)))
  pub kind : length k ≡ 16
  pub size : length s ≡ 4
  pub header : length h ≡ 4
  pub entry : length e ≡ 4

-- the parts by their places
pub record Taken (b k s h e t : List ℕ) : Type 0 where
  pub kind : take 16 b ≡ k
  pub size : take 4 (drop 16 b) ≡ s
  pub header : take 4 (drop 20 b) ≡ h
  pub entry : take 4 (drop 24 b) ≡ e
  pub tail : drop 28 b ≡ t

pub taken : (b k s h e tail : List ℕ) → Parts b k s h e tail → Taken b k s h e tail
taken b k s h e tail p =
    let d16 : drop 16 b ≡ s ++ (h ++ (e ++ tail)) = ap (drop 16) p.is ∙ drop_at k _ 16 p.kind in
    let d20 : drop 20 b ≡ h ++ (e ++ tail) = sym (drop-drop 4 16 b) ∙ ap (drop 4) d16 ∙ drop_at s _ 4 p.size in
    let d24 : drop 24 b ≡ e ++ tail = sym (drop-drop 4 20 b) ∙ ap (drop 4) d20 ∙ drop_at h _ 4 p.header in
    record {
      kind = ap (take 16) p.is ∙ take_at k _ 16 p.kind;
      size = ap (take 4) d16 ∙ take_at s _ 4 p.size;
      header = ap (take 4) d20 ∙ take_at h _ 4 p.header;
      entry = ap (take 4) d24 ∙ take_at e _ 4 p.entry;
      tail = sym (drop-drop 4 24 b) ∙ ap (drop 4) d24 ∙ drop_at e _ 4 p.entry;
    }

-- the kind's rules, as the chain of tests states them
keeps_to : (l : SignatureList) (which : Kind) → WhichKind l.kind which → KeepsKind l → (is_bare which ≡ true → length l.header ≡ 0) × (suits which l.entry_size ≡ true)
unfolding WhichKind
keeps_to l kind.Sha256 e h = let p = h.sha256 e in (λ _. ap length p.0, let s = p.1 in grind (arith, nat_tests, s))
keeps_to l kind.X509 e h = let p = h.x509 e in (λ _. ap length p.0, let s = p.1 in grind (arith, nat_tests, s))
keeps_to l kind.X509Sha256 e h = let p = h.x509_sha256 e in (λ _. ap length p.0, let s = p.1 in grind (arith, nat_tests, s))
keeps_to l (kind.Other guid) e h = (λ f. absurd (cc), refl)

-- a list at the front of the bytes is the one that is read there
pub record Reads (b : List ℕ) (l : SignatureList) (rest : List ℕ) : Type 0 where
  pub head : HasHead b
  pub front : front_of b ≡ l
  pub size : size_at b ≡ list_size l
  pub rest_is : drop (size_at b) b ≡ rest

abbrev pub make_list : List ℕ → List ℕ → ℕ → List Entry → SignatureList
make_list kind header size es = record { kind = kind; header = header; entry_size = size; entries = es }

pub regroup : (k s h e header es rest : List ℕ) → ((((k ++ s) ++ h) ++ e) ++ header ++ es) ++ rest ≡ k ++ (s ++ (h ++ (e ++ (header ++ (es ++ rest)))))
regroup k s h e header es rest = simp append_assoc

regroup_sizes : (k s h e header es : List ℕ) → length ((((k ++ s) ++ h) ++ e) ++ header ++ es) ≡ length k + length s + length h + length e + length header + length es
regroup_sizes k s h e header es = simp length-append

list_length : (l : SignatureList) → IsList l → length (list_bytes l) ≡ list_size l
list_length l h =
    let es = entries_length l.entry_size l.entries h.entries in
    let all = regroup_sizes l.kind (to_le_bytes w32 (list_size l)) (to_le_bytes w32 (length l.header)) (to_le_bytes w32 l.entry_size) l.header (flat_map entry_bytes l.entries) in
    let kind = h.kind in
    all ∙ omega (arith, es, kind)

pub same_list : (k k' h h' : List ℕ) (s s' : ℕ) (es es' : List Entry) → k ≡ k' → h ≡ h' → s ≡ s' → es ≡ es' → make_list k h s es ≡ make_list k' h' s' es'
same_list k k' h h' s s' es es' a b c d = rw (a, b, c, d) refl

read_parts : (b : List ℕ) (l : SignatureList) (rest : List ℕ) → IsList l → take 16 b ≡ l.kind → size_at b ≡ list_size l → header_size_at b ≡ length l.header → entry_size_at b ≡ l.entry_size
    → drop 28 b ≡ l.header ++ (flat_map entry_bytes l.entries ++ rest) → length (list_bytes l) ≡ list_size l → b ≡ list_bytes l ++ rest → Reads b l rest
unfolding list_with
read_parts b l rest h kind size header entry tail long is =
    let es = l.entries in
    let all : length b ≡ length (list_bytes l) + length rest = ap length is ∙ length-append (list_bytes l) rest in
    let least = h.least in
    let entries_size : entries_size_at b ≡ l.entry_size * length es = omega (arith, size, header) in
    let rules = keeps_to l (kind_of l.kind) (which_kind l.kind) h.keeps in
    let past : drop (28 + header_size_at b) b ≡ flat_map entry_bytes es ++ rest =
    sym (drop-drop (header_size_at b) 28 b) ∙ ap (drop (header_size_at b)) tail ∙ drop_at l.header _ (header_size_at b) (sym header) in
    let front : take (header_size_at b) (drop 28 b) ≡ l.header = ap (take (header_size_at b)) tail ∙ take_at l.header _ (header_size_at b) (sym header) in
    let count : entries_size_at b / entry_size_at b ≡ length es = ap₂ ◌/◌ entries_size entry ∙ mul-div_cancel_left (length es) (omega (arith, least)) in
    record {
      head = record {
        long = omega (arith, all, long);
        room = omega (arith, size, header);
        fits = omega (arith, size, all, long);
        bare = λ e. header ∙ rules.0 (ap (λ k. is_bare (kind_of k)) (sym kind) ∙ e);
        least = omega (arith, entry, least);
        suits = ap₂ (λ k n. suits (kind_of k) n) kind entry ∙ rules.1;
        whole = ap₂ ◌%◌ entries_size entry ∙ mul-mod_right l.entry_size (length es);
      };
      front = same_list _ _ _ _ _ _ _ _ kind front entry
          (ap (λ n. entries_of n (entry_size_at b) (drop (28 + header_size_at b) b)) count ∙ ap (λ n. entries_of (length es) n (drop (28 + header_size_at b) b)) entry
          ∙ ap (entries_of (length es) l.entry_size) past ∙ entries_of-again l.entry_size es rest h.entries);
      size = size;
      rest_is = ap (drop (size_at b)) is ∙ drop_at (list_bytes l) rest (size_at b) (long ∙ sym size);
    }

-- a list that is spelt is read
pub spelt_reads : (l : SignatureList) (rest : List ℕ) → IsList l → Reads (list_bytes l ++ rest) l rest
unfolding list_with u32_at
spelt_reads l rest h =
    let b = list_bytes l ++ rest in
    let es = l.entries in
    let p : Parts b l.kind (to_le_bytes w32 (list_size l)) (to_le_bytes w32 (length l.header)) (to_le_bytes w32 l.entry_size) (l.header ++ (flat_map entry_bytes es ++ rest))
    = record { is = regroup l.kind (to_le_bytes w32 (list_size l)) (to_le_bytes w32 (length l.header)) (to_le_bytes w32 l.entry_size) l.header (flat_map entry_bytes es) rest; kind = h.kind; size = refl; header = refl; entry = refl } in
    let t = taken b _ _ _ _ _ p in
    let size : size_at b ≡ list_size l = ap (from_le_bytes w32) t.size ∙ from_le_bytes-to_le_bytes_4 (list_size l) h.fits in
    let short : length l.header < 2 ^ 32 = let f = h.fits in omega (arith, f) in
    let header : header_size_at b ≡ length l.header = ap (from_le_bytes w32) t.header ∙ from_le_bytes-to_le_bytes_4 (length l.header) short in
    let entry : entry_size_at b ≡ l.entry_size = ap (from_le_bytes w32) t.entry ∙ from_le_bytes-to_le_bytes_4 l.entry_size h.entry_fits in
    read_parts b l rest h t.kind size header entry t.tail (list_length l h) refl
