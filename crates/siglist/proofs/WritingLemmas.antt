-- The spelling of one list without a header.
use Rattle.std.proofs.Common.{◌≡◌, ℕ, ◌+◌, ◌*◌, ◌^◌, ◌<◌, ◌≤◌, List, [], ◌∷◌, ◌++◌, length, get_or, take, drop, slice_index, map, Option, Result, Ok, Err, OnOk, OnErr, append_assoc, refl, sym, ap, ap₂, ◌∙◌, subst, arith, append-nil}
use Rattle.std.proofs.lemmas.List.{length-map, length-append, map-append, take_more, take-append-drop}
use Rattle.std.proofs.lemmas.List.Concat.{flat_map-append}
use Rattle.std.specs.List.{flat_map, AllByRecursion}
use Rattle.std.specs.Io.KnownBytes.{Appends}
use Rattle.std.proofs.KnownBytes.{Appends-trans}
use Rattle.base.specs.Output.{AppendsBeginning}
use Rattle.base.proofs.OutputLemmas.{OnErr-after}
use Rattle.siglist.specs.Kinds.{sha256_kind, sha256_size, x509_kind, x509_sha256_kind, x509_sha256_size}
use Rattle.siglist.specs.SignatureLists.{Entry, IsEntryOf, KeepsKind, Spells, entry_bytes, spelling}
use Rattle.siglist.specs.Writing.{bare_head, bare_row, digest_entry, digest_row, entry_of, no_time, one_row, sha256_parts, sha256_row, x509_row, x509_sha256_parts, x509_sha256_row}

row_shape : (head es : List ℕ) → (head ++ [] ++ es) ++ [] ≡ head ++ es
row_shape head es = append-nil ((head ++ []) ++ es) ∙ ap (λ h. h ++ es) (append-nil head)

pub row_text : (kind : List ℕ) (size : ℕ) (es : List Entry) → 0 < length es
    → spelling (bare_row kind size es) ≡ bare_head kind size (length es) ++ flat_map entry_bytes es
row_text kind size [] some = absurd (omega arith)
row_text kind size (e ∷ es) some = row_shape (bare_head kind size (length (e ∷ es))) (flat_map entry_bytes (e ∷ es))

pub one_text : (kind owner body : List ℕ) → spelling (one_row kind owner body) ≡ bare_head kind (16 + length body) 1 ++ (owner ++ body)
one_text kind owner body =
    row_text kind (16 + length body) (entry_of owner body ∷ []) (omega arith)
    ∙ ap (λ l. bare_head kind (16 + length body) 1 ++ l) (append-nil (owner ++ body))

-- the head of one entry went out, and then the entry or a beginning of it
pub one_row-ok : {T E : Type 0} (r : Result T E) (a b c : Option (List ℕ)) (kind owner body : List ℕ) → Appends a b (bare_head kind (16 + length body) 1)
    → OnOk r (Appends b c (owner ++ body)) → OnOk r (Appends a c (spelling (one_row kind owner body)))
one_row-ok (Ok x) a b c kind owner body h more = subst (Appends a c) (sym (one_text kind owner body)) (Appends-trans a b c _ _ h more)
one_row-ok (Err e) a b c kind owner body h more = tt

pub one_row-err : {T E : Type 0} (r : Result T E) (a b c : Option (List ℕ)) (kind owner body : List ℕ) → Appends a b (bare_head kind (16 + length body) 1)
    → OnErr r (AppendsBeginning b c (owner ++ body)) → OnErr r (AppendsBeginning a c (spelling (one_row kind owner body)))
one_row-err r a b c kind owner body h more =
    subst (λ l. OnErr r (AppendsBeginning a c l)) (sym (one_text kind owner body)) (OnErr-after r a b c _ _ h more)

-- the entries of these digests
abbrev pub entries_text : List ℕ → List ℕ → List (List ℕ) → List ℕ
entries_text owner after ds = flat_map entry_bytes (map (digest_entry owner after) ds)

-- the head of a list of these digests
abbrev pub digest_head : List ℕ → List ℕ → List (List ℕ) → List ℕ
digest_head kind after ds = bare_head kind (48 + length after) (length ds)

pub digest_text : (kind owner after : List ℕ) (ds : List (List ℕ)) → 0 < length ds
    → spelling (digest_row kind owner ds after) ≡ digest_head kind after ds ++ entries_text owner after ds
digest_text kind owner after ds some =
    let count = length-map ds (digest_entry owner after) in
    row_text kind (48 + length after) (map (digest_entry owner after) ds) (omega (arith, count, some))
    ∙ ap (λ n. bare_head kind (48 + length after) n ++ entries_text owner after ds) count

-- no bytes follow a digest of a SHA256 list
pub map-digest_entry : (owner : List ℕ) (ds : List (List ℕ)) → map (digest_entry owner []) ds ≡ map (entry_of owner) ds
map-digest_entry owner [] = refl
map-digest_entry owner (d ∷ ds) = ap₂ ◌∷◌ (ap (entry_of owner) (append-nil d)) (map-digest_entry owner ds)

-- one entry more
entries_more : (owner after : List ℕ) (ds : List (List ℕ)) (i : ℕ) (x : List ℕ) → i < length ds → x ≡ get_or ds i x
    → entries_text owner after (take (i + 1) ds) ≡ entries_text owner after (take i ds) ++ (owner ++ (x ++ after))
entries_more owner after ds i x l is =
    ap (entries_text owner after) (take_more ds i x l ∙ ap (λ y. take i ds ++ y ∷ []) (sym is))
    ∙ ap (flat_map entry_bytes) (map-append (digest_entry owner after) (take i ds) (x ∷ []))
    ∙ flat_map-append entry_bytes (map (digest_entry owner after) (take i ds)) (digest_entry owner after x ∷ [])
    ∙ ap (λ l. entries_text owner after (take i ds) ++ l) (append-nil (owner ++ (x ++ after)))

-- the entries up to a place, and those from there on
entries_split : (owner after : List ℕ) (ds : List (List ℕ)) (i : ℕ)
    → entries_text owner after ds ≡ entries_text owner after (take i ds) ++ entries_text owner after (drop i ds)
entries_split owner after ds i =
    ap (entries_text owner after) (sym (take-append-drop i ds))
    ∙ ap (flat_map entry_bytes) (map-append (digest_entry owner after) (take i ds) (drop i ds))
    ∙ flat_map-append entry_bytes (map (digest_entry owner after) (take i ds)) (map (digest_entry owner after) (drop i ds))

regroup : (a b owner x after : List ℕ) → a ++ (b ++ (owner ++ (x ++ after))) ≡ ((a ++ b) ++ (owner ++ x)) ++ after
regroup a b owner x after = simp append_assoc

-- the bytes written after one entry more
pub head_more : (kind owner after : List ℕ) (ds : List (List ℕ)) (i : ℕ) (x : List ℕ) → i < length ds → x ≡ get_or ds i x
    → digest_head kind after ds ++ entries_text owner after (take (i + 1) ds)
    ≡ ((digest_head kind after ds ++ entries_text owner after (take i ds)) ++ (owner ++ x)) ++ after
head_more kind owner after ds i x l is =
    ap (λ l. digest_head kind after ds ++ l) (entries_more owner after ds i x l is)
    ∙ regroup (digest_head kind after ds) (entries_text owner after (take i ds)) owner x after

-- the row round one entry
pub row_round : (kind owner after : List ℕ) (ds : List (List ℕ)) (i : ℕ) (x : List ℕ) → i < length ds → x ≡ get_or ds i x
    → spelling (digest_row kind owner ds after)
    ≡ (((digest_head kind after ds ++ entries_text owner after (take i ds)) ++ (owner ++ x)) ++ after) ++ entries_text owner after (drop (i + 1) ds)
row_round kind owner after ds i x l is =
    let head = digest_head kind after ds in
    let rest = entries_text owner after (drop (i + 1) ds) in
    digest_text kind owner after ds (omega arith)
    ∙ ap (λ l. head ++ l) (entries_split owner after ds (i + 1))
    ∙ sym (append_assoc head (entries_text owner after (take (i + 1) ds)) rest)
    ∙ ap (λ l. l ++ rest) (head_more kind owner after ds i x l is)

-- a row of entries that suit it is spelt
bare_row_spells : (kind : List ℕ) (size : ℕ) (es : List Entry) → length kind ≡ 16 → 16 ≤ size → size < 2 ^ 32 → 28 + size * length es < 2 ^ 32
    → AllByRecursion (IsEntryOf size) es → KeepsKind (record { kind = kind; header = []; entry_size = size; entries = es })
    → Spells (bare_row kind size es) (spelling (bare_row kind size es))
bare_row_spells kind size [] k least small fits entries keeps = refl
bare_row_spells kind size (e ∷ es) k least small fits entries keeps = (
  [],
  record { kind = k; least = least; entry_fits = small; fits = fits; entries = entries; keeps = keeps },
  refl,
  refl,
)

-- a body of 32 bytes and the bytes after it
IsEntryOf-all : (owner after : List ℕ) (ds : List (List ℕ)) → length owner ≡ 16 → AllByRecursion (λ d. length d ≡ 32) ds
    → AllByRecursion (IsEntryOf (48 + length after)) (map (digest_entry owner after) ds)
IsEntryOf-all owner after [] o h = h
IsEntryOf-all owner after (d ∷ ds) o h = (
  record { owner = o; size = omega (arith, h.0, length-append d after) },
  IsEntryOf-all owner after ds o h.1,
)

keeps_sha256 : (es : List Entry) → KeepsKind (record { kind = sha256_kind; header = []; entry_size = 48; entries = es })
keeps_sha256 es = record {
  sha256 = λ e. (refl, refl);
  x509 = λ e. let bad : 0x26 ≡ 0xa1 = ap (λ (l : List ℕ). slice_index l 0) e in absurd (omega arith);
  x509_sha256 = λ e. let bad : 0x26 ≡ 0x92 = ap (λ (l : List ℕ). slice_index l 0) e in absurd (omega arith);
}

keeps_x509_sha256 : (es : List Entry) → KeepsKind (record { kind = x509_sha256_kind; header = []; entry_size = 64; entries = es })
keeps_x509_sha256 es = record {
  sha256 = λ e. let bad : 0x92 ≡ 0x26 = ap (λ (l : List ℕ). slice_index l 0) e in absurd (omega arith);
  x509 = λ e. let bad : 0x92 ≡ 0xa1 = ap (λ (l : List ℕ). slice_index l 0) e in absurd (omega arith);
  x509_sha256 = λ e. (refl, refl);
}

keeps_x509 : (size : ℕ) (es : List Entry) → 17 ≤ size → KeepsKind (record { kind = x509_kind; header = []; entry_size = size; entries = es })
keeps_x509 size es h = record {
  sha256 = λ e. let bad : 0xa1 ≡ 0x26 = ap (λ (l : List ℕ). slice_index l 0) e in absurd (omega arith);
  x509 = λ e. (refl, h);
  x509_sha256 = λ e. let bad : 0xa1 ≡ 0x92 = ap (λ (l : List ℕ). slice_index l 0) e in absurd (omega arith);
}

-- the writers' bytes are spelt
pub sha256_spells : (owner : List ℕ) (ds : List (List ℕ)) → length owner ≡ 16 → AllByRecursion (λ d. length d ≡ 32) ds → length ds ≤ 1000000
    → Spells (sha256_row owner ds) (spelling (sha256_row owner ds))
sha256_spells owner ds o h few =
    let count = length-map ds (entry_of owner) in
    bare_row_spells sha256_kind 48 (map (entry_of owner) ds) refl (omega arith) (omega arith) (omega (arith, count, few))
    (subst (AllByRecursion (IsEntryOf 48)) (map-digest_entry owner ds) (IsEntryOf-all owner [] ds o h)) (keeps_sha256 (map (entry_of owner) ds))

pub x509_sha256_spells : (owner : List ℕ) (ds : List (List ℕ)) → length owner ≡ 16 → AllByRecursion (λ d. length d ≡ 32) ds → length ds ≤ 1000000
    → Spells (x509_sha256_row owner ds) (spelling (x509_sha256_row owner ds))
x509_sha256_spells owner ds o h few =
    let count = length-map ds (digest_entry owner no_time) in
    bare_row_spells x509_sha256_kind 64 (map (digest_entry owner no_time) ds) refl (omega arith) (omega arith) (omega (arith, count, few))
    (IsEntryOf-all owner no_time ds o h) (keeps_x509_sha256 (map (digest_entry owner no_time) ds))

pub x509_spells : (owner certificate : List ℕ) → length owner ≡ 16 → 1 ≤ length certificate → length certificate ≤ 65536
    → Spells (x509_row owner certificate) (spelling (x509_row owner certificate))
x509_spells owner certificate o some few =
    bare_row_spells x509_kind (16 + length certificate) (entry_of owner certificate ∷ []) refl (omega arith) (omega arith) (omega arith)
    (record { owner = o; size = refl }, tt) (keeps_x509 (16 + length certificate) (entry_of owner certificate ∷ []) (omega arith))

flat_map-map : (f : List ℕ → Entry) (ds : List (List ℕ)) → flat_map entry_bytes (map f ds) ≡ flat_map (λ d. entry_bytes (f d)) ds
flat_map-map f [] = refl
flat_map-map f (d ∷ ds) = ap (λ l. entry_bytes (f d) ++ l) (flat_map-map f ds)

-- a list of some digests is its head and then its entries
row_parts : (kind : List ℕ) (size : ℕ) (f : List ℕ → Entry) (d : List ℕ) (ds : List (List ℕ))
    → spelling (bare_row kind size (map f (d ∷ ds))) ≡ bare_head kind size (length (d ∷ ds)) ++ flat_map (λ x. entry_bytes (f x)) (d ∷ ds)
row_parts kind size f d ds =
    row_text kind size (map f (d ∷ ds)) (omega arith)
    ∙ ap₂ (λ n l. bare_head kind size n ++ l) (length-map (d ∷ ds) f) (flat_map-map f (d ∷ ds))

pub sha256_row-parts : (owner : List ℕ) (ds : List (List ℕ)) → spelling (sha256_row owner ds) ≡ sha256_parts owner ds
sha256_row-parts owner [] = refl
sha256_row-parts owner (d ∷ ds) = row_parts sha256_kind sha256_size (entry_of owner) d ds

pub x509_sha256_row-parts : (owner : List ℕ) (ds : List (List ℕ)) → spelling (x509_sha256_row owner ds) ≡ x509_sha256_parts owner ds
x509_sha256_row-parts owner [] = refl
x509_sha256_row-parts owner (d ∷ ds) = row_parts x509_sha256_kind x509_sha256_size (digest_entry owner no_time) d ds

-- a prefix of bytes is one of bytes that equal them
pub OnErr-spelt : {T E : Type 0} (r : Result T E) (a b : Option (List ℕ)) {bs cs : List ℕ} → bs ≡ cs → OnErr r (AppendsBeginning a b bs) → OnErr r (AppendsBeginning a b cs)
OnErr-spelt r a b e h = subst (λ l. OnErr r (AppendsBeginning a b l)) e h
