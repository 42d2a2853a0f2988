-- Rows of lists.
use Rattle.std.proofs.lemmas.Bool.Decides.{nat_tests}
use Rattle.std.proofs.Common.{◌≡◌, ℕ, zero, suc, eqb, true, ◌+◌, ◌-◌, ◌<◌, ◌≤◌, List, [], ◌∷◌, ◌++◌, length, take, drop, Some, None, refl, sym, ap, ap₂, ◌∙◌, subst, append_assoc, append-nil, inl, inr, arith}
use Rattle.std.proofs.lemmas.Bool.{cases_order}
use Rattle.std.proofs.lemmas.List.{take_at, take_all, length-drop, length-append, length-take-le, take-append-drop}
use Rattle.base.proofs.OutputLemmas.{take-more}
use Rattle.siglist.specs.SignatureLists.{SignatureList, IsList, IsRow, Spells, list_bytes, list_size, placed_from}
use Rattle.siglist.specs.Heads.{size_at}
use Rattle.siglist.specs.Steps.Reading.{lack_at, front_of, placed, row_of}
use Rattle.siglist.specs.ListsFaults.{HasNoList, IsRefused, LacksRoom, Stops, fault_of}
use Rattle.siglist.specs.declared.fault.ListsFault.{ListsFault}
use Rattle.siglist.specs.declared.fault.ListsFault.TheVariants as fault
use Rattle.siglist.specs.declared.fault.Lack.{Lack}
use Rattle.siglist.specs.declared.fault.Lack.TheVariants as lack
use Rattle.siglist.proofs.ChainLemmas.{lack_at-none, lack_at-head, lack_at-some}
use Rattle.siglist.proofs.HeadLemmas.{Reads, spelt_reads}
use Rattle.siglist.proofs.SpeltLemmas.{IsBytes, IsBytes-drop, reads_spelt}

-- a list at the front is read
pub reads_at : (b : List ℕ) (l : SignatureList) (rest : List ℕ) → IsList l → b ≡ list_bytes l ++ rest → Reads b l rest
reads_at b l rest h is = subst (λ x. Reads x l rest) (sym is) (spelt_reads l rest h)

pub row_of-spells : (ls : List SignatureList) (n : ℕ) (b : List ℕ) → Spells ls b → length b ≤ n → row_of n b ≡ ls
unfolding row_of
row_of-spells [] zero b h le = refl
row_of-spells [] (suc n) [] h le = refl
row_of-spells [] (suc n) (x ∷ b) h le = absurd (cc)
row_of-spells (l ∷ ls) zero b h le = let r = reads_at b l h.0 h.1 h.2 in let long = r.head.long in absurd (omega (arith, long))
row_of-spells (l ∷ ls) (suc n) [] h le = let r = reads_at [] l h.0 h.1 h.2 in let long = r.head.long in absurd (omega (arith, long))
row_of-spells (l ∷ ls) (suc n) (x ∷ b) h le =
    let r = reads_at (x ∷ b) l h.0 h.1 h.2 in
    let room = r.head.room in
    let rest = ap length r.rest_is in
    let less = length-drop (size_at (x ∷ b)) (x ∷ b) in
    ap₂ ◌∷◌ r.front (ap (row_of n) r.rest_is ∙ row_of-spells ls n h.0 h.3 (omega (arith, room, rest, less)))

-- no bytes spell two rows
pub row_is_one : (ls ms : List SignatureList) (b : List ℕ) → Spells ls b → Spells ms b → ls ≡ ms
row_is_one ls ms b h k = sym (row_of-spells ls (length b) b h (omega arith)) ∙ row_of-spells ms (length b) b k (omega arith)

pub Spells-append : (ls ms : List SignatureList) (a b : List ℕ) → Spells ls a → Spells ms b → Spells (ls ++ ms) (a ++ b)
Spells-append [] ms a b h k = subst (λ x. Spells ms (x ++ b)) (sym h) k
Spells-append (l ∷ ls) ms a b h k =
    (h.0 ++ b, h.1, ap (λ x. x ++ b) h.2 ∙ append_assoc (list_bytes l) h.0 b, Spells-append ls ms h.0 b h.3 k)

-- the bytes before a place are spelt
pub record SpeltTo (bytes : List ℕ) (at : ℕ) : Type 0 where
  pub row : List SignatureList
  pub spelt : Spells row (take at bytes)

pub SpeltTo-none : (bytes : List ℕ) → SpeltTo bytes 0
SpeltTo-none bytes = record { row = []; spelt = refl }

pub front_size : (b : List ℕ) → lack_at b ≡ None → (28 ≤ size_at b) × (size_at b ≤ length b)
front_size b h = let head = lack_at-none b h in let room = head.room in (omega (arith, room), head.fits)

pub SpeltTo-more : (bytes : List ℕ) (at : ℕ) → IsBytes bytes → at ≤ length bytes → SpeltTo bytes at → lack_at (drop at bytes) ≡ None
    → SpeltTo bytes (at + size_at (drop at bytes))
SpeltTo-more bytes at h le before none =
    let b = drop at bytes in
    let s = reads_spelt b (IsBytes-drop bytes at h) (lack_at-none b none) in
    let r = reads_at b (front_of b) (drop (size_at b) b) s.list s.is in
    let fits = front_size b none in
    let past = ap length s.is ∙ length-append (list_bytes (front_of b)) (drop (size_at b) b) in
    let rest = length-drop (size_at b) b in
    let long : length (list_bytes (front_of b)) ≡ size_at b = omega (arith, past, rest, fits.1) in
    let front : take (size_at b) b ≡ list_bytes (front_of b) = ap (take (size_at b)) s.is ∙ take_at (list_bytes (front_of b)) (drop (size_at b) b) (size_at b) long in
    let whole : take (at + size_at b) bytes ≡ take at bytes ++ (list_bytes (front_of b) ++ []) = sym (take-more at (size_at b) bytes le) ∙ ap (λ x. take at bytes ++ x) (front ∙ sym (append-nil (list_bytes (front_of b)))) in
    record {
      row = before.row ++ front_of b ∷ [];
      spelt = subst (Spells (before.row ++ front_of b ∷ [])) (sym whole) (Spells-append before.row (front_of b ∷ []) (take at bytes) (list_bytes (front_of b) ++ []) before.spelt ([], s.list, refl, refl));
    }

-- a row that was read to the end
pub SpeltTo-all : (bytes : List ℕ) (at : ℕ) → length bytes ≤ at → SpeltTo bytes at → Spells (row_of (length bytes) bytes) bytes
SpeltTo-all bytes at le h =
    let spelt : Spells h.row bytes = subst (Spells h.row) (take_all at bytes le) h.spelt in
    subst (λ ls. Spells ls bytes) (sym (row_of-spells h.row (length bytes) bytes spelt (omega arith))) spelt

HasNoList-lack : (b : List ℕ) (why : Lack) → lack_at b ≡ Some why → HasNoList b
HasNoList-lack b why h = λ l rest il is. let read = lack_at-head b (reads_at b l rest il is).head in absurd (cc)

stops_at : (bytes : List ℕ) (at : ℕ) (why : Lack) → at < length bytes → SpeltTo bytes at → lack_at (drop at bytes) ≡ Some why → Stops bytes at
stops_at bytes at why l h e = record { row = h.row; before = h.spelt; within = l; none = HasNoList-lack (drop at bytes) why e }

-- bytes that are spelt up to a place are refused for the lack there
pub SpeltTo-refused : (bytes : List ℕ) (at : ℕ) (why : Lack) → at < length bytes → SpeltTo bytes at → lack_at (drop at bytes) ≡ Some why → IsRefused bytes (fault_of why at)
SpeltTo-refused bytes at lack.List l h e = (stops_at bytes at lack.List l h e, lack_at-some (drop at bytes) lack.List e)
SpeltTo-refused bytes at lack.EntrySize l h e = (stops_at bytes at lack.EntrySize l h e, lack_at-some (drop at bytes) lack.EntrySize e)

-- one list, and a row after it
record FirstOf (b : List ℕ) : Type 0 where
  first : SignatureList
  others : List SignatureList
  rest : List ℕ
  reads : Reads b first rest
  spelt : Spells others rest
  whole : Spells (first ∷ others) b

first_of_row : (b : List ℕ) (ls : List SignatureList) → 0 < length b → Spells ls b → FirstOf b
first_of_row b [] some h = let none = ap length h in absurd (omega (arith, none))
first_of_row b (l ∷ ls) some h = record { first = l; others = ls; rest = h.0; reads = reads_at b l h.0 h.1 h.2; spelt = h.3; whole = h }

pub IsRow-front : (b : List ℕ) → 0 < length b → IsRow b → lack_at b ≡ None
IsRow-front b some h = lack_at-head b (first_of_row b h.row some h.spelt).reads.head

pub IsRow-rest : (b : List ℕ) → 0 < length b → IsRow b → IsRow (drop (size_at b) b)
IsRow-rest b some h =
    let f = first_of_row b h.row some h.spelt in
    record { row = f.others; spelt = subst (Spells f.others) (sym f.reads.rest_is) f.spelt }

pub row_of-front : (b : List ℕ) → 0 < length b → IsRow b → row_of (length b) b ≡ front_of b ∷ row_of (length (drop (size_at b) b)) (drop (size_at b) b)
row_of-front b some h =
    let f = first_of_row b h.row some h.spelt in
    let rest = drop (size_at b) b in
    let spelt : Spells f.others rest = subst (Spells f.others) (sym f.reads.rest_is) f.spelt in
    row_of-spells (f.first ∷ f.others) (length b) b f.whole (omega arith) ∙ ap₂ ◌∷◌ (sym f.reads.front) (sym (row_of-spells f.others (length rest) rest spelt (omega arith)))

-- a row that begins with another
pub Spells-rest : (ls ms : List SignatureList) (a c : List ℕ) → Spells ls a → Spells ms (a ++ c) → (ks : List SignatureList) × Spells ks c
Spells-rest [] ms a c h k = (ms, subst (λ x. Spells ms (x ++ c)) h k)
Spells-rest (l ∷ ls) [] a c h k =
    let r = reads_at a l h.0 h.1 h.2 in
    let long = r.head.long in
    let none = ap length k in
    absurd (omega (arith, long, none, length-append a c))
Spells-rest (l ∷ ls) (m ∷ ms) a c h k =
    let r = reads_at (a ++ c) l (h.0 ++ c) h.1 (ap (λ x. x ++ c) h.2 ∙ append_assoc (list_bytes l) h.0 c) in
    let s = reads_at (a ++ c) m k.0 k.1 k.2 in
    let same : k.0 ≡ h.0 ++ c = sym s.rest_is ∙ r.rest_is in
    Spells-rest ls ms h.0 c h.3 (subst (Spells ms) same k.3)

-- a row of at least one byte has a list at the front
row_has_list : (ls : List SignatureList) (b after : List ℕ) → 0 < length b → Spells ls b → HasNoList (b ++ after) → ⊥
row_has_list [] b after some h none = let e = ap length h in omega (arith, e)
row_has_list (l ∷ ls) b after some h none = none l (h.0 ++ after) h.1 (ap (λ x. x ++ after) h.2 ∙ append_assoc (list_bytes l) h.0 after)

-- where reading stops, no row is spelt
no_row : (bytes : List ℕ) (at : ℕ) (ls : List SignatureList) → Stops bytes at → Spells ls bytes → ⊥
no_row bytes at ls h k =
    let whole : bytes ≡ take at bytes ++ drop at bytes = sym (take-append-drop at bytes) in
    let rest = Spells-rest h.row ls (take at bytes) (drop at bytes) h.before (subst (Spells ls) whole k) in
    let size = length-drop at bytes in
    let within = h.within in
    row_has_list rest.0 (drop at bytes) [] (omega (arith, size, within)) rest.1 (subst HasNoList (sym (append-nil (drop at bytes))) h.none)

-- bytes that are spelt aren't refused
pub row_is_not_refused : (bytes : List ℕ) (ls : List SignatureList) (f : ListsFault) → Spells ls bytes → IsRefused bytes f → ⊥
row_is_not_refused bytes ls (fault.List at) h k = no_row bytes at ls k.0 h
row_is_not_refused bytes ls (fault.EntrySize at) h k = no_row bytes at ls k.0 h

stops_apart : (bytes : List ℕ) (p q : ℕ) → Stops bytes p → Stops bytes q → p < q → ⊥
stops_apart bytes p q h k l =
    let b = drop p bytes in
    let hw = h.within in
    let kw = k.within in
    let up : take q bytes ≡ take p bytes ++ take (q - p) b = ap (λ n. take n bytes) (let e : q ≡ p + (q - p) = omega arith in e) ∙ sym (take-more p (q - p) bytes (omega (arith, hw))) in
    let rest = Spells-rest h.row k.row (take p bytes) (take (q - p) b) h.before (subst (Spells k.row) up k.before) in
    let size = length-drop p bytes in
    let some = length-take-le (q - p) b (omega (arith, size, kw)) in
    row_has_list rest.0 (take (q - p) b) (drop (q - p) b) (omega (arith, some)) rest.1 (subst HasNoList (sym (take-append-drop (q - p) b)) h.none)

-- reading stops at one place
same_stop : (bytes : List ℕ) (p q : ℕ) → Stops bytes p → Stops bytes q → p ≡ q
same_stop bytes p q h k = elim (cases_order p q) [
  | inl same ↦ same
  | inr apart ↦ elim apart [
    | inl before ↦ absurd (stops_apart bytes p q h k before)
    | inr after ↦ absurd (stops_apart bytes q p k h after)
  ]
]

-- two reasons at one place exclude each other
reasons_apart : (bytes : List ℕ) (p q : ℕ) → Stops bytes p → Stops bytes q → LacksRoom (drop p bytes) → (LacksRoom (drop q bytes) → ⊥) → ⊥
reasons_apart bytes p q h k room fits = fits (subst (λ n. LacksRoom (drop n bytes)) (same_stop bytes p q h k) room)

pub fault_is_one : (bytes : List ℕ) (f g : ListsFault) → IsRefused bytes f → IsRefused bytes g → f ≡ g
fault_is_one bytes (fault.List p) (fault.List q) h k = ap fault.List (same_stop bytes p q h.0 k.0)
fault_is_one bytes (fault.List p) (fault.EntrySize q) h k = absurd (reasons_apart bytes p q h.0 k.0 h.1 k.1)
fault_is_one bytes (fault.EntrySize p) (fault.List q) h k = absurd (reasons_apart bytes q p k.0 h.0 k.1 h.1)
fault_is_one bytes (fault.EntrySize p) (fault.EntrySize q) h k = ap fault.EntrySize (same_stop bytes p q h.0 k.0)

pub row_of-none : (b : List ℕ) → true ≡ eqb (length b) 0 → row_of (length b) b ≡ []
unfolding row_of
row_of-none [] e = refl
row_of-none (x ∷ b) e = grind (arith, nat_tests, e)

-- the front list is as long as it says
pub IsRow-size : (b : List ℕ) → 0 < length b → IsRow b → (list_size (front_of b) ≡ size_at b) × (size_at b ≤ length b)
IsRow-size b some h =
    let f = first_of_row b h.row some h.spelt in
    (ap list_size f.reads.front ∙ sym f.reads.size, f.reads.head.fits)

-- the first of what is left of `size` bytes, with its place, and the others with theirs
pub placed_from-front : (size : ℕ) (b : List ℕ) → length b ≤ size → 0 < length b → IsRow b
    → placed_from (size - length b) (row_of (length b) b)
    ≡ placed (size - length b) (front_of b) ∷ placed_from (size - length (drop (size_at b) b)) (row_of (length (drop (size_at b) b)) (drop (size_at b) b))
placed_from-front size b le some h =
    let own = IsRow-size b some h in
    let rest = length-drop (size_at b) b in
    let next : size - length b + list_size (front_of b) ≡ size - length (drop (size_at b) b) = omega (arith, own.0, own.1, rest) in
    ap (placed_from (size - length b)) (row_of-front b some h)
    ∙ ap (λ n. placed (size - length b) (front_of b) ∷ placed_from n (row_of (length (drop (size_at b) b)) (drop (size_at b) b))) next
