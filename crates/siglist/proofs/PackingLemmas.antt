-- The digests of a text, line by line.
use Rattle.std.proofs.Common.{◌≡◌, ℕ, ◌+◌, ◌*◌, ◌≤◌, eqb, cond, true, false, ◌&&◌, List, [], ◌∷◌, length, Option, Some, None, Result, Ok, Err, IfSome, refl, sym, ap, subst, arith}
use Rattle.std.specs.List.{onto_first}
use Rattle.base.specs.Lines.{lines_of, numbered_from, begins_with, named_at, parted}
use Rattle.base.specs.Digests.{IsArranged, digest_of}
use Rattle.base.proofs.DigestLemmas.{digest_size}
use Rattle.std.specs.Io.KnownBytes.{Appends}
use Rattle.base.specs.Output.{AppendsBeginning}
use Rattle.siglist.specs.Packing.{IsPacked, IsPartlyPacked, Packs, digests_in, packed, longest_text}
use Rattle.base.proofs.OrderLemmas.{IsArranged-one}

-- the number of bytes of the lines
abbrev total : List (List ℕ) → ℕ
total [] = 0
total (l ∷ ls) = length l + total ls

total-onto_first : (b : ℕ) (ls : List (List ℕ)) → total (onto_first b ls) ≡ 1 + total ls
total-onto_first b [] = refl
total-onto_first b (l ∷ ls) = omega arith

total_of_lines : (t : List ℕ) → total (lines_of t) ≤ length t
total_of_lines [] = omega arith
total_of_lines (b ∷ bs) =
    let rest = total_of_lines bs in
    let more = total-onto_first b (lines_of bs) in
    elim (eqb b 10) as (λ v. total (cond v ([] ∷ lines_of bs) (cond (eqb b 13 && begins_with 10 bs) (lines_of bs) (onto_first b (lines_of bs)))) ≤ length (b ∷ bs)) [
      | true ↦ omega arith
      | false ↦ elim (eqb b 13 && begins_with 10 bs) as (λ v. total (cond v (lines_of bs) (onto_first b (lines_of bs))) ≤ length (b ∷ bs)) [
        | true ↦ omega arith
        | false ↦ omega arith
      ]
    ]

digest_at_ok : (n : ℕ) (o : Option (List ℕ)) (r : Result (List (List ℕ)) ℕ) (ds : List (List ℕ)) → named_at n o r ≡ Ok ds
    → (d : List ℕ) × (rest : List (List ℕ)) × (o ≡ Some d) × (r ≡ Ok rest) × (ds ≡ d ∷ rest)
digest_at_ok n None r ds h = cc
digest_at_ok n (Some d) (Ok rest) ds h = (d, rest, refl, refl, cc)
digest_at_ok n (Some d) (Err k) ds h = cc

-- each digest takes 64 bytes of the text
count_of_digests : (n : ℕ) (ls : List (List ℕ)) (ds : List (List ℕ)) → digests_in (numbered_from n ls) ≡ Ok ds → 64 * length ds ≤ total ls
count_of_digests n [] ds h = let none : [] ≡ ds = cc in omega (arith, ap length none)
count_of_digests n ([] ∷ ls) ds h = let rest = count_of_digests (n + 1) ls ds h in omega arith
count_of_digests n ((b ∷ bs) ∷ ls) ds h =
    let (d, others, first, after, is) = digest_at_ok n (digest_of (b ∷ bs)) (digests_in (numbered_from (n + 1) ls)) ds h in
    let size = digest_size (b ∷ bs) d first in
    let rest = count_of_digests (n + 1) ls others after in
    omega (arith, ap length is)

pub few_digests : (t : List ℕ) (ds : List (List ℕ)) → digests_in (parted t) ≡ Ok ds → 64 * length ds ≤ length t
few_digests t ds h = omega (arith, count_of_digests 1 (lines_of t) ds h, total_of_lines t)

ok_same : {X E : Type 0} (x y : X) (r : Result X E) → r ≡ Ok x → r ≡ Ok y → x ≡ y
ok_same x y r h k = cc

-- a text packs into one list
pub Packs-one : (text : List ℕ) (ds es : List (List ℕ)) → Packs text ds → Packs text es → ds ≡ es
Packs-one text ds es h k =
    let named : h.named ≡ k.named = ok_same h.named k.named _ h.read k.read in
    IsArranged-one h.named ds es h.arranged (subst (λ xs. IsArranged xs es) (sym named) k.arranged)

-- the text that was read to the end, read as digests and arranged
pub Packs-given : (given : Option (List ℕ)) (text part : List ℕ) (named ds : List (List ℕ)) → IfSome given (λ xs. text ≡ xs)
    → length text ≤ longest_text → part ≡ text → digests_in (parted part) ≡ Ok named → IsArranged named ds → IfSome given (λ xs. Packs xs ds)
Packs-given None text part named ds same fits whole read arranged = tt
Packs-given (Some xs) text part named ds same fits whole read arranged =
    record { fits = rw (← same) fits; named = named; read = rw (← same, ← whole) read; arranged = arranged }

pub IsPacked-given : (given : Option (List ℕ)) (owner : List ℕ) (ds : List (List ℕ)) (count : ℕ) (old new : Option (List ℕ))
    → IfSome given (λ text. Packs text ds) → count ≡ length ds → Appends old new (packed owner ds)
    → IfSome given (λ text. IsPacked owner text count old new)
IsPacked-given None owner ds count old new packs is out = tt
IsPacked-given (Some text) owner ds count old new packs is out = record { digests = ds; packs = packs; count_is = is; out = out }

pub IsPartlyPacked-given : (given : Option (List ℕ)) (owner : List ℕ) (ds : List (List ℕ)) (old new : Option (List ℕ))
    → IfSome given (λ text. Packs text ds) → AppendsBeginning old new (packed owner ds) → IfSome given (λ text. IsPartlyPacked owner text old new)
IsPartlyPacked-given None owner ds old new packs out = tt
IsPartlyPacked-given (Some text) owner ds old new packs out = record { digests = ds; packs = packs; out = out }
