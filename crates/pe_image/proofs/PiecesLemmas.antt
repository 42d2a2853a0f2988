-- Bytes kept in pieces, and slices of them.
use Rattle.std.proofs.Common.{◌≡◌, ◌+◌, ◌-◌, ◌*◌, ◌/◌, ◌%◌, ◌<◌, ◌≤◌, ◌++◌, ℕ, zero, suc, List, [], ◌∷◌, length, take, drop, get_or, slice_range, refl, sym, ap, ◌∙◌, append_assoc, append-nil, arith, length-append, length-drop}
use Rattle.std.specs.Prelude.{All}
use Rattle.std.specs.List.{flat_map}
use Rattle.std.proofs.Math.Seq.{drop-append-add, drop-cons, drop-length, take-append-add}
use Rattle.std.proofs.lemmas.List.{take-append-le, take-take, drop-append-le, drop-drop, length-take-le}
use Rattle.pe_image.proofs.SpanLemmas.{slice_range-join}

-- a fact of all holds of the first, and of the others
all-first : {X : Type 0} (P : X → Type 0) (x : X) (xs : List X) → All P (x ∷ xs) → P x
all-first P x xs all = all 0 x (omega arith)

all-rest : {X : Type 0} (P : X → Type 0) (x : X) (xs : List X) → All P (x ∷ xs) → All P xs
all-rest P x xs all = λ k d within. all (suc k) d (omega arith)

-- the number of bytes of full pieces
pub length-pieces : {X : Type 0} (f : X → List ℕ) (xs : List X) → All (λ x. length (f x) ≡ 65536) xs → length (flat_map f xs) ≡ 65536 * length xs
length-pieces f [] full = refl
length-pieces f (x ∷ xs) full =
    let here : length (f x) ≡ 65536 = all-first (λ x. length (f x) ≡ 65536) x xs full in
    let rest = length-pieces f xs (all-rest (λ x. length (f x) ≡ 65536) x xs full) in
    let both = length-append (f x) (flat_map f xs) in
    omega arith

-- the bytes after this number of full pieces
drop-pieces : {X : Type 0} (f : X → List ℕ) (i : ℕ) (xs : List X) (last : List ℕ) → All (λ x. length (f x) ≡ 65536) xs → i ≤ length xs
    → drop (65536 * i) (flat_map f xs ++ last) ≡ flat_map f (drop i xs) ++ last
drop-pieces f zero xs last full within = refl
drop-pieces f (suc i) [] last full within = absurd (omega arith)
drop-pieces f (suc i) (x ∷ xs) last full within =
    let here : length (f x) ≡ 65536 = all-first (λ x. length (f x) ≡ 65536) x xs full in
    let rest = drop-pieces f i xs last (all-rest (λ x. length (f x) ≡ 65536) x xs full) (omega arith) in
    let size : 65536 * suc i ≡ length (f x) + 65536 * i = omega arith in
    ap (λ n. drop n ((f x ++ flat_map f xs) ++ last)) size
    ∙ ap (drop (length (f x) + 65536 * i)) (append_assoc (f x) (flat_map f xs) last)
    ∙ drop-append-add (f x) (flat_map f xs ++ last) (65536 * i) ∙ rest

-- the end of a piece is a slice of all
pub end-of_piece : (all piece rest : List ℕ) (begin from at : ℕ) → drop begin all ≡ piece ++ rest → at ≡ begin + from → from ≤ length piece
    → take (length piece - from) (drop from piece) ≡ slice_range all at (at + length (take (length piece - from) (drop from piece)))
end-of_piece all piece rest begin from at stands is fits =
    let end = drop from piece in
    let size = length-drop from piece in
    let some = length-take-le (length piece - from) end (omega arith) in
    let behind : drop at all ≡ end ++ rest = ap (λ n. drop n all) is ∙ sym (drop-drop from begin all) ∙ ap (drop from) stands ∙ drop-append-le from piece rest fits in
    let wide : (at + length (take (length piece - from) end)) - at ≡ length piece - from = omega arith in
    sym (ap (λ n. take n (drop at all)) wide ∙ ap (take (length piece - from)) behind ∙ take-append-le (length piece - from) end rest (omega arith))

-- a full piece is at its offset
pub piece-stands : {X : Type 0} (f : X → List ℕ) (xs : List X) (last : List ℕ) (i : ℕ) (x : X) → All (λ x. length (f x) ≡ 65536) xs → i < length xs
    → x ≡ get_or xs i x → drop (65536 * i) (flat_map f xs ++ last) ≡ f x ++ (flat_map f (drop (suc i) xs) ++ last)
piece-stands f xs last i x full within is =
    let rest = flat_map f (drop (suc i) xs) in
    drop-pieces f i xs last full (omega arith)
    ∙ ap (λ l. flat_map f l ++ last) (drop-cons xs i x within ∙ ap (λ y. y ∷ drop (suc i) xs) (sym is))
    ∙ append_assoc (f x) rest last

-- and so does the last
pub last-stands : {X : Type 0} (f : X → List ℕ) (xs : List X) (last : List ℕ) → All (λ x. length (f x) ≡ 65536) xs
    → drop (65536 * length xs) (flat_map f xs ++ last) ≡ last ++ []
last-stands f xs last full =
    drop-pieces f (length xs) xs last full (omega arith) ∙ ap (λ l. flat_map f l ++ last) (drop-length xs) ∙ sym (append-nil last)

-- the bytes that were read, after those in front of them
pub take-behind : (front read back : List ℕ) (n count : ℕ) → length front ≡ n → count ≤ length read → take (n + count) (front ++ (read ++ back)) ≡ front ++ take count read
take-behind front read back n count is fits =
    ap (λ m. take (m + count) (front ++ (read ++ back))) (sym is) ∙ take-append-add front (read ++ back) count ∙ ap (λ l. front ++ l) (take-append-le count read back fits)

-- the bytes from a place in a full piece up to its end
pub rest-of_full : {X : Type 0} (f : X → List ℕ) (xs : List X) (last all piece : List ℕ) (x : X) (at : ℕ) → flat_map f xs ++ last ≡ all
    → All (λ x. length (f x) ≡ 65536) xs → at / 65536 < length xs → x ≡ get_or xs (at / 65536) x → piece ≡ f x
    → take (length piece - at % 65536) (drop (at % 65536) piece) ≡ slice_range all at (at + length (take (length piece - at % 65536) (drop (at % 65536) piece)))
rest-of_full f xs last all piece x at whole full within is shown =
    let i = at / 65536 in
    let here : length (f (get_or xs i x)) ≡ 65536 = full i x within in
    let size : length piece ≡ 65536 = ap length shown ∙ ap (λ y. length (f y)) is ∙ here in
    let rest = flat_map f (drop (suc i) xs) ++ last in
    let stands = ap (drop (65536 * i)) (sym whole) ∙ piece-stands f xs last i x full within is ∙ ap (λ l. l ++ rest) (sym shown) in
    end-of_piece all piece rest (65536 * i) (at % 65536) at stands (omega arith) (omega arith)

-- the place is in the last piece, after the full ones
pub record IsInLast (size piece at : ℕ) : Type 0 where
  pub within : at % 65536 < piece
  pub place : at ≡ 65536 * size + at % 65536

pub is-in_last : {X : Type 0} (f : X → List ℕ) (xs : List X) (last all piece : List ℕ) (at : ℕ) → flat_map f xs ++ last ≡ all
    → All (λ x. length (f x) ≡ 65536) xs → length xs ≤ at / 65536 → length last < 65536 → at < length all → piece ≡ last → IsInLast (length xs) (length piece) at
is-in_last f xs last all piece at whole full behind short within shown =
    let size = length-pieces f xs full in
    let both = length-append (flat_map f xs) last in
    let sum = ap length whole in
    let same = ap length shown in
    let far : at / 65536 ≡ length xs = omega arith in
    record { within = omega arith; place = omega arith }

pub rest-of_last : {X : Type 0} (f : X → List ℕ) (xs : List X) (last all piece : List ℕ) (at : ℕ) → flat_map f xs ++ last ≡ all
    → All (λ x. length (f x) ≡ 65536) xs → length xs ≤ at / 65536 → length last < 65536 → at < length all → piece ≡ last
    → take (length piece - at % 65536) (drop (at % 65536) piece) ≡ slice_range all at (at + length (take (length piece - at % 65536) (drop (at % 65536) piece)))
rest-of_last f xs last all piece at whole full behind short within shown =
    let place = is-in_last f xs last all piece at whole full behind short within shown in
    let stands = ap (drop (65536 * length xs)) (sym whole) ∙ last-stands f xs last full ∙ ap (λ l. l ++ []) (sym shown) in
    end-of_piece all piece [] (65536 * length xs) (at % 65536) at stands place.place (omega arith)

-- a slice of all, and the first bytes after it
pub slice-more : (all rest : List ℕ) (at done count : ℕ) → rest ≡ slice_range all (at + done) ((at + done) + length rest) → count ≤ length rest
    → at + done + count ≤ length all → slice_range all at (at + done) ++ take count rest ≡ slice_range all at (at + (done + count))
slice-more all rest at done count is short fits =
    let from = at + done in
    let behind = drop from all in
    let size : (from + length rest) - from ≡ length rest = omega arith in
    let wide : count ≡ (from + count) - from = omega arith in
    let next : take count rest ≡ slice_range all from (from + count) =
    ap (take count) (is ∙ ap (λ n. take n behind) size) ∙ take-take count (length rest) behind short ∙ ap (λ n. take n behind) wide in
    let end : from + count ≡ at + (done + count) = omega arith in
    ap (λ l. slice_range all at from ++ l) next ∙ slice_range-join all at from (from + count) (omega arith) (omega arith) (omega arith) ∙ ap (slice_range all at) end
