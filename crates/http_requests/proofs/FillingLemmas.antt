-- Bytes that are read into a buffer after others.
use Rattle.std.proofs.Common.{◌≡◌, ℕ, ◌+◌, ◌-◌, ◌≤◌, List, ◌++◌, Option, length, take, drop, ap, sym, subst, ◌∙◌, arith, length-take-le, length-drop, take-add, take-take, take_at, drop_at}
use Rattle.std.proofs.KnownBytes.{Consumes-trans}
use Rattle.std.proofs.lemmas.Slice.{take-put_mid}
use Rattle.std.specs.Io.KnownBytes.{Consumes}
use borrow.Rule.Slice.PartMut.{put_mid, same_len_mid}

-- the buffer keeps its length
pub filled_length : (i : ℕ) (xs ys : List ℕ) → i ≤ length xs → length ys ≡ length xs - i
    → length (put_mid i (length xs - i) xs ys) ≡ length xs
filled_length i xs ys within fits =
    same_len_mid i (length xs - i) xs ys (omega (arith, length-take-le (length xs - i) (drop i xs) (omega (arith, length-drop i xs))))

-- its first bytes are those that were there and those that came
filled_bytes : (i n : ℕ) (xs ys : List ℕ) → i ≤ length xs → length ys ≡ length xs - i → n ≤ length ys
    → take (i + n) (put_mid i (length xs - i) xs ys) ≡ take i xs ++ take n ys
filled_bytes i n xs ys within fits few =
    let front = length-take-le i xs within in
    sym (take-take (i + n) (i + length ys) (put_mid i (length xs - i) xs ys) (omega arith))
    ∙ ap (take (i + n)) (take-put_mid i (length xs - i) xs ys (i + length ys) (omega arith) within)
    ∙ take-add i n (take i xs ++ ys)
    ∙ (λ k. take_at (take i xs) ys i front k ++ take n (drop_at (take i xs) ys i front k))

-- so both reads together consumed them
pub filled : (a b c : Option (List ℕ)) (i n : ℕ) (xs ys : List ℕ) → i ≤ length xs → length ys ≡ length xs - i → n ≤ length ys
    → Consumes a b (take i xs) → Consumes b c (take n ys) → Consumes a c (take (i + n) (put_mid i (length xs - i) xs ys))
filled a b c i n xs ys within fits few first more =
    let P : List ℕ → Type 0 = λ bytes. Consumes a c bytes in
    subst P (sym (filled_bytes i n xs ys within fits few)) (Consumes-trans a b c (take i xs) (take n ys) first more)
