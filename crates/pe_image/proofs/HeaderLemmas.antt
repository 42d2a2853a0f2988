-- Parts of a slice of a file, and the section table.
use Rattle.std.proofs.Common.{◌≡◌, ◌+◌, ◌*◌, ◌-◌, ◌≤◌, ◌<◌, ◌++◌, ℕ, zero, suc, List, [], ◌∷◌, length, take, drop, slice_set, slice_range, refl, sym, ap, ◌∙◌, arith}
use Rattle.std.specs.Int.{w16, w32, from_le_bytes}
use Rattle.std.proofs.lemmas.List.{drop-drop, drop-take, take-take, take_more_set}
use Rattle.base.specs.Numbers.{u16_at, u32_at}
use Rattle.pe_image.specs.Headers.{header_at, headers_from}
use Rattle.pe_image.specs.declared.header.Header.{Header}

-- a part of a slice of the file, and the numbers in it
slice-part : (f : List ℕ) (at n k m : ℕ) → k + m ≤ n → take m (drop k (slice_range f at (at + n))) ≡ take m (drop (at + k) f)
slice-part f at n k m h =
    let all : (at + n) - at ≡ k + (n - k) = omega arith in
    ap (λ w. take m (drop k (take w (drop at f)))) all ∙ ap (take m) (drop-take k (n - k) (drop at f)) ∙ take-take m (n - k) (drop k (drop at f)) (omega arith)
    ∙ ap (take m) (drop-drop k at f)

pub u16-within : (f : List ℕ) (at n k : ℕ) → k + 2 ≤ n → u16_at (slice_range f at (at + n)) k ≡ u16_at f (at + k)
unfolding u16_at
u16-within f at n k h = ap (from_le_bytes w16) (slice-part f at n k 2 h)

pub u32-within : (f : List ℕ) (at n k : ℕ) → k + 4 ≤ n → u32_at (slice_range f at (at + n)) k ≡ u32_at f (at + k)
unfolding u32_at
u32-within f at n k h = ap (from_le_bytes w32) (slice-part f at n k 4 h)

-- a number that was read is the file's
pub u16-read : (f bytes : List ℕ) (at n : ℕ) → bytes ≡ slice_range f at (at + 2) → n ≡ u16_at bytes 0 → n ≡ u16_at f at
u16-read f bytes at n read is =
    let here : at + 0 ≡ at = omega arith in
    is ∙ ap (λ b. u16_at b 0) read ∙ u16-within f at 2 0 (omega arith) ∙ ap (u16_at f) here

pub u32-read : (f bytes : List ℕ) (at n : ℕ) → bytes ≡ slice_range f at (at + 4) → n ≡ u32_at bytes 0 → n ≡ u32_at f at
u32-read f bytes at n read is =
    let here : at + 0 ≡ at = omega arith in
    is ∙ ap (λ b. u32_at b 0) read ∙ u32-within f at 4 0 (omega arith) ∙ ap (u32_at f) here

-- a beginning of a slice of the file
pub slice-within : (f : List ℕ) (at n k : ℕ) → k ≤ n → take k (slice_range f at (at + n)) ≡ slice_range f at (at + k)
slice-within f at n k h =
    let all : (at + n) - at ≡ n = omega arith in
    let some : (at + k) - at ≡ k = omega arith in
    ap (λ m. take k (take m (drop at f))) all ∙ take-take k n (drop at f) h ∙ ap (λ m. take m (drop at f)) (sym some)

-- one header more
pub headers-more : (f : List ℕ) (at n : ℕ) → headers_from f at (n + 1) ≡ headers_from f at n ++ header_at f (at + 40 * n) ∷ []
unfolding headers_from
headers-more f at zero = let here : at + 40 * 0 ≡ at = omega arith in ap (λ m. header_at f m ∷ []) (sym here)
headers-more f at (suc n) =
    let more = headers-more f (at + 40) n in
    let up : suc n + 1 ≡ suc (n + 1) = omega arith in
    let place : (at + 40) + 40 * n ≡ at + 40 * suc n = omega arith in
    ap (headers_from f at) up ∙ ap (λ l. header_at f at ∷ l) more ∙ ap (λ m. header_at f at ∷ (headers_from f (at + 40) n ++ header_at f m ∷ [])) place

-- the header that the 40 bytes at a place hold
pub header-is : (f bytes : List ℕ) (at : ℕ) (h : Header) → bytes ≡ slice_range f at (at + 40) → h ≡ record { name = take 8 bytes; virtual_size = u32_at bytes 8; size_of_raw_data = u32_at bytes 16; pointer_to_raw_data = u32_at bytes 20 } → h ≡ header_at f at
unfolding header_at
header-is f bytes at h read is =
    let name = slice-within f at 40 8 (omega arith) in
    let virtual_size = u32-within f at 40 8 (omega arith) in
    let size = u32-within f at 40 16 (omega arith) in
    let pointer = u32-within f at 40 20 (omega arith) in
    cc

-- no header
pub headers-none : (f : List ℕ) (at : ℕ) → headers_from f at 0 ≡ []
unfolding headers_from
headers-none f at = refl

-- the header at place i is written after those before it
pub headers-written : (f : List ℕ) (at i : ℕ) (hs : List Header) (h : Header) → i < length hs → take i hs ≡ headers_from f at i → h ≡ header_at f (at + 40 * i) → take (i + 1) (slice_set hs i h) ≡ headers_from f at (i + 1)
headers-written f at i hs h fits before is =
    let more = take_more_set hs i h fits in
    let next = headers-more f at i in
    cc
