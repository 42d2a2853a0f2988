-- The first line of a text that comes byte by byte, up to its first space.
use Rattle.std.proofs.Common.{◌≡◌, ◌∙◌, ℕ, suc, ◌≤◌, ◌<◌, eqb, Bool, true, false, List, [], ◌∷◌, ◌++◌, length, Option, None, Some, IfSome, sym, ap, subst, inl, inr, refl, arith}
use Rattle.std.specs.Prelude.{◌==◌, ◌||◌}
use Rattle.std.specs.Io.KnownBytes.{Consumes, IsAtEnd}
use Rattle.std.specs.List.{list_any, onto_first}
use Rattle.base.proofs.LineLemmas.{HasNoLf}
use Rattle.std.proofs.lemmas.Bool.Decides.{nat_tests}
use Rattle.base.specs.Digests.{digest_of}
use Rattle.base.specs.Lines.{lines_of}
use Rattle.desk_inputs.proofs.FirstLineLemmas.{HasNoLf-tail, first_line-last, first_line-read, lines_of-onto}
use Rattle.desk_inputs.specs.Tokens.{IsTextOf, PassesDigits, before_space, first_line, first_of, first_word, given_digest, is_space}

-- the list has no space
abbrev pub HasNoSpace : List ℕ → Type 0
HasNoSpace word = list_any is_space word ≡ false

-- a test in front of others that all fail has failed, and so have they
first_fails : (a b : Bool) → (a || b) ≡ false → a ≡ false
first_fails true b none = none
first_fails false b none = refl

others_fail : (a b : Bool) → (a || b) ≡ false → b ≡ false
others_fail true b none = cc
others_fail false b none = none

HasNoSpace-tail : (b : ℕ) (bs : List ℕ) → HasNoSpace (b ∷ bs) → HasNoSpace bs
HasNoSpace-tail b bs none = others_fail (is_space b) (list_any is_space bs) none

-- a byte more that is no space
pub HasNoSpace-more : (word : List ℕ) (b : ℕ) → HasNoSpace word → is_space b ≡ false → HasNoSpace (word ++ b ∷ [])
HasNoSpace-more [] b none last = rw last refl
HasNoSpace-more (x ∷ xs) b none last =
    rw (first_fails (is_space x) (list_any is_space xs) none, HasNoSpace-more xs b (HasNoSpace-tail x xs none) last) refl

-- the beginning of a word without a space has none
HasNoSpace-front : (front : List ℕ) (b : ℕ) → HasNoSpace (front ++ b ∷ []) → HasNoSpace front
HasNoSpace-front [] b none = refl
HasNoSpace-front (x ∷ xs) b none =
    rw (first_fails (is_space x) (list_any is_space (xs ++ b ∷ [])) none, HasNoSpace-front xs b (HasNoSpace-tail x (xs ++ b ∷ []) none)) refl

-- a line without a space is its own first word
before_space-whole : (word : List ℕ) → HasNoSpace word → before_space word ≡ word
before_space-whole [] none = refl
before_space-whole (b ∷ bs) none =
    rw (first_fails (is_space b) (list_any is_space bs) none) (ap (λ (l : List ℕ). b ∷ l) (before_space-whole bs (HasNoSpace-tail b bs none)))

first_of-onto : (b : ℕ) (lines : List (List ℕ)) → first_of (onto_first b lines) ≡ b ∷ first_of lines
first_of-onto b [] = refl
first_of-onto b (line ∷ lines) = refl

-- a line that begins with a byte that is no space
begun : (b : ℕ) (line : List ℕ) → is_space b ≡ false → before_space (b ∷ line) ≡ b ∷ before_space line
begun b line plain = rw plain refl

-- a byte that is no LF, before others of which the first is none: it begins the first line
first_line-onto : (b c : ℕ) (text : List ℕ) → eqb b 10 ≡ false → eqb c 10 ≡ false → first_line (b ∷ c ∷ text) ≡ b ∷ first_line (c ∷ text)
first_line-onto b c text first next =
    ap first_of (lines_of-onto b c text first next) ∙ first_of-onto b (lines_of (c ∷ text))

-- the first word of a text that begins with a word and a space
first_word-spaced : (word rest : List ℕ) → HasNoLf word → HasNoSpace word → word ≡ first_word (word ++ 32 ∷ rest)
first_word-spaced [] rest h none = ap before_space (sym (first_of-onto 32 (lines_of rest)))
first_word-spaced (b ∷ []) rest h none =
    let one = first_line-onto b 32 rest (h.at 0 (omega arith)) refl in
    let tail = first_word-spaced [] rest (HasNoLf-tail b [] h) refl in
    sym (ap before_space one ∙ begun b (first_line (32 ∷ rest)) (first_fails (is_space b) false none) ∙ ap (λ (l : List ℕ). b ∷ l) (sym tail))
first_word-spaced (b ∷ c ∷ bs) rest h none =
    let one = first_line-onto b c (bs ++ 32 ∷ rest) (h.at 0 (omega arith)) (h.at 1 (omega arith)) in
    let tail = first_word-spaced (c ∷ bs) rest (HasNoLf-tail b (c ∷ bs) h) (HasNoSpace-tail b (c ∷ bs) none) in
    sym (ap before_space one ∙ begun b (first_line (c ∷ (bs ++ 32 ∷ rest))) (first_fails (is_space b) (list_any is_space (c ∷ bs)) none) ∙ ap (λ (l : List ℕ). b ∷ l) (sym tail))

-- the bytes that a reader gave before a space are its first word
pub first_word-read : (a b c : Option (List ℕ)) (word : List ℕ) (byte : ℕ) → Consumes a b word → Consumes b c (byte ∷ []) → byte ≡ 32
    → HasNoLf word → HasNoSpace word → IfSome a (λ given. word ≡ first_word given)
first_word-read None b c word byte before next space h none = tt
first_word-read (Some given) None c word byte before next space h none = absurd before
first_word-read (Some given) (Some left) None word byte before next space h none = absurd next
first_word-read (Some given) (Some left) (Some rest) word byte before next space h none =
    let whole : given ≡ word ++ 32 ∷ rest = before ∙ ap (λ l. word ++ l) next ∙ ap (λ (b : ℕ). word ++ b ∷ rest) space in
    first_word-spaced word rest h none ∙ ap first_word (sym whole)

-- the text of a line without a space has none
text-plain : (line text : List ℕ) → IsTextOf line text → HasNoSpace line → before_space text ≡ text
text-plain line text is none = elim is [
  | inl cr ↦ before_space-whole text (HasNoSpace-front text 13 (subst HasNoSpace cr none))
  | inr plain ↦ before_space-whole text (subst HasNoSpace plain.0 none)
]

-- those before the first LF, if none of them is a space
pub first_word-ended : (a b c : Option (List ℕ)) (line text : List ℕ) (byte : ℕ) → Consumes a b line → Consumes b c (byte ∷ []) → byte ≡ 10
    → HasNoLf line → HasNoSpace line → IsTextOf line text → IfSome a (λ given. text ≡ first_word given)
first_word-ended None b c line text byte before next lf h none is = tt
first_word-ended (Some given) b c line text byte before next lf h none is =
    let first : text ≡ first_line given = first_line-read (Some given) b c line text byte before next lf h is in
    sym (text-plain line text is none) ∙ ap before_space first

-- and those of a reader that is at its end
pub first_word-last : (a b c : Option (List ℕ)) (line : List ℕ) → Consumes a b line → Consumes b c [] × IsAtEnd c → HasNoLf line
    → HasNoSpace line → IfSome a (λ given. line ≡ first_word given)
first_word-last None b c line before end h none = tt
first_word-last (Some given) b c line before end h none =
    let first : line ≡ first_line given = first_line-last (Some given) b c line before end h in
    sym (before_space-whole line none) ∙ ap before_space first

-- bytes without an LF and a space are of the first word, but for a CR that is the last of them
length-first_word : (line rest : List ℕ) → HasNoLf line → HasNoSpace line → length line ≤ suc (length (first_word (line ++ rest)))
length-first_word [] rest h none = omega arith
length-first_word (b ∷ []) rest h none = omega arith
length-first_word (b ∷ c ∷ bs) rest h none =
    let tail = length-first_word (c ∷ bs) rest (HasNoLf-tail b (c ∷ bs) h) (HasNoSpace-tail b (c ∷ bs) none) in
    let one = first_line-onto b c (bs ++ rest) (h.at 0 (omega arith)) (h.at 1 (omega arith)) in
    let longer : length (first_word (b ∷ c ∷ (bs ++ rest))) ≡ suc (length (first_word (c ∷ (bs ++ rest)))) =
    ap (λ l. length (before_space l)) one
    ∙ ap length (begun b (first_line (c ∷ (bs ++ rest))) (first_fails (is_space b) (list_any is_space (c ∷ bs)) none)) in
    omega arith

-- so a text that begins with 66 of them has a word that passes the digits of a SHA-256
pub PassesDigits-read : (a b : Option (List ℕ)) (line : List ℕ) → Consumes a b line → HasNoLf line → HasNoSpace line → 66 ≤ length line → IfSome a PassesDigits
PassesDigits-read None b line read h none size = tt
PassesDigits-read (Some given) None line read h none size = absurd read
PassesDigits-read (Some given) (Some rest) line read h none size =
    let long = length-first_word line rest h none in
    let same = ap (λ text. length (first_word text)) read in
    omega arith

-- no text of more bytes has the digits of a SHA-256
passes_none : (word : List ℕ) → 64 < length word → digest_of word ≡ None
passes_none word long =
    let other : (length word == 64) ≡ false = grind (arith, nat_tests, long) in
    rw other refl

-- so a first word that passes them gives none
pub given_digest-long : (given : Option (List ℕ)) → IfSome given PassesDigits → IfSome given (λ text. given_digest text ≡ None)
given_digest-long None long = tt
given_digest-long (Some text) long = passes_none (first_word text) long

-- nor does one of which nothing is kept
pub given_digest-none : (given : Option (List ℕ)) → IfSome given (λ text. None ≡ given_digest text) → IfSome given (λ text. given_digest text ≡ None)
given_digest-none None none = tt
given_digest-none (Some text) none = sym none
