-- The first line of a text that comes byte by byte.
use Rattle.std.proofs.Common.{◌≡◌, ◌∙◌, ℕ, zero, suc, ◌<◌, ◌≤◌, eqb, false, List, [], ◌∷◌, ◌++◌, length, get_or, Option, None, Some, IfSome, sym, ap, subst, inl, inr, refl, arith, append-nil, append_assoc}
use Rattle.std.specs.Io.KnownBytes.{Consumes, IsAtEnd}
use Rattle.std.specs.List.{onto_first}
use Rattle.std.proofs.lemmas.Grind.{common_steps}
use Rattle.base.proofs.LineLemmas.{HasNoLf, lines_of-crlf, lines_of-last, lines_of-lf}
use Rattle.base.specs.Lines.{lines_of}
use Rattle.desk_inputs.specs.Tokens.{IsTextOf, PassesTokens, first_line, first_of}

pub HasNoLf-tail : (b : ℕ) (bs : List ℕ) → HasNoLf (b ∷ bs) → HasNoLf bs
HasNoLf-tail b bs h = record { at = λ k l. h.at (suc k) (omega arith) }

HasNoLf-cons : (b : ℕ) (bs : List ℕ) → eqb b 10 ≡ false → HasNoLf bs → HasNoLf (b ∷ bs)
HasNoLf-cons b bs first tail = record { at = at } where
  at : (k : ℕ) → k < length (b ∷ bs) → eqb (get_or (b ∷ bs) k 0) 10 ≡ false
  at zero l = first
  at (suc k) l = tail.at k (omega arith)

-- the beginning of a line without an LF has none
HasNoLf-front : (front : List ℕ) (b : ℕ) → HasNoLf (front ++ b ∷ []) → HasNoLf front
HasNoLf-front [] b h = record { at = λ k l. absurd (omega arith) }
HasNoLf-front (x ∷ xs) b h =
    HasNoLf-cons x xs (h.at 0 (omega arith)) (HasNoLf-front xs b (HasNoLf-tail x (xs ++ b ∷ []) h))

-- a line that its first LF ends is the text's first
pub first_line-ended : (line text rest : List ℕ) → HasNoLf line → IsTextOf line text → text ≡ first_line (line ++ 10 ∷ rest)
first_line-ended line text rest h is = elim is [
  | inl cr ↦
      let front = HasNoLf-front text 13 (subst HasNoLf cr h) in
      let whole : line ++ 10 ∷ rest ≡ text ++ 13 ∷ 10 ∷ rest = ap (λ l. l ++ 10 ∷ rest) cr ∙ append_assoc text (13 ∷ []) (10 ∷ rest) in
      sym (ap first_line whole ∙ ap first_of (lines_of-crlf text rest front))
  | inr plain ↦
      sym (ap (λ l. first_line (l ++ 10 ∷ rest)) plain.0 ∙ ap first_of (lines_of-lf text rest (subst HasNoLf plain.0 h) plain.1))
]

-- the bytes that a reader gave before the first LF, as a text, are its first line
pub first_line-read : (a b c : Option (List ℕ)) (line text : List ℕ) (byte : ℕ) → Consumes a b line → Consumes b c (byte ∷ []) → byte ≡ 10
    → HasNoLf line → IsTextOf line text → IfSome a (λ given. text ≡ first_line given)
first_line-read None b c line text byte before next lf h is = tt
first_line-read (Some given) None c line text byte before next lf h is = absurd before
first_line-read (Some given) (Some left) None line text byte before next lf h is = absurd next
first_line-read (Some given) (Some left) (Some rest) line text byte before next lf h is =
    let whole : given ≡ line ++ 10 ∷ rest = before ∙ ap (λ l. line ++ l) next ∙ ap (λ (b : ℕ). line ++ b ∷ rest) lf in
    first_line-ended line text rest h is ∙ ap first_line (sym whole)

-- and of one that is at its end
pub first_line-last : (a b c : Option (List ℕ)) (line : List ℕ) → Consumes a b line → Consumes b c [] × IsAtEnd c → HasNoLf line
    → IfSome a (λ given. line ≡ first_line given)
first_line-last None b c line before end h = tt
first_line-last (Some given) None c line before end h = absurd before
first_line-last (Some given) (Some left) None line before end h = absurd end.0
first_line-last (Some given) (Some left) (Some rest) line before end h =
    let whole : given ≡ line = before ∙ ap (λ l. line ++ l) (end.0 ∙ end.1) ∙ append-nil line in
    sym (ap first_line whole ∙ ap first_of (lines_of-last line h))

-- a byte in front makes the first line longer by one
length-onto : (b : ℕ) (lines : List (List ℕ)) → length (first_of (onto_first b lines)) ≡ suc (length (first_of lines))
length-onto b [] = refl
length-onto b (line ∷ lines) = refl

-- two bytes that are no LF: the first of them belongs to the first line, as the second is no LF
-- after a CR
pub lines_of-onto : (b c : ℕ) (text : List ℕ) → eqb b 10 ≡ false → eqb c 10 ≡ false → lines_of (b ∷ c ∷ text) ≡ onto_first b (lines_of (c ∷ text))
lines_of-onto b c text first next = grind (arith, common_steps, first, next)

-- bytes without an LF are of the first line, but for a CR that is the last of them
length-first_line : (line rest : List ℕ) → HasNoLf line → length line ≤ suc (length (first_line (line ++ rest)))
length-first_line [] rest h = omega arith
length-first_line (b ∷ []) rest h = omega arith
length-first_line (b ∷ c ∷ bs) rest h =
    let tail = length-first_line (c ∷ bs) rest (HasNoLf-tail b (c ∷ bs) h) in
    let onto = lines_of-onto b c (bs ++ rest) (h.at 0 (omega arith)) (h.at 1 (omega arith)) in
    let longer = ap (λ lines. length (first_of lines)) onto ∙ length-onto b (lines_of (c ∷ (bs ++ rest))) in
    omega arith

-- so a text that begins with 130 of them has a line that passes tokens
pub PassesTokens-read : (a b : Option (List ℕ)) (line : List ℕ) → Consumes a b line → HasNoLf line → 130 ≤ length line → IfSome a PassesTokens
PassesTokens-read None b line read h size = tt
PassesTokens-read (Some given) None line read h size = absurd read
PassesTokens-read (Some given) (Some rest) line read h size =
    let long = length-first_line line rest h in
    let same = ap (λ text. length (first_line text)) read in
    omega arith
