-- Lines, read piece by piece.
use Rattle.std.proofs.Common.{◌≡◌, ◌≢◌, ◌⊎◌, inl, inr, ℕ, ◌+◌, ◌-◌, ◌<◌, true, false, List, [], ◌∷◌, ◌++◌, All, length, take, get_or, Option, None, Some, IfSome, OnSome, refl, sym, ap, subst, ◌∙◌, arith, append_assoc, take_all, length-append, Result, Ok, Err}
use Rattle.std.specs.Prelude.{codes}
use Rattle.std.specs.Io.{StopsAt}
use Rattle.std.specs.Io.KnownBytes.{Consumes, IsAtEnd}
use Rattle.std.proofs.KnownBytes.{Consumes-trans}
use Rattle.std.proofs.Transfers.{StopsAt-append}
use Rattle.std.proofs.lemmas.List.{take_more}
use Rattle.std.proofs.lemmas.List.Elements.{All-append}
use Rattle.base.specs.declared.refusal.Refusal.{Refusal}
use Rattle.base.specs.declared.refusal.Refusal.TheVariants as refusals
use Rattle.desk_minutes.specs.Follows.{EndsLine}
use Rattle.store_minutes.specs.Lines.{TakesLine, TakesPiece}

-- bytes whose last is a line break end a line
pub ends_line : (bytes : List ℕ) (n : ℕ) → n ≡ length bytes → 0 < n → get_or bytes (n - 1) 0 ≡ 10 → EndsLine bytes
ends_line bytes n long some last = (
  take (n - 1) bytes,
  sym (take_all (n - 1 + 1) bytes (omega (arith, long, some)))
      ∙ take_more bytes (n - 1) 0 (omega (arith, long, some)) ∙ ap (λ y. take (n - 1) bytes ++ y ∷ []) last,
)

-- ---- a line so far, and the piece that ends it

-- no line is left
pub at_the_end : (first mid last : Option (List ℕ)) (before after : List ℕ) → Consumes first mid before → TakesPiece mid last before after true → length after ≡ 0 → IsAtEnd first
at_the_end None mid last before after given p none = tt
at_the_end (Some xs) None last before after given p none = absurd given
at_the_end (Some xs) (Some ys) last before after given p none = by (p.ends refl)
  where
    sizes : (length before ≡ 0) × (length p.piece ≡ 0)
    sizes = let long = ap length p.is ∙ length-append before p.piece in (omega (arith, long, none), omega (arith, long, none))

    rest : (zs : Option (List ℕ)) → Consumes (Some ys) zs p.piece → IsAtEnd zs → xs ≡ []
    rest None taken end = absurd taken
    rest (Some zs) taken end = given ∙ ap (λ l. before ++ l) (taken ∙ ap (λ l. p.piece ++ l) end) ∙ empty before p.piece sizes.0 sizes.1
      where
        empty : (us ws : List ℕ) → length us ≡ 0 → length ws ≡ 0 → us ++ (ws ++ []) ≡ []
        empty [] [] h k = refl
        empty (u ∷ us) ws h k = absurd (omega (arith, h))
        empty [] (w ∷ ws) h k = absurd (omega (arith, k))

    by : EndsLine p.piece ⊎ ((p.piece ≡ []) × IsAtEnd last) → xs ≡ []
    by (inl ends) = absurd (let long = ap length ends.1 ∙ length-append ends.0 (codes "\n") in omega (arith, long, sizes.1))
    by (inr end) = rest last p.taken end.1

-- the line
pub line_taken : (first mid last : Option (List ℕ)) (before after : List ℕ) → Consumes first mid before → All (λ byte. byte ≢ 10) before → TakesPiece mid last before after true
    → 0 < length after → TakesLine first last after
line_taken first mid last before after given unbroken p some = record {
  one = (some, subst (λ l. StopsAt l 10) (sym p.is) (StopsAt-append before p.piece 10 unbroken p.stops));
  taken = subst (Consumes first last) (sym p.is) (Consumes-trans first mid last before p.piece given p.taken);
  ends = by first mid last given (p.ends refl);
}
  where
    joined : EndsLine p.piece → EndsLine after
    joined ends = (before ++ ends.0, p.is ∙ ap (λ l. before ++ l) ends.1 ∙ sym (append_assoc before ends.0 (codes "\n")))

    by : (a b c : Option (List ℕ)) → Consumes a b before → EndsLine p.piece ⊎ ((p.piece ≡ []) × OnSome b (IsAtEnd c)) → IfSome a (λ _. IfSome c (λ rest. EndsLine after ⊎ (rest ≡ [])))
    by None b c given ends = tt
    by (Some x) None c given ends = absurd given
    by (Some x) (Some y) None given ends = tt
    by (Some x) (Some y) (Some z) given (inl ends) = inl (joined ends)
    by (Some x) (Some y) (Some z) given (inr end) = inr end.1

-- ---- a line so far, and one more piece

pub pieces_taken : (first mid last : Option (List ℕ)) (before after : List ℕ) → Consumes first mid before → TakesPiece mid last before after false → Consumes first last after
pieces_taken first mid last before after given p = subst (Consumes first last) (sym p.is) (Consumes-trans first mid last before p.piece given p.taken)

pub unbroken : (mid last : Option (List ℕ)) (before after : List ℕ) → All (λ byte. byte ≢ 10) before → TakesPiece mid last before after false → All (λ byte. byte ≢ 10) after
unbroken mid last before after all p = subst (All (λ byte. byte ≢ 10)) (sym p.is) (All-append (λ byte. byte ≢ 10) before p.piece all (p.goes_on refl).1)

pub longer : (mid last : Option (List ℕ)) (before after : List ℕ) → TakesPiece mid last before after false → length before < length after
longer mid last before after p = let long = ap length p.is ∙ length-append before p.piece in let some = (p.goes_on refl).0 in omega (arith, long, some)

-- an Ok is no failed read
pub no_refusal : {A : Type 0} (a : A) → ◌≢◌ {A = Result A Refusal} (Ok a) (Err refusals.Read)
no_refusal a e = cc
