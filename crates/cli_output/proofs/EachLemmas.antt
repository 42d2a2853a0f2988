-- Lines written one after another, one for each item.
use Rattle.std.proofs.Common.{◌≡◌, ℕ, ◌+◌, ◌<◌, List, [], ◌∷◌, ◌++◌, length, drop, get_or, Option, sym, ap, subst, ◌∙◌, append_assoc}
use Rattle.std.specs.List.{flat_map}
use Rattle.std.specs.Io.KnownBytes.{Appends}
use Rattle.std.proofs.KnownBytes.{Appends-nil, Appends-trans}
use Rattle.std.proofs.lemmas.List.{append-nil, drop_more}
use Rattle.base.specs.Output.{AppendsBeginning}
use Rattle.base.proofs.OutputLemmas.{AppendsBeginning-after, AppendsBeginning-before}

-- what was written, and the lines of the items that are left, are the lines of all
pub record Lined {X : Type 0} (line : X → List ℕ) (all left : List X) (old new : Option (List ℕ)) : Type 0 where
  pub out : List ℕ
  pub written : Appends old new out
  pub whole : out ++ flat_map line left ≡ flat_map line all

pub Lined-begins : {X : Type 0} (line : X → List ℕ) (all left : List X) (a : Option (List ℕ)) → left ≡ all → Lined line all left a a
Lined-begins line all left a e = record { out = []; written = Appends-nil a; whole = ap (flat_map line) e }

-- the line of the next item, and those of the items after it
next_line : {X : Type 0} (line : X → List ℕ) (out : List ℕ) (x : X) (left rest : List X) → left ≡ x ∷ rest
    → (out ++ line x) ++ flat_map line rest ≡ out ++ flat_map line left
next_line line out x left rest steps = append_assoc out (line x) (flat_map line rest) ∙ ap (λ xs. out ++ flat_map line xs) (sym steps)

pub Lined-next : {X : Type 0} (line : X → List ℕ) (all left rest : List X) (x : X) (a b c : Option (List ℕ)) → Lined line all left a b → left ≡ x ∷ rest
    → Appends b c (line x) → Lined line all rest a c
Lined-next line all left rest x a b c h steps more = record {
  out = h.out ++ line x;
  written = Appends-trans a b c h.out (line x) h.written more;
  whole = next_line line h.out x left rest steps ∙ h.whole;
}

-- the write of a line stopped
pub Lined-stops : {X : Type 0} (line : X → List ℕ) (all left rest : List X) (x : X) (a b c : Option (List ℕ)) → Lined line all left a b → left ≡ x ∷ rest
    → AppendsBeginning b c (line x) → AppendsBeginning a c (flat_map line all)
Lined-stops line all left rest x a b c h steps more =
    let upto = AppendsBeginning-after a b c h.out (line x) h.written more in
    subst (AppendsBeginning a c) (next_line line h.out x left rest steps ∙ h.whole) (AppendsBeginning-before a c (h.out ++ line x) (flat_map line rest) upto)

-- no item is left
pub Lined-ends : {X : Type 0} (line : X → List ℕ) (all left : List X) (a b : Option (List ℕ)) → Lined line all left a b → left ≡ [] → Appends a b (flat_map line all)
Lined-ends line all left a b h none =
    subst (Appends a b) (sym (append-nil h.out) ∙ ap (λ xs. h.out ++ flat_map line xs) (sym none) ∙ h.whole) h.written

-- the items of a slice from one on: it, and those after it
pub drop_next : {X : Type 0} (xs : List X) (i : ℕ) (x : X) → i < length xs → x ≡ get_or xs i x → drop i xs ≡ x ∷ drop (i + 1) xs
drop_next xs i x h e = drop_more xs i x h ∙ ap (λ y. y ∷ drop (i + 1) xs) (sym e)
