-- A line written whole or in part.
use Rattle.std.proofs.Common.{◌≡◌, ℕ, List, ◌++◌, length, codes, decimal, ap, ◌∙◌, Option, None, Some, Result, Ok, Err, OnErr, OnOk, sym, subst, arith}
use Rattle.std.specs.Io.KnownBytes.{Appends}
use Rattle.std.proofs.KnownBytes.{Appends-trans}
use Rattle.std.proofs.lemmas.List.{take_all}
use Rattle.sbat.specs.declared.component.Component.{Component}
use Rattle.base.specs.Output.{AppendsBeginning}
use Rattle.siglist.specs.Kinds.{kind_of}
use Rattle.siglist.specs.SignatureLists.{Placed}
use Rattle.siglist.specs.declared.kind.Kind.{Kind}
use Rattle.cli_output.specs.Listings.{kind_word, list_line, list_words}
use Rattle.cli_output.specs.VerdictLines.{below_words}

-- all of it is a beginning too
pub AppendsBeginning-either : {T E : Type 0} (r : Result T E) (a b : Option (List ℕ)) (xs : List ℕ)
    → OnOk r (Appends a b xs) → OnErr r (AppendsBeginning a b xs) → AppendsBeginning a b xs
AppendsBeginning-either (Ok x) a b xs h k =
    record { count = length xs; written = subst (Appends a b) (sym (take_all (length xs) xs (omega arith))) h }
AppendsBeginning-either (Err e) a b xs h k = k

-- a line after another that was written whole
pub Appends-in_turn : {S T E F : Type 0} (first : Result S E) (done : S) (second : Result T F) (a b c : Option (List ℕ)) (xs ys : List ℕ)
    → first ≡ Ok done → OnOk first (Appends a b xs) → OnOk second (Appends b c ys) → OnOk second (Appends a c (xs ++ ys))
Appends-in_turn first done (Ok x) a b c xs ys is one two = Appends-trans a b c xs ys (subst (λ r. OnOk r (Appends a b xs)) is one) two
Appends-in_turn first done (Err e) a b c xs ys is one two = tt

-- equal bytes are appended alike
pub Appends-same : (a b : Option (List ℕ)) (xs ys : List ℕ) → xs ≡ ys → Appends a b xs → Appends a b ys
Appends-same a b xs ys e h = subst (Appends a b) e h

pub AppendsBeginning-same : (a b : Option (List ℕ)) (xs ys : List ℕ) → xs ≡ ys → AppendsBeginning a b xs → AppendsBeginning a b ys
AppendsBeginning-same a b xs ys e h = subst (AppendsBeginning a b) e h

pub OnOk-same : {T E : Type 0} (r : Result T E) (a b : Option (List ℕ)) (xs ys : List ℕ) → xs ≡ ys → OnOk r (Appends a b xs) → OnOk r (Appends a b ys)
OnOk-same r a b xs ys e h = subst (λ zs. OnOk r (Appends a b zs)) e h

pub OnErr-same : {T E : Type 0} (r : Result T E) (a b : Option (List ℕ)) (xs ys : List ℕ) → xs ≡ ys
    → OnErr r (AppendsBeginning a b xs) → OnErr r (AppendsBeginning a b ys)
OnErr-same r a b xs ys e h = subst (λ zs. OnErr r (AppendsBeginning a b zs)) e h

-- the line of a place that has no component
pub below_none : (found : Option Component) (needs : ℕ) (n : List ℕ) → found ≡ None → n ≡ decimal needs
    → codes "refused sbat " ++ n ++ codes "\n" ≡ below_words found needs ++ codes "\n"
below_none found needs n none e =
    ap (λ t. codes "refused sbat " ++ t ++ codes "\n") e ∙ ap (λ o. below_words o needs ++ codes "\n") (sym none)

-- the line of a component
pub below_some : (found : Option Component) (component : Component) (needs : ℕ) (t h n : List ℕ) → found ≡ Some component
    → t ≡ component.name → h ≡ decimal component.generation → n ≡ decimal needs
    → codes "refused sbat " ++ t ++ codes " " ++ h ++ codes " " ++ n ++ codes "\n" ≡ below_words found needs ++ codes "\n"
below_some found component needs t h n some named held e =
    ap (λ l. codes "refused sbat " ++ l ++ codes " " ++ h ++ codes " " ++ n ++ codes "\n") named
    ∙ ap (λ l. codes "refused sbat " ++ component.name ++ codes " " ++ l ++ codes " " ++ n ++ codes "\n") held
    ∙ ap (λ l. codes "refused sbat " ++ component.name ++ codes " " ++ decimal component.generation ++ codes " " ++ l ++ codes "\n") e
    ∙ ap (λ o. below_words o needs ++ codes "\n") (sym some)

-- the line of a list of this kind
pub list_line_is : (l : Placed) (offset count : ℕ) (kind : Kind) → offset ≡ l.offset → count ≡ length l.list.entries → kind ≡ kind_of l.list.kind
    → list_words offset (kind_word kind) count ≡ list_line l
list_line_is l offset count kind at many is =
    ap (λ o. list_words o (kind_word kind) count) at
    ∙ ap (λ n. list_words l.offset (kind_word kind) n) many
    ∙ ap (λ k. list_words l.offset (kind_word k) (length l.list.entries)) is
