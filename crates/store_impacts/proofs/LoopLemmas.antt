-- Images one after another, as those of an impact.
use Rattle.std.proofs.Common.{◌≡◌, ◌≢◌, ℕ, ◌+◌, ◌<◌, add-one, Bool, true, false, cond, List, [], ◌∷◌, ◌++◌, map, filter, take, length, get_or, Option, Some, None, option_map, refl, sym, ap, ap₂, subst, ◌∙◌, arith}
use Rattle.std.specs.Prelude.{filter_map, if◌then◌else◌, is_some, reverse}
use Rattle.std.specs.List.{AllByRecursion, Contains, cons_option}
use Rattle.std.proofs.Math.Seq.{take-suc}
use Rattle.std.proofs.lemmas.List.Elements.{All-contains_itself, filter_map-append, recursion_from_All}
use Rattle.std.proofs.lemmas.List.Sorted.{IsPermutation-reverse}
use Rattle.sqlite_trees.proofs.ListLemmas.{all-permutation}
use mathlib.Core.List.{reverse-cons}
use Rattle.std.proofs.lemmas.List.{map-append}
use Rattle.desk_history.specs.Calls.{History}
use Rattle.desk_history.specs.Images.{Image, images}
use Rattle.desk_history.specs.Impact.{NewlyBarred, first_rule, impact_of, newly_barred_by, standing_of, would_force}
use Rattle.desk_history.specs.ImpactLaws.{EntriesTell}
use Rattle.desk_history.specs.ImpactShown.{shown_barred}
use Rattle.desk_history.specs.Verdicts.{Standing, bars, is_barred}
use Rattle.desk_history.specs.declared.impact.BarredImage.{BarredImage}
use Rattle.desk_history.specs.declared.impact.Rule.{Rule}
use Rattle.desk_history.proofs.ImpactLemmas.{each_rule_bars}
use Rattle.store_reads.specs.Reads.{listed}
use Rattle.desk_rules.specs.Entries.{StandsAs}
use Rattle.store_impacts.specs.Barring.{AreBarred, IsBarred, barred_by, rule_by}
use Rattle.store_impacts.specs.Touching.{Brought, brought, is_touched, kept, touched}
use Rattle.store_impacts.specs.declared.touched_image.TouchedImage.{TouchedImage}
use Rattle.store_impacts.proofs.BroughtLemmas.{brings_images}

-- a list that isn't empty has an item
pub has_items : {X : Type 0} (xs : List X) → xs ≢ [] → 0 < length xs
has_items [] some = absurd (some refl)
has_items (x ∷ xs) some = omega arith

-- ---- one image more

record Parted (P : Brought → Type 0) (bs : List Brought) (xs : List TouchedImage) (x : TouchedImage) : Type 0 where
  front : List Brought
  last : Brought
  is : bs ≡ front ++ last ∷ []
  all : AllByRecursion P front
  own : P last
  front_is : map kept front ≡ xs
  last_is : kept last ≡ x

parted : (P : Brought → Type 0) (bs : List Brought) (xs : List TouchedImage) (x : TouchedImage) → AllByRecursion P bs → map kept bs ≡ xs ++ x ∷ [] → Parted P bs xs x
parted P [] [] x all e = absurd cc
parted P [] (y ∷ xs) x all e = absurd cc
parted P (b ∷ []) [] x all e = record { front = []; last = b; is = refl; all = tt; own = all.0; front_is = refl; last_is = (let same : kept b ≡ x = cc in same) }
parted P (b ∷ c ∷ bs) [] x all e = absurd cc
parted P (b ∷ bs) (y ∷ xs) x all e =
    let one : kept b ≡ y = cc in
    let more : map kept bs ≡ xs ++ x ∷ [] = cc in
    let it = parted P bs xs x all.1 more in
    record {
      front = b ∷ it.front;
      last = it.last;
      is = ap (λ l. b ∷ l) it.is;
      all = (all.0, it.all);
      own = it.own;
      front_is = ap₂ ◌∷◌ one it.front_is;
      last_is = it.last_is;
    }

onto_none : {X : Type 0} (o : Option X) → cons_option o [] ≡ listed o
onto_none None = refl
onto_none (Some x) = refl

module _ (entries : Standing) (cs : History) where
  abbrev shown_of : Brought → Option BarredImage
  shown_of b = barred_by entries cs b.image

  pub bars_more : (images : List TouchedImage) (i : ℕ) (image : TouchedImage) (found : List BarredImage) (one : Option BarredImage) → i < length images → image ≡ get_or images i image
      → AreBarred entries (take i images) found cs → IsBarred entries image one cs → AreBarred entries (take (i + 1) images) (found ++ listed one) cs
  bars_more images i image found one low at before is bs all e =
      let more : take (i + 1) images ≡ take i images ++ image ∷ [] = ap (λ n. take n images) (add-one i) ∙ take-suc images i image low ∙ ap (λ y. take i images ++ y ∷ []) (sym at) in
      let it = parted (Contains (brought cs)) bs (take i images) image all (e ∙ more) in
      ap₂ ◌++◌ (before it.front it.all it.front_is) (sym (onto_none one) ∙ ap (λ o. cons_option o []) (is it.last it.own it.last_is))
      ∙ sym (filter_map-append shown_of it.front (it.last ∷ [])) ∙ ap (filter_map shown_of) (sym it.is)

  pub bars_none : AreBarred entries [] [] cs
  bars_none [] all e = refl
  bars_none (b ∷ bs) all e = absurd cc

-- ---- all images

map-reverse : {X Y : Type 0} (f : X → Y) (xs : List X) → map f (reverse xs) ≡ reverse (map f xs)
map-reverse f [] = refl
map-reverse f (x ∷ xs) =
    ap (map f) (reverse-cons x xs) ∙ map-append f (reverse xs) (x ∷ []) ∙ ap (λ l. l ++ f x ∷ []) (map-reverse f xs) ∙ sym (reverse-cons (f x) (map f xs))

kept_map : {X Y : Type 0} (f g : X → Option Y) → ((x : X) → f x ≡ g x) → (xs : List X) → filter_map f xs ≡ filter_map g xs
kept_map f g same [] = refl
kept_map f g same (x ∷ xs) = ap₂ cons_option (same x) (kept_map f g same xs)

after_map : {X Y Z : Type 0} (g : X → Y) (f : Y → Option Z) (xs : List X) → filter_map f (map g xs) ≡ filter_map (λ x. f (g x)) xs
after_map g f [] = refl
after_map g f (x ∷ xs) = ap (cons_option (f (g x))) (after_map g f xs)

map_some : {X Y : Type 0} (f : X → Y) (o : Option X) (xs : List X) → map f (cons_option o xs) ≡ cons_option (option_map f o) (map f xs)
map_some f None xs = refl
map_some f (Some x) xs = refl

before_map : {X Y Z : Type 0} (f : Y → Z) (g : X → Option Y) (xs : List X) → map f (filter_map g xs) ≡ filter_map (λ x. option_map f (g x)) xs
before_map f g [] = refl
before_map f g (x ∷ xs) = map_some f (g x) (filter_map g xs) ∙ ap (cons_option (option_map f (g x))) (before_map f g xs)

-- items that give nothing may be left out
one_left : {X Y : Type 0} (p : X → Bool) (f : X → Option Y) (x : X) (xs : List X) → (p x ≡ false → f x ≡ None) → filter_map f (filter p xs) ≡ filter_map f xs → (b : Bool) → p x ≡ b
    → filter_map f (cond b (x ∷ filter p xs) (filter p xs)) ≡ filter_map f (x ∷ xs)
one_left p f x xs none more true h = ap (cons_option (f x)) more
one_left p f x xs none more false h = more ∙ ap (λ o. cons_option o (filter_map f xs)) (sym (none h))

left_out : {X Y : Type 0} (p : X → Bool) (f : X → Option Y) → ((x : X) → p x ≡ false → f x ≡ None) → (xs : List X) → filter_map f (filter p xs) ≡ filter_map f xs
left_out p f none [] = refl
left_out p f none (x ∷ xs) = one_left p f x xs (none x) (left_out p f none xs) (p x) refl

twice_map : {X Y Z : Type 0} (f : Y → Z) (g : X → Y) (o : Option X) → option_map f (option_map g o) ≡ option_map (λ x. f (g x)) o
twice_map f g None = refl
twice_map f g (Some x) = refl

no_rule : (o : Option Rule) → is_some o ≡ false → o ≡ None
no_rule None h = refl
no_rule (Some rule) h = absurd cc

module _ (entries : Standing) (cs : History) where
  abbrev shown : Brought → Option BarredImage
  shown b = barred_by entries cs b.image

  passed_over : (b : Brought) → is_touched entries b ≡ false → shown b ≡ None
  passed_over b h =
      let none : first_rule entries b.image.facts ≡ None = no_rule (first_rule entries b.image.facts) (each_rule_bars entries b.image.facts ∙ h) in
      elim (is_barred cs b.image.facts) as (λ t. option_map (λ rule. shown_barred (newly_barred_by cs b.image rule)) (if t then None else first_rule entries b.image.facts) ≡ None) [
        | true ↦ refl
        | false ↦ ap (option_map (λ rule. shown_barred (newly_barred_by cs b.image rule))) none
      ]

  one_told : (k : ℕ) → StandsAs entries (standing_of (would_force cs k)) → (m : Image) → barred_by entries cs m
      ≡ option_map shown_barred (option_map (newly_barred_by cs m) (if is_barred cs m.facts then None else first_rule (standing_of (would_force cs k)) m.facts))
  one_told k alike m =
      ap (λ o. option_map (λ rule. shown_barred (newly_barred_by cs m rule)) (if is_barred cs m.facts then None else o)) (alike.rule m.facts)
      ∙ sym (twice_map shown_barred (newly_barred_by cs m) (if is_barred cs m.facts then None else first_rule (standing_of (would_force cs k)) m.facts))

  -- those that the entries bar alone, and that aren't barred, are those of the impact
  pub all_told : EntriesTell → (k : ℕ) → StandsAs entries (standing_of (would_force cs k)) → (found : List BarredImage)
      → found ≡ filter_map shown (filter (is_touched entries) (reverse (brought cs))) → found ≡ map shown_barred (impact_of cs k).bars
  all_told tell k alike found is =
      let own : Image → Option NewlyBarred = λ m. option_map (newly_barred_by cs m) (if is_barred cs m.facts then None else first_rule (standing_of (would_force cs k)) m.facts) in
      let theirs : map (λ (b : Brought). b.image) (reverse (brought cs)) ≡ reverse (images cs) = map-reverse (λ (b : Brought). b.image) (brought cs) ∙ ap reverse (brings_images cs) in
      is ∙ left_out (is_touched entries) shown passed_over (reverse (brought cs))
      ∙ sym (after_map (λ (b : Brought). b.image) (barred_by entries cs) (reverse (brought cs)))
      ∙ ap (filter_map (barred_by entries cs)) theirs
      ∙ kept_map (barred_by entries cs) (λ m. option_map shown_barred (own m)) (one_told k alike) (reverse (images cs))
      ∙ sym (before_map shown_barred own (reverse (images cs))) ∙ ap (map shown_barred) (sym (tell cs k))

-- ---- each of them is one of the history's

kept_all : {X : Type 0} (P : X → Type 0) (p : X → Bool) (xs : List X) → AllByRecursion P xs → AllByRecursion P (filter p xs)
kept_all P p [] all = tt
kept_all P p (x ∷ xs) all =
    elim (p x) as (λ b. AllByRecursion P (cond b (x ∷ filter p xs) (filter p xs))) [ true ↦ (all.0, kept_all P p xs all.1) | false ↦ kept_all P p xs all.1 ]

pub all_brought : (entries : Standing) (cs : History) → AllByRecursion (Contains (brought cs)) (filter (is_touched entries) (reverse (brought cs)))
all_brought entries cs =
    kept_all (Contains (brought cs)) (is_touched entries) (reverse (brought cs))
    (all-permutation (Contains (brought cs)) (brought cs) (reverse (brought cs)) (IsPermutation-reverse (brought cs))
    (recursion_from_All (Contains (brought cs)) (brought cs) (All-contains_itself (brought cs))))
