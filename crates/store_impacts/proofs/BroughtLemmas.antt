-- The images that the calls of a history bring, the newest first.
use Rattle.std.proofs.Common.{◌≡◌, ℕ, ◌+◌, Bool, true, false, cond, List, [], ◌∷◌, ◌++◌, map, filter, length, Option, Some, None, option_map, refl, sym, ap, ap₂, ◌∙◌, add-one, append-nil}
use Rattle.std.specs.Prelude.{if◌then◌else◌, reverse}
use Rattle.std.specs.List.{cons_option}
use Rattle.std.proofs.lemmas.List.{map-append}
use Rattle.std.proofs.lemmas.List.Elements.{filter-append}
use mathlib.Core.List.{reverse-cons}
use Rattle.desk_types.specs.declared.command.Command.{Command}
use Rattle.desk_types.specs.declared.command.Command.TheVariants as command
use Rattle.desk_history.specs.Calls.{History, Item}
use Rattle.desk_history.specs.Images.{Image, image_of, images}
use Rattle.desk_history.specs.Requests.{requests}
use Rattle.desk_history.specs.Verdicts.{Standing}
use Rattle.desk_history.specs.declared.impact.WhichFile.TheVariants as files
use Rattle.store_impacts.specs.Passing.{passed_by}
use Rattle.store_impacts.specs.Steps.{seen_of, with_image}
use Rattle.store_impacts.specs.Touching.{Brought, brought, brought_by, is_touched, kept, touched}

-- ---- they are the images

map_cons : {X Y : Type 0} (f : X → Y) (o : Option X) (xs : List X) → map f (cons_option o xs) ≡ cons_option (option_map f o) (map f xs)
map_cons f None xs = refl
map_cons f (Some x) xs = refl

image_again : (n : ℕ) (o : Option Image) → option_map (λ (b : Brought). b.image) (option_map (λ m. record { call = n; image = m }) o) ≡ o
image_again n None = refl
image_again n (Some m) = refl

pub brings_images : (cs : History) → map (λ b. b.image) (brought cs) ≡ images cs
brings_images [] = refl
brings_images (i ∷ cs) =
    map_cons (λ (b : Brought). b.image) (brought_by cs i) (brought cs)
    ∙ ap₂ cons_option (image_again (length cs + 1) (image_of cs i.call.command)) (brings_images cs)

-- ---- one image more

-- the item with another command
abbrev giving : Item → Command → Item
giving old given = record old { call = record old.call { command = given } }

module _ (entries : Standing) where
  one_more : (b : Brought) (bs : List Brought)
      → map kept (filter (is_touched entries) (reverse (b ∷ bs)))
      ≡ (if is_touched entries b then map kept (filter (is_touched entries) (reverse bs)) ++ kept b ∷ [] else map kept (filter (is_touched entries) (reverse bs)))
  one_more b bs =
      let p = is_touched entries in
      let before = map kept (filter p (reverse bs)) in
      ap (λ l. map kept (filter p l)) (reverse-cons b bs) ∙ ap (map kept) (filter-append p (reverse bs) (b ∷ [])) ∙ map-append kept (filter p (reverse bs)) (filter p (b ∷ []))
      ∙ elim (p b) as (λ t. before ++ map kept (cond t (b ∷ []) []) ≡ (if t then before ++ kept b ∷ [] else before)) [ true ↦ refl | false ↦ append-nil before ]

  sees_given : (cs : History) (old : Item) (given : Command) → with_image entries (length cs + 1) (seen_of entries cs) (passed_by given) ≡ seen_of entries (giving old given ∷ cs)
  sees_given cs old (command.Submit s) =
      let b : Brought = record { call = length cs + 1; image = record { request = length (requests cs) + 1; file = files.Submitted; facts = s.facts } } in
      ap₂ (λ n l. record { requests = n; kept = l }) (add-one (length (requests cs))) (sym (one_more b (brought cs)))
  sees_given cs old (command.Return h) =
      let b : Brought = record { call = length cs + 1; image = record { request = h.request; file = files.Returned; facts = h.facts } } in
      ap (λ l. record { requests = length (requests cs); kept = l }) (sym (one_more b (brought cs)))
  sees_given cs old _ = refl

  -- a pass sees the image of the next call
  pub sees_next : (cs : History) (i : Item) → with_image entries (length cs + 1) (seen_of entries cs) (passed_by i.call.command) ≡ seen_of entries (i ∷ cs)
  sees_next cs i = sees_given cs i i.call.command
