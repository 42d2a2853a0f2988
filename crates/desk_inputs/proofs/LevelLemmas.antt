-- The names of a level, gathered one by one.
use Rattle.std.proofs.Common.{◌≡◌, ℕ, ◌≤◌, List, [], ◌∷◌, ◌++◌, length, map, refl, sym, ap, subst, ◌∙◌, append_assoc, append-nil, arith}
use Rattle.std.specs.FinMap.{entries, len, len-entries}
use Rattle.std.proofs.lemmas.List.{length-map}
use Rattle.sbat.specs.Levels.{IsLevel, Stamped}
use Rattle.sbat.proofs.ReadBackLemmas.{entries_right}
use Rattle.sbat.proofs.TextLemmas.{AreRight}
use Rattle.sbat.specs.declared.component.Component.{Component}
use Rattle.desk_types.specs.Forms.{most_imported}
use Rattle.desk_inputs.specs.imports.FromLevel.{level_items, name_item}
use Rattle.desk_inputs.specs.imports.Gathering.{Gathering, Gathers}
use Rattle.desk_inputs.specs.declared.imports.item.Item.{Item}
use Rattle.desk_inputs.specs.declared.imports.item.Item.TheVariants as item

-- the names so far, and those that are left
pub record Naming (all : List Item) (left : List (List ℕ × ℕ)) (now : Gathering) : Type 0 where
  pub done : List Item
  pub whole : done ++ map name_item left ≡ all
  pub right : AreRight left
  pub gathers : Gathers done now

pub Naming-begins : (level : Stamped) (left : List (List ℕ × ℕ)) (now : Gathering) → IsLevel level → left ≡ entries level.generations → Gathers [] now → Naming (level_items level) left now
Naming-begins level left now h is gathers = rw is (record { done = []; whole = refl; right = entries_right level h; gathers = gathers })

pub Naming-next : (all : List Item) (left es : List (List ℕ × ℕ)) (e : List ℕ × ℕ) (named : Component) (now new : Gathering) → Naming all left now → left ≡ e ∷ es
    → named ≡ record { name = e.0; generation = e.1 } → ((items : List Item) → Gathers items now → Gathers (items ++ item.Component named ∷ []) new) → Naming all es new
Naming-next all left es e named now new h is same more = record {
  done = h.done ++ name_item e ∷ [];
  whole = append_assoc h.done (name_item e ∷ []) (map name_item es) ∙ sym (ap (λ xs. h.done ++ map name_item xs) is) ∙ h.whole;
  right = (subst AreRight is h.right).1;
  gathers = subst (λ n. Gathers (h.done ++ item.Component n ∷ []) new) same (more h.done h.gathers);
}

-- no name is left
pub Naming-ends : (all : List Item) (left : List (List ℕ × ℕ)) (now : Gathering) → Naming all left now → left ≡ [] → Gathers all now
Naming-ends all left now h is =
    let whole = sym (append-nil h.done) ∙ sym (ap (λ xs. h.done ++ map name_item xs) is) ∙ h.whole in
    subst (λ xs. Gathers xs now) whole h.gathers

-- a level within its limit is within that of an import
pub few_names : (level : Stamped) → len level.generations ≤ most_imported → length (level_items level) ≤ most_imported
few_names level few = omega (arith, length-map (entries level.generations) name_item, len-entries level.generations, few)
