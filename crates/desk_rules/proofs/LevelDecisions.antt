-- The level after the write of a component.
use Rattle.std.proofs.Common.{◌≡◌, ℕ, ◌<◌, true, false, max, List, [], ◌∷◌, map, Option, Some, None, refl, sym, ◌∙◌, ap, arith}
use Rattle.std.specs.Prelude.{if◌then◌else◌, bytes_eq, is_some, nat_lt, unwrap_or}
use Rattle.std.proofs.lemmas.Bool.{ltb-true, or_parts}
use Rattle.sbat.specs.declared.component.Component.{Component}
use Rattle.desk_history.specs.Calls.{is_among}
use Rattle.desk_history.specs.Level.{greater_of, greatest, is_above, names}
use Rattle.desk_history.specs.Tables.{Tables, level_row, level_rows}
use Rattle.desk_history.specs.Writes.{set_generation, written}
use Rattle.desk_rules.specs.DecisionSteps.{put_of}
use Rattle.desk_rules.specs.Room.{takes_off}
use Rattle.desk_history.proofs.ListLemmas.{any_once, bytes_eq-refl, same_text}
use Rattle.desk_rules.proofs.StandingLemmas.{named_some}

pub bytes_eq-comm : (a b : List ℕ) → bytes_eq a b ≡ bytes_eq b a
bytes_eq-comm a b =
    elim (bytes_eq a b) as (λ t. bytes_eq a b ≡ t → t ≡ bytes_eq b a) [
      | true ↦ λ e. sym (ap (λ x. bytes_eq b x) (same_text a b e) ∙ bytes_eq-refl b)
      | false ↦ λ e. elim (bytes_eq b a) as (λ t. bytes_eq b a ≡ t → false ≡ t) [
        | true ↦ λ f. sym e ∙ (ap (λ x. bytes_eq a x) (same_text b a f) ∙ bytes_eq-refl a)
        | false ↦ λ f. refl
      ] refl
    ] refl

-- the row of another name doesn't change
pub row_other : (x : Component) (named : List Component) (n : List ℕ) → bytes_eq n x.name ≡ false → level_row (x ∷ named) n ≡ level_row named n
row_other x named n differs =
    ap (λ b. record { name = n; generation = unwrap_or (if b then Some (greater_of x.generation (greatest named n)) else greatest named n) 0 }) differs

rows_other : (x : Component) (named : List Component) (ns : List (List ℕ)) → is_among ns x.name ≡ false → map (level_row (x ∷ named)) ns ≡ map (level_row named) ns
rows_other x named [] h = refl
rows_other x named (n ∷ ns) h =
    let parts : (bytes_eq x.name n ≡ false) × (is_among ns x.name ≡ false) = or_parts (bytes_eq x.name n) (is_among ns x.name) h in
    ap (λ row. row ∷ map (level_row (x ∷ named)) ns) (row_other x named n (bytes_eq-comm n x.name ∙ parts.0)) ∙ ap (λ rows. level_row named n ∷ rows) (rows_other x named ns parts.1)

-- a new name
rows_new : (x : Component) (named : List Component) → greatest named x.name ≡ None → level_rows (x ∷ named) ≡ x ∷ level_rows named
rows_new x named none =
    let fresh : is_among (map (λ y. y.name) named) x.name ≡ false = named_some named x.name ∙ ap is_some none in
    let absent : is_among (names named) x.name ≡ false = any_once x.name (map (λ y. y.name) named) ∙ fresh in
    ap (λ b. map (level_row (x ∷ named)) (if b then names named else x.name ∷ names named)) fresh
    ∙ (ap (λ b. record { name = x.name; generation = unwrap_or (if b then Some (greater_of x.generation (greatest named x.name)) else greatest named x.name) 0 } ∷ map (level_row (x ∷ named)) (names named)) (bytes_eq-refl x.name)
    ∙ (ap (λ o. record { name = x.name; generation = greater_of x.generation o } ∷ map (level_row (x ∷ named)) (names named)) none
    ∙ ap (λ rows. x ∷ rows) (rows_other x named (names named) absent)))

max_above : (g n : ℕ) → nat_lt g n ≡ true → max n g ≡ n
max_above g n h = let lt : g < n = ltb-true g n h in omega arith

row_above : (x : Component) (named : List Component) (g : ℕ) → greatest named x.name ≡ Some g → nat_lt g x.generation ≡ true → (n : List ℕ) → level_row (x ∷ named) n ≡ set_generation x (level_row named n)
row_above x named g there above n =
    elim (bytes_eq x.name n) as (λ b. bytes_eq x.name n ≡ b → level_row (x ∷ named) n ≡ (if b then record (level_row named n) { generation = x.generation } else level_row named n)) [
      | true ↦ λ e.
          ap (λ b. record { name = n; generation = unwrap_or (if b then Some (greater_of x.generation (greatest named n)) else greatest named n) 0 }) (bytes_eq-comm n x.name ∙ e)
          ∙ (ap (λ k. record { name = n; generation = greater_of x.generation (greatest named k) }) (sym (same_text x.name n e))
          ∙ (ap (λ o. record { name = n; generation = greater_of x.generation o }) there
          ∙ ap (λ m. record { name = n; generation = m }) (max_above g x.generation above)))
      | false ↦ λ e. row_other x named n (bytes_eq-comm n x.name ∙ e)
    ] refl

map_alike : {A B C : Type 0} (f : A → C) (g : A → B) (h : B → C) → ((a : A) → f a ≡ h (g a)) → (xs : List A) → map f xs ≡ map h (map g xs)
map_alike f g h each [] = refl
map_alike f g h each (x ∷ xs) = ap (λ y. y ∷ map f xs) (each x) ∙ ap (λ ys. h (g x) ∷ ys) (map_alike f g h each xs)

-- a greater generation of a name that is there
rows_raised : (x : Component) (named : List Component) (g : ℕ) → greatest named x.name ≡ Some g → nat_lt g x.generation ≡ true → level_rows (x ∷ named) ≡ map (set_generation x) (level_rows named)
rows_raised x named g there above =
    let known : is_among (map (λ y. y.name) named) x.name ≡ true = named_some named x.name ∙ ap is_some there in
    ap (λ b. map (level_row (x ∷ named)) (if b then names named else x.name ∷ names named)) known
    ∙ map_alike (level_row (x ∷ named)) (level_row named) (set_generation x) (row_above x named g there above) (names named)

-- the write of a component that is above
pub rows_put : (x : Component) (named : List Component) (present : Option ℕ) → greatest named x.name ≡ present → is_above x.generation present ≡ true → (t : Tables) → t.components ≡ level_rows named →
    written (put_of present x) t ≡ record t { components = level_rows (x ∷ named) }
rows_put x named None there above t rows = ap (λ rs. record t { components = x ∷ rs }) rows ∙ ap (λ rs. record t { components = rs }) (sym (rows_new x named there))
rows_put x named (Some g) there above t rows = ap (λ rs. record t { components = map (set_generation x) rs }) rows ∙ ap (λ rs. record t { components = rs }) (sym (rows_raised x named g there above))

-- the write of a component takes nothing off
pub puts_none : (present : Option ℕ) (x : Component) → takes_off (put_of present x) ≡ false
puts_none None x = refl
puts_none (Some g) x = refl
