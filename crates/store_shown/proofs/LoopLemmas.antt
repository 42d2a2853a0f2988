-- Loops over rows, one row more.
use Rattle.std.proofs.Common.{◌≡◌, ℕ, ◌+◌, ◌<◌, add-one, List, [], ◌∷◌, ◌++◌, map, take, length, get_or, refl, sym, ap, ◌∙◌, arith}
use Rattle.std.proofs.Math.Seq.{take-suc}
use Rattle.std.proofs.lemmas.List.{map-append}
use Rattle.desk_history.specs.Tables.{placed_from}
use Rattle.desk_history.specs.declared.rows.RequestComponentRow.{RequestComponentRow}
use Rattle.sbat.specs.declared.component.Component.{Component}

pub map_more : {X Y : Type 0} (f : X → Y) (rows : List X) (i : ℕ) (row : X) → i < length rows → row ≡ get_or rows i row
    → map f (take (i + 1) rows) ≡ map f (take i rows) ++ f row ∷ []
map_more f rows i row low is =
    ap (λ k. map f (take k rows)) (add-one i) ∙ ap (map f) (take-suc rows i row low ∙ ap (λ r. take i rows ++ r ∷ []) (sym is)) ∙ map-append f (take i rows) (row ∷ [])

pub nothing_left : {X : Type 0} (l : List X) → length l ≡ 0 → l ≡ []
nothing_left [] h = refl
nothing_left (x ∷ xs) h = absurd (omega arith)

-- the row of a component of the request k, at this place
abbrev pub placed : ℕ → ℕ → Component → RequestComponentRow
placed k place x = record { request = k; place = place; name = x.name; generation = x.generation }

pub placed_more : (k place : ℕ) (xs : List Component) (x : Component) → placed_from k place (xs ++ x ∷ []) ≡ placed_from k place xs ++ placed k (place + length xs) x ∷ []
placed_more k place [] x = ap (λ n. placed k n x ∷ []) (let same : place ≡ place + 0 = omega arith in same)
placed_more k place (y ∷ ys) x =
    ap (λ l. placed k place y ∷ l) (placed_more k (place + 1) ys x ∙ ap (λ n. placed_from k (place + 1) ys ++ placed k n x ∷ []) (let same : place + 1 + length ys ≡ place + length (y ∷ ys) = omega arith in same))
