-- From what a statement does to the contents to what it does to the desk's tables.
use Rattle.std.proofs.Common.{◌≡◌, ℕ, List, ◌∷◌, map, filter, Bool, not, cond, Some, slice_get, ◌∙◌}
use Rattle.sqlite.specs.Order.{Row}
use Rattle.sqlite.specs.State.{State}
use Rattle.sqlite.specs.Table.{Table}
use Rattle.sqlite.specs.Term.{Term}
use Rattle.store_sql.specs.Contents.{change_at, seen, whole}
use Rattle.store_sql.specs.Effects.{Inserts, Updates, Deletes, IsInserted, passes, updated}
use Rattle.store_sql.specs.Meanings.{InsertsRow, UpdatesRows, DeletesRows}
use Rattle.store_sql.specs.Queries.{rewritten}
use Rattle.store_sql.specs.States.{Changes}
use Rattle.store_sql.proofs.ItemLemmas.{turns, replaces, removes}
use Rattle.store_schema.specs.Tables.{desk_layout}
use Rattle.desk_history.specs.Tables.{Tables}
use Rattle.store_schema.specs.rows.Contents.{contents}

-- a row that is put in
pub puts_in : (at : ℕ) (table : Table) (text : List ℕ) (terms : List Term) (params row : Row) (change : Tables → Tables) (old new : State)
    → InsertsRow desk_layout at table text terms → IsInserted table terms params row → ((t : Tables) → contents (change t) ≡ change_at at (λ rows. row ∷ rows) (contents t))
    → Inserts text params old new → Changes desk_layout contents old new change
puts_in at table text terms params row change old new means shape same did =
    turns desk_layout contents (λ t. contents (change t)) (change_at at (λ rows. row ∷ rows)) old new (did desk_layout at table terms row means shape) same

module _ {X : Type 0} (at : ℕ) (table : Table) (text : List ℕ) (terms : List Term) (params : Row) (item : X → Row) (part : Tables → List X) (held : (t : Tables) → slice_get (contents t) at ≡ Some (map item (part t)))
    (p : X → Bool) (tested : (x : X) → passes table terms params (item x) ≡ p x) (change : Tables → Tables) (old new : State) where
  -- rows that are changed: those that pass the test
  pub sets : (rest : List Term) (h : X → X) → UpdatesRows desk_layout at table text terms rest
      → ((x : X) → seen table (rewritten table rest params (whole table (item x))) ≡ item (h x))
      → ((t : Tables) → contents (change t) ≡ change_at at (λ _. map item (map (λ x. cond (p x) (h x) x) (part t))) (contents t))
      → Updates text params old new → Changes desk_layout contents old new change
  sets rest h means made same did =
      turns desk_layout contents (λ t. contents (change t)) (change_at at (map (updated table terms rest params))) old new (did desk_layout at table terms rest means)
      (λ t. same t ∙ replaces table terms params item p tested rest h made at (contents t) (part t) (held t))

  -- rows that are taken out: those that pass the test
  pub takes_out : DeletesRows desk_layout at table text terms
      → ((t : Tables) → contents (change t) ≡ change_at at (λ _. map item (filter (λ x. not (p x)) (part t))) (contents t))
      → Deletes text params old new → Changes desk_layout contents old new change
  takes_out means same did =
      turns desk_layout contents (λ t. contents (change t)) (change_at at (filter (λ r. not (passes table terms params r)))) old new (did desk_layout at table terms means)
      (λ t. same t ∙ removes table terms params item p tested at (contents t) (part t) (held t))
