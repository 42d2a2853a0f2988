-- Entries that are left out.
use Rattle.std.proofs.Common.{ℕ, ◌≤◌, true, false, not, cond, List, [], ◌∷◌, length, arith}
use Rattle.desk_types.specs.declared.kind.ListedKind.{ListedKind}
use Rattle.desk_history.specs.declared.rows.Entry.{Entry}
use Rattle.desk_history.specs.Listing.{is_entry, without}

-- leaving out entries makes no more of them
pub without_fewer : (kind : ListedKind) (digest : List ℕ) (rows : List Entry) → length (without kind digest rows) ≤ length rows
without_fewer kind digest [] = omega arith
without_fewer kind digest (x ∷ rows) =
    let rest : length (without kind digest rows) ≤ length rows = without_fewer kind digest rows in
    elim (is_entry kind digest x) as (λ b. length (cond (not b) (x ∷ without kind digest rows) (without kind digest rows)) ≤ length (x ∷ rows)) [ true ↦ omega arith | false ↦ omega arith ]
