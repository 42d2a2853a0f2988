-- Items of a proposal.
use Rattle.std.specs.Prelude.{ℕ, ◌+◌, List, [], ◌∷◌, ◌++◌, map}
use Rattle.desk_types.specs.Imports.{Imported}
use Rattle.desk_history.specs.declared.rows.ProposalItem.{ProposalItem}
use Rattle.desk_history.specs.declared.rows.ProposalItem.TheVariants as items
use Rattle.desk_history.specs.declared.rows.ProposalItemRow.{ProposalItemRow}
use Rattle.desk_history.specs.declared.rows.ProposalRow.{ProposalRow}

-- own: digests of images, then digests of certificates, then components, each in the command's
-- order
abbrev pub items_of : Imported → List ProposalItem
items_of i = map items.Digest i.digests ++ (map items.Certificate i.certificates ++ map items.Component i.components)

-- the rows of these items of the proposal k, with places from this one on
abbrev pub items_from : ℕ → ℕ → List ProposalItem → List ProposalItemRow
items_from k place [] = []
items_from k place (x ∷ xs) = record { proposal = k; place = place; item = x } ∷ items_from k (place + 1) xs

-- own: the rows of all that a proposal names, with places from 0
abbrev pub item_rows : ProposalRow → List ProposalItemRow
item_rows p = items_from p.number 0 (items_of p.named)
