-- Keys of the items of proposals.
use Rattle.std.specs.Prelude.{◌==◌, ◌&&◌, Bool}
use Rattle.desk_history.specs.declared.rows.ProposalItemRow.{ProposalItemRow}

-- the items have the same place in the same proposal
abbrev pub is_item_key : ProposalItemRow → ProposalItemRow → Bool
is_item_key a b = (a.proposal == b.proposal) && (a.place == b.place)
