-- Proposals without their items.
use Rattle.std.specs.Prelude.{pos, [], ◌∷◌, unwrap_or}
use Rattle.sqlite.specs.declared.types.Value.TheVariants.{Int, Text}
use Rattle.sqlite.specs.Order.{Row}
use Rattle.desk_types.specs.Words.{proposal_kind_text, proposal_state_text}
use Rattle.desk_history.specs.declared.rows.ProposalRow.{ProposalRow}
use Rattle.store_reads.specs.declared.proposal_head.ProposalHead.{ProposalHead}

-- own: the columns of a proposal: number, officer, kind, the stamp or 0, how many entries an import
-- skipped, state
abbrev pub head_columns : ProposalHead → Row
head_columns h =
    Int (pos h.number) ∷ Text h.officer ∷ Text (proposal_kind_text h.kind) ∷ Int (pos h.stamp) ∷ Int (pos h.passed)
    ∷ Text (proposal_state_text h.state) ∷ []

-- the head of a proposal
abbrev pub head_of : ProposalRow → ProposalHead
head_of p = record {
  number = p.number;
  officer = p.officer;
  kind = p.kind;
  stamp = unwrap_or p.named.stamp 0;
  passed = p.named.passed;
  state = p.state;
}
