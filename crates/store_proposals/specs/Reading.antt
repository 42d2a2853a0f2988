-- A proposal that was read.
use Rattle.std.specs.Prelude.{◌≡◌, ◌<◌, ◌==◌, ℕ, Option, None, IfSome, filter, unwrap_or}
use Rattle.std.specs.List.{All}
use Rattle.desk_history.specs.declared.rows.ProposalRow.{ProposalRow}
use Rattle.desk_history.specs.Tables.{Tables}
use Rattle.store_reads.specs.Reads.{listed}

-- its stamp, if it has one, isn't 0, which stands for no stamp in the table
abbrev pub IsStamped : ProposalRow → Type 0
IsStamped p = IfSome p.named.stamp (λ s. 0 < s)

-- the stamp that the number in a row means, none for 0
abbrev pub IsStampOf : ℕ → Option ℕ → Type 0
IsStampOf number stamp = (unwrap_or stamp 0 ≡ number) × (number ≡ 0 → stamp ≡ None)

-- if no stamp is 0, the proposals of this number are the one that was read, or there is none
abbrev pub IsRead : ℕ → Option ProposalRow → Tables → Type 0
IsRead k found t = All IsStamped t.proposals → filter (λ p. k == p.number) t.proposals ≡ listed found
