use Rattle.std.proofs.Common.{rules}
use Rattle.std.specs.Prelude.{option_copied}
use Rattle.desk_types.specs.Naming.{proposal_named}
use Rattle.store_decision_rows.proofs.NamedLemmas.{found_by}
use Rattle.store_decision_rows.proofs.loading.named_row.Goals as goal

pub returns-in-Some : goal.returns-in-Some
returns-in-Some c k named =
    found_by c.args.proposals.now (proposal_named c.args.command.now) c.in-Some.number (option_copied c.row_numbered.result) (search rules) c.row_numbered.ensures k named
