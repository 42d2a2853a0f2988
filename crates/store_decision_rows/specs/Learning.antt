-- The sizes that are known after a command.
use Rattle.std.specs.Prelude.{◌≡◌, ℕ, not, Some, IsTrue}
use Rattle.desk_types.specs.declared.command.Command.{Command}
use Rattle.desk_rules.specs.declared.view.LimitedTable.{LimitedTable}
use Rattle.desk_rules.specs.Shown.{may_put}
use Rattle.store_decision_rows.specs.sizes.Sizes.{AreEnough, known}
use Rattle.store_decision_rows.specs.declared.sizes.known.KnownSizes.{KnownSizes}

-- The sizes that the command needs are known after it. Those that were known before, and those that
-- it doesn't need, don't change.
pub record Learns (command : Command) (before after : KnownSizes) : Type 0 where
  pub enough : AreEnough after command
  pub calls : (n : ℕ) → before.calls ≡ Some n → after.calls ≡ Some n
  pub sizes : (table : LimitedTable) (n : ℕ) → known before table ≡ Some n → known after table ≡ Some n
  pub others : (table : LimitedTable) → IsTrue (not (may_put command table)) → known after table ≡ known before table
