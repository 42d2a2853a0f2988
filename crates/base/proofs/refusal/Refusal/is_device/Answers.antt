use Rattle.std.proofs.Common.{rules}
use Rattle.base.proofs.refusal.Refusal.is_device.Goals as goal

pub returns-in-Read : goal.returns-in-Read
returns-in-Read c = search rules

pub returns-in-Short : goal.returns-in-Short
returns-in-Short c = search rules
