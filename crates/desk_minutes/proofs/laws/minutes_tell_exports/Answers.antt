use Rattle.desk_minutes.proofs.ExportLemmas.{tell_exports}
use Rattle.desk_minutes.proofs.laws.minutes_tell_exports.Goals as goal

pub returns : goal.returns
returns c = tell_exports
