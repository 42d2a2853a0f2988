use Rattle.std.proofs.Common.{inl}
use Rattle.cli_opening.proofs.laws.closed_files_hold_the_desk.Goals as goal

pub returns : goal.returns
returns c = λ image owner cs closed. record { db = closed.db; database = closed.alone.both; tables = inl closed.rows }
