use Rattle.std.proofs.Common.{rules}
use Rattle.desk_types.proofs.forms.is_person_name.Goals as goal

pub returns : goal.returns
returns c = search rules
