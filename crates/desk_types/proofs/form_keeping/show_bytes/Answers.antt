use Rattle.std.proofs.Common.{arith}
use Rattle.desk_types.proofs.form_keeping.show_bytes.Goals as goal

pub returns : goal.returns
returns c = λ i. omega (arith, c.type_inv.bytes i)
