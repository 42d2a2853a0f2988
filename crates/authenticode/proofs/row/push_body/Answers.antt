use Rattle.authenticode.proofs.CarriedLemmas.{no_body}
use Rattle.authenticode.proofs.row.push_body.Goals as goal

pub returns-in-Some-clause-err : goal.returns-in-Some-clause-err
returns-in-Some-clause-err c = no_body c.args.body.now c.in-Some.row.now c.push_row.result c.in-Some.ensures c.push_row.ensures.err
