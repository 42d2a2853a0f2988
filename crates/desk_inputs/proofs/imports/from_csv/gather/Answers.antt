use Rattle.std.proofs.Common.{rules}
use Rattle.desk_inputs.proofs.CsvLemmas.{Reading-begins, Reading-ends, Reading-next, Reading-wrong-all}
use Rattle.desk_inputs.proofs.imports.from_csv.gather.Goals as goal

pub loop-number-init : goal.loop-number-init
loop-number-init c = λ rows h. Reading-begins _ _ _ _ (c.in_default.ensures.ok rows h) c.new-gathered.ensures

pub returns-in-End-clause-ok : goal.returns-in-End-clause-ok
returns-in-End-clause-ok c = λ rows h. Reading-ends _ _ _ _ _ (c.loop-number.invariant rows h) c.in-End.ensures

pub returns-in-Err-Form-clause-err : goal.returns-in-Err-Form-clause-err
returns-in-Err-Form-clause-err c =
    let wrong = Reading-wrong-all _ _ _ _ _ _ _ c.loop-number.invariant c.in-Record.ensures (search rules) in
    search (rules, wrong)

pub loop-number-preserved : goal.loop-number-preserved
loop-number-preserved c = λ rows h.
    Reading-next _ _ _ _ _ _ _ _ _ (c.loop-number.invariant rows h) c.in-Record.ensures c.in-Ok.ensures.ok (search rules)

pub returns-in-Err-Form-clause-ok : goal.returns-in-Err-Form-clause-ok
returns-in-Err-Form-clause-ok c = search rules
