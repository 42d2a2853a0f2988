use Rattle.std.proofs.Common.{Err, decimal, ap}
use Rattle.desk_types.specs.Items.{facts_text}
use Rattle.desk_types.proofs.FactsReadingLemmas.{parted_same}
use Rattle.desk_types.proofs.ItemReadingLemmas.{passed_on}
use Rattle.desk_types.proofs.PartLemmas.{request_small}
use Rattle.desk_types.proofs.ValueLemmas.{decimal_free}
use Rattle.desk_types.proofs.command_reading.returned_file_of.Goals as goal

pub returns-in_default-parse-clause-only : goal.returns-in_default-parse-clause-only
returns-in_default-parse-clause-only c = λ fault b form within same.
    let parts = parted_same c.args.text.now c.in-Some.request.now c.in-Some.facts.now (decimal b.request) (facts_text b.facts) c.in-Some.ensures.found
    (decimal_free b.request (request_small b.request form.0)) same in
    c.in_default-parse.ensures.only b.request form.0 parts.0

pub returns-in_err-facts-clause-only : goal.returns-in_err-facts-clause-only
returns-in_err-facts-clause-only c = λ fault b form within same.
    let parts = parted_same c.args.text.now c.in-Some.request.now c.in-Some.facts.now (decimal b.request) (facts_text b.facts) c.in-Some.ensures.found
    (decimal_free b.request (request_small b.request form.0)) same in
    c.in_err-facts.ensures.only (ap Err (passed_on c.from_residual.result _ _ c.from_residual.ensures fault)) b.facts form.1 within parts.1
