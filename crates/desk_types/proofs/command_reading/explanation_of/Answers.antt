use Rattle.std.proofs.Common.{decimal, ap, ◌∙◌}
use Rattle.desk_types.specs.Forms.{is_reason}
use Rattle.desk_types.proofs.FactsReadingLemmas.{parted_same, unparted}
use Rattle.desk_types.proofs.PartLemmas.{request_small}
use Rattle.desk_types.proofs.ValueLemmas.{decimal_free}
use Rattle.desk_types.proofs.command_reading.explanation_of.Goals as goal

pub returns-in_default-parse-clause-only : goal.returns-in_default-parse-clause-only
returns-in_default-parse-clause-only c = λ fault e form within same.
    let first = parted_same c.args.text.now c.in-Some.proposal.now c.in-Some.reason.now (decimal e.proposal) e.reason c.in-Some.ensures.found
    (decimal_free e.proposal (request_small e.proposal form.0)) same in
    c.in_default-parse.ensures.only e.proposal form.0 first.0

pub returns-in-Err-clause-only : goal.returns-in-Err-clause-only
returns-in-Err-clause-only c = λ fault e form within same.
    let first = parted_same c.args.text.now c.in-Some.proposal.now c.in-Some.reason.now (decimal e.proposal) e.reason c.in-Some.ensures.found
    (decimal_free e.proposal (request_small e.proposal form.0)) same in
    let memory = c.in-Err.ensures.found (ap is_reason first.1 ∙ form.1) in
    absurd (cc)
