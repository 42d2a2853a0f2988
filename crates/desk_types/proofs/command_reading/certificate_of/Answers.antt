use Rattle.std.proofs.Common.{Err, length, ap, ◌∙◌}
use Rattle.desk_types.specs.Certificates.{is_certificate_size}
use Rattle.desk_types.proofs.CommandReadingLemmas.{hex_length}
use Rattle.desk_types.proofs.FactsReadingLemmas.{digest_then}
use Rattle.desk_types.proofs.ItemReadingLemmas.{passed_on}
use Rattle.desk_types.proofs.NumberLemmas.{some_false}
use Rattle.desk_types.proofs.command_reading.certificate_of.Goals as goal

pub returns-in_err-body-clause-only : goal.returns-in_err-body-clause-only
returns-in_err-body-clause-only c = λ fault d form within same.
    let read = c.in-Some.ensures.found in
    c.in_err-body.ensures.only (ap Err (passed_on c.from_residual.result _ _ c.from_residual.ensures fault)) d.body form.1
    (digest_then c.args.text.now c.in-Some.body.now _ c.in-Some.tbs d.tbs read.0 form.0 read.1 same)

pub returns-in-None-clause-only : goal.returns-in-None-clause-only
returns-in-None-clause-only c = λ fault d form within same.
    let read = c.in-Some.ensures.found in
    let rest = digest_then c.args.text.now c.in-Some.body.now _ c.in-Some.tbs d.tbs read.0 form.0 read.1 same in
    let size = hex_length c.in-Some.body.now c.in_ok-body.body.items d.body c.in_ok-body.ensures.found rest in
    some_false (is_certificate_size (length c.in_ok-body.body.items)) (ap is_certificate_size size ∙ within) c.in-None.ensures
