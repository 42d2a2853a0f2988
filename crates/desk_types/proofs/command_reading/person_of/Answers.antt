use Rattle.std.proofs.Common.{ap, ◌∙◌}
use Rattle.hex.specs.Hex.{encode_lower}
use Rattle.desk_types.specs.Forms.{is_person_name}
use Rattle.desk_types.specs.Words.{role_text}
use Rattle.desk_types.proofs.FactsReadingLemmas.{parted_same, unparted}
use Rattle.desk_types.proofs.PartLemmas.{person_name_free}
use Rattle.desk_types.proofs.WordLemmas.{role_free}
use Rattle.desk_types.proofs.command_reading.person_of.Goals as goal

pub returns-in_default-parted_at_space-clause-only : goal.returns-in_default-parted_at_space-clause-only
returns-in_default-parted_at_space-clause-only c = λ fault p form within same.
    let first = parted_same c.args.text.now c.in-Some.name.now c.in-Some.text.now p.name _ c.in-Some.ensures.found (person_name_free p.name form.0) same in
    unparted c.in-Some.text.now (role_text p.role) (encode_lower p.token) c.in_default-parted_at_space.ensures.only first.1

pub returns-in_default-parse-clause-only : goal.returns-in_default-parse-clause-only
returns-in_default-parse-clause-only c = λ fault p form within same.
    let first = parted_same c.args.text.now c.in-Some.name.now c.in-Some.text.now p.name _ c.in-Some.ensures.found (person_name_free p.name form.0) same in
    let second = parted_same c.in-Some.text.now c.in-Some-parted_at_space.role.now c.in-Some-parted_at_space.token.now (role_text p.role) (encode_lower p.token)
    c.in-Some-parted_at_space.ensures.found (role_free p.role) first.1 in
    c.in_default-parse.ensures.only p.role second.0

pub returns-in_default-digest_of-clause-only : goal.returns-in_default-digest_of-clause-only
returns-in_default-digest_of-clause-only c = λ fault p form within same.
    let first = parted_same c.args.text.now c.in-Some.name.now c.in-Some.text.now p.name _ c.in-Some.ensures.found (person_name_free p.name form.0) same in
    let second = parted_same c.in-Some.text.now c.in-Some-parted_at_space.role.now c.in-Some-parted_at_space.token.now (role_text p.role) (encode_lower p.token)
    c.in-Some-parted_at_space.ensures.found (role_free p.role) first.1 in
    c.in_default-digest_of.ensures.only p.token form.1 second.1

pub returns-in-Err-clause-only : goal.returns-in-Err-clause-only
returns-in-Err-clause-only c = λ fault p form within same.
    let first = parted_same c.args.text.now c.in-Some.name.now c.in-Some.text.now p.name _ c.in-Some.ensures.found (person_name_free p.name form.0) same in
    let memory = c.in-Err.ensures.found (ap is_person_name first.0 ∙ form.0) in
    absurd (cc)
