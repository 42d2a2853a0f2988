use Rattle.std.proofs.Common.{decimal, ap, ◌∙◌}
use Rattle.desk_types.specs.Forms.{is_note}
use Rattle.desk_types.specs.Words.{vote_text}
use Rattle.desk_types.proofs.FactsReadingLemmas.{parted_same, unparted}
use Rattle.desk_types.proofs.PartLemmas.{request_small}
use Rattle.desk_types.proofs.ValueLemmas.{decimal_free}
use Rattle.desk_types.proofs.WordLemmas.{vote_free}
use Rattle.desk_types.proofs.command_reading.ballot_of.Goals as goal

pub returns-in_default-parted_at_space-clause-only : goal.returns-in_default-parted_at_space-clause-only
returns-in_default-parted_at_space-clause-only c = λ fault b form within same.
    let first = parted_same c.args.text.now c.in-Some.request.now c.in-Some.text.now (decimal b.request) _ c.in-Some.ensures.found
    (decimal_free b.request (request_small b.request form.0)) same in
    unparted c.in-Some.text.now (vote_text b.vote) b.note c.in_default-parted_at_space.ensures.only first.1

pub returns-in_default-parse-clause-only : goal.returns-in_default-parse-clause-only
returns-in_default-parse-clause-only c = λ fault b form within same.
    let first = parted_same c.args.text.now c.in-Some.request.now c.in-Some.text.now (decimal b.request) _ c.in-Some.ensures.found
    (decimal_free b.request (request_small b.request form.0)) same in
    c.in_default-parse.ensures.only b.request form.0 first.0

pub returns-in_default-parse-2-clause-only : goal.returns-in_default-parse-2-clause-only
returns-in_default-parse-2-clause-only c = λ fault b form within same.
    let first = parted_same c.args.text.now c.in-Some.request.now c.in-Some.text.now (decimal b.request) _ c.in-Some.ensures.found
    (decimal_free b.request (request_small b.request form.0)) same in
    let second = parted_same c.in-Some.text.now c.in-Some-parted_at_space.vote.now c.in-Some-parted_at_space.note.now (vote_text b.vote) b.note
    c.in-Some-parted_at_space.ensures.found (vote_free b.vote) first.1 in
    c.in_default-parse-2.ensures.only b.vote second.0

pub returns-in-Err-clause-only : goal.returns-in-Err-clause-only
returns-in-Err-clause-only c = λ fault b form within same.
    let first = parted_same c.args.text.now c.in-Some.request.now c.in-Some.text.now (decimal b.request) _ c.in-Some.ensures.found
    (decimal_free b.request (request_small b.request form.0)) same in
    let second = parted_same c.in-Some.text.now c.in-Some-parted_at_space.vote.now c.in-Some-parted_at_space.note.now (vote_text b.vote) b.note
    c.in-Some-parted_at_space.ensures.found (vote_free b.vote) first.1 in
    let memory = c.in-Err.ensures.found (ap is_note second.1 ∙ form.1) in
    absurd (cc)
