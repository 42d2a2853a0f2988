use Rattle.desk_types.proofs.FactsReadingLemmas.{digest_then, extent_rest}
use Rattle.desk_types.proofs.facts_reading.measures_before.Goals as goal

pub returns-in_default-digest_before-clause-only : goal.returns-in_default-digest_before-clause-only
returns-in_default-digest_before-clause-only c = λ extent file digest signing rest h same.
    let first = c.in-Some.ensures.found in
    let one = extent_rest c.args.text.now c.in-Some.text.now _ c.in-Some.extent extent first.0 h.lengths first.1 same in
    c.in_default-digest_before.ensures.only file _ h.first one

pub returns-in_default-digest_before-2-clause-only : goal.returns-in_default-digest_before-2-clause-only
returns-in_default-digest_before-2-clause-only c = λ extent file digest signing rest h same.
    let first = c.in-Some.ensures.found in
    let second = c.in-Some-digest_before.ensures.found in
    let one = extent_rest c.args.text.now c.in-Some.text.now _ c.in-Some.extent extent first.0 h.lengths first.1 same in
    let two = digest_then c.in-Some.text.now c.in-Some-digest_before.text.now _ c.in-Some-digest_before.file file second.0 h.first second.1 one in
    c.in_default-digest_before-2.ensures.only digest _ h.second two

pub returns-in_default-digest_before-3-clause-only : goal.returns-in_default-digest_before-3-clause-only
returns-in_default-digest_before-3-clause-only c = λ extent file digest signing rest h same.
    let first = c.in-Some.ensures.found in
    let second = c.in-Some-digest_before.ensures.found in
    let third = c.in-Some-digest_before-2.ensures.found in
    let one = extent_rest c.args.text.now c.in-Some.text.now _ c.in-Some.extent extent first.0 h.lengths first.1 same in
    let two = digest_then c.in-Some.text.now c.in-Some-digest_before.text.now _ c.in-Some-digest_before.file file second.0 h.first second.1 one in
    let three = digest_then c.in-Some-digest_before.text.now c.in-Some-digest_before-2.text.now _ c.in-Some-digest_before-2.digest digest third.0 h.second third.1 two in
    c.in_default-digest_before-3.ensures.only signing rest h.third three
