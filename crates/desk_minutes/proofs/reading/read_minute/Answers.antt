use Rattle.std.proofs.Common.{Err, ap, sym, ◌∙◌}
use Rattle.desk_minutes.proofs.LineLemmas.{call_is, fault_is, line_spelt, number_is, read_same, told_fields}
use Rattle.desk_minutes.proofs.reading.read_minute.Goals as goal

pub returns-in_default-clause-only : goal.returns-in_default-clause-only
returns-in_default-clause-only c = λ fault d given told same.
    c.in_default.ensures.only _ _ _ _ _ (told_fields c.args.number d given c.ranges.number.fits told) (same ∙ line_spelt c.args.number d given)

pub returns-then-not-is_number-clause-only : goal.returns-then-not-is_number-clause-only
returns-then-not-is_number-clause-only c = λ fault d given told same.
    let f = c.in-Some.fields in
    let read = c.in-Some.ensures.found in
    let one = read_same c.args.number d given f.number.now f.caller.now f.key.now f.text.now f.reply.now c.ranges.number.fits told read.1 (sym read.0 ∙ same) in
    number_is c.args.number f.number.now c.if-not-is_number.ensures one.number

pub returns-in-Err-clause-only : goal.returns-in-Err-clause-only
returns-in-Err-clause-only c = λ fault d given told same.
    let f = c.in-Some.fields in
    let read = c.in-Some.ensures.found in
    let one = read_same c.args.number d given f.number.now f.caller.now f.key.now f.text.now f.reply.now c.ranges.number.fits told read.1 (sym read.0 ∙ same) in
    c.in-Err.ensures.only (ap Err (fault_is c.in-Err.fault _ fault)) d told.call told.own (call_is d f.number.now f.caller.now f.key.now f.text.now f.reply.now _ _ one)

pub returns-in-Err-parse-clause-only : goal.returns-in-Err-parse-clause-only
returns-in-Err-parse-clause-only c = λ fault d given told same.
    let f = c.in-Some.fields in
    let read = c.in-Some.ensures.found in
    let one = read_same c.args.number d given f.number.now f.caller.now f.key.now f.text.now f.reply.now c.ranges.number.fits told read.1 (sym read.0 ∙ same) in
    let memory = c.in-Err-parse.ensures.found given told.reply one.reply in
    absurd (cc)
