use Rattle.std.proofs.Common.{Err, Ok}
use Rattle.desk_exports.specs.Readings.{IsShownTo}
use Rattle.store_reads.specs.Failures.{IsFailure}
use Rattle.store_desk.proofs.PersonLemmas.{asked, reads_taken}
use Rattle.store_desk.proofs.ReadingLemmas.{reads_failed, reads_given}
use Rattle.store_desk.proofs.ShowingLemmas.{given_err, given_ok}
use Rattle.store_desk.proofs.desk.Desk.show.Goals as goal

pub returns-in-Ok-clause-shown : goal.returns-in-Ok-clause-shown
returns-in-Ok-clause-shown g c clean =
    let old = c.args.self.now in
    let taken = c.take-kept_person in
    let given = c.in-Ok.given in
    given_ok g.S.Store old (λ owner cs. IsShownTo g.L.RequestList.holds owner cs c.args.person.now c.args.reading) given
    (asked g.S.Store old taken.ensures.after taken.ensures.value (λ owner cs. IsShownTo g.L.RequestList.holds owner cs c.args.person.now c.args.reading given) (c.in-Ok.ensures.shown clean))

pub returns-in-Ok-clause-refused : goal.returns-in-Ok-clause-refused
returns-in-Ok-clause-refused g c clean =
    let old = c.args.self.now in
    let taken = c.take-kept_person in
    let given = c.in-Ok.given in
    given_err g.S.Store old (λ owner cs. IsShownTo g.L.RequestList.holds owner cs c.args.person.now c.args.reading) given
    (asked g.S.Store old taken.ensures.after taken.ensures.value (λ owner cs. IsShownTo g.L.RequestList.holds owner cs c.args.person.now c.args.reading given) (c.in-Ok.ensures.shown clean))

pub returns-in-Ok-clause-reads : goal.returns-in-Ok-clause-reads
returns-in-Ok-clause-reads g c =
    let old = c.args.self.now in
    let new = c.answer_question.new.self in
    reads_given g.S.Store c.args.reading old new c.in-Ok.given c.in-Ok.ensures.bound
    (reads_taken g.S.Store IsFailure old new c.take-kept_person.new.self c.take-kept_person.ensures.after (Ok c.in-Ok.given) c.if-self.false c.in-Ok.ensures.reads)

pub returns-clause-reads : goal.returns-clause-reads
returns-clause-reads g c =
    let old = c.args.self.now in
    let new = c.answer_question.new.self in
    reads_failed g.S.Store c.args.reading old new c.in-Err.failure c.if-self.false
    (reads_taken g.S.Store IsFailure old new c.take-kept_person.new.self c.take-kept_person.ensures.after (Err c.in-Err.failure) c.if-self.false c.in-Err.ensures.reads)
