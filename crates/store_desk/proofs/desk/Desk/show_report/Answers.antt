use Rattle.std.proofs.Common.{Err, inr}
use Rattle.desk_exports.specs.declared.reading.Reading.TheVariants as read
use Rattle.store_reads.specs.Failures.{IsFailure}
use Rattle.store_desk.specs.Showing.{IsReadingRefusal}
use Rattle.store_desk.proofs.ReadingLemmas.{of_reads, only_failures, reads_err}
use Rattle.store_desk.proofs.desk.Desk.show_report.Goals as goal

pub returns-in-Err-clause-refused : goal.returns-in-Err-clause-refused
returns-in-Err-clause-refused g c clean no_memory no_store owner cs was =
    let it = of_reads g.S.Store IsFailure c.args.self.now c.report.new.self (Err c.in-Err.refusal) c.in-Err.ensures.reads in
    absurd (only_failures c.args.self.now.needs_reopening c.in-Err.refusal was.usable it.named no_memory no_store)

pub returns-in-Err-clause-reads : goal.returns-in-Err-clause-reads
returns-in-Err-clause-reads g c =
    let old = c.args.self.now in
    let new = c.report.new.self in
    reads_err g.S.Store IsFailure old new (IsReadingRefusal read.Report) c.in-Err.refusal (λ is. inr is)
    (of_reads g.S.Store IsFailure old new (Err c.in-Err.refusal) c.in-Err.ensures.reads)
