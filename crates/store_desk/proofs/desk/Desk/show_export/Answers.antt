use Rattle.std.proofs.Common.{◌∙◌, Ok, ap, inr}
use Rattle.desk_exports.specs.Exports.{exported}
use Rattle.desk_exports.specs.declared.reading.Reading.TheVariants as read
use Rattle.desk_exports.specs.declared.shown.Shown.TheVariants as shown
use Rattle.store_reads.specs.Failures.{IsFailure}
use Rattle.store_desk.specs.Showing.{IsReadingRefusal}
use Rattle.store_desk.proofs.ReadingLemmas.{only_failures, reads_err}
use Rattle.store_desk.proofs.desk.Desk.show_export.Goals as goal

pub returns-in-Ok-clause-shown : goal.returns-in-Ok-clause-shown
returns-in-Ok-clause-shown g c clean owner cs was =
    ap (λ bytes. Ok (shown.Export c.args.what bytes)) (c.in-Ok.ensures.shown clean owner cs was ∙ ap (λ what. exported what owner cs) c.export.ensures)

pub returns-in-Err-clause-refused : goal.returns-in-Err-clause-refused
returns-in-Err-clause-refused g c clean no_memory no_store owner cs was =
    absurd (only_failures c.args.self.now.needs_reopening c.in-Err.refusal was.usable c.in-Err.ensures.reads.named no_memory no_store)

pub returns-in-Err-clause-reads : goal.returns-in-Err-clause-reads
returns-in-Err-clause-reads g c =
    reads_err g.S.Store IsFailure c.args.self.now c.octets_of.new.self (IsReadingRefusal (read.Export c.args.what)) c.in-Err.refusal (λ is. inr is) c.in-Err.ensures.reads
