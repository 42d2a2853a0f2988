use Rattle.std.proofs.Common.{Err, refl}
use Rattle.desk_history.specs.ImpactShown.{ShowsImpact, impact_for}
use Rattle.desk_exports.specs.Readings.{GivesImpact}
use Rattle.desk_exports.specs.declared.reading.Reading.TheVariants as read
use Rattle.store_desk.specs.Showing.{IsReadingRefusal}
use Rattle.store_desk.specs.Impacts.{IsImpactRefusal}
use Rattle.store_desk.proofs.RefusalLemmas.{impact_refused}
use Rattle.store_desk.proofs.ReadingLemmas.{as_given, of_reads, reads_err}
use Rattle.store_desk.proofs.desk.Desk.show_impact.Goals as goal

pub returns-in-Err-clause-reads : goal.returns-in-Err-clause-reads
returns-in-Err-clause-reads g c =
    let old = c.args.self.now in
    let new = c.impact.new.self in
    reads_err g.S.Store IsImpactRefusal old new (IsReadingRefusal (read.Impact c.args.number)) c.in-Err.refusal (impact_refused c.in-Err.refusal)
    (of_reads g.S.Store IsImpactRefusal old new (Err c.in-Err.refusal) c.in-Err.ensures.reads)

pub returns-in-Ok-clause-shown : goal.returns-in-Ok-clause-shown
returns-in-Ok-clause-shown g c clean owner cs was =
    as_given (impact_for cs c.args.caller.now c.args.number) ShowsImpact (GivesImpact g.L.RequestList.holds c.args.number) c.in-Ok.impact _ (λ w h. (c.in-Ok.impact, h, refl)) (c.in-Ok.ensures.shown clean owner cs was)
