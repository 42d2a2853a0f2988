use Rattle.std.proofs.Common.{◌≡◌, ◌∙◌, [], Ok, Err, refl}
use Rattle.desk_history.specs.ImpactShown.{impact_for}
use Rattle.store_desk.specs.Desks.{ForEachShown}
use Rattle.store_desk.specs.Impacts.{Foretells, IsImpactRefusal}
use Rattle.store_desk.proofs.ImpactLemmas.{all_shown, no_items, none_shown, refused_so}
use Rattle.store_desk.proofs.StreamLemmas.{failed_unanswered, reads_err, reads_ok, reads_on}
use Rattle.store_desk.proofs.desk.Desk.impact.Goals as goal

-- the caller isn't shown the impact, or the proposal can't be confirmed

pub returns-in-Err-clause-refused : goal.returns-in-Err-clause-refused
returns-in-Err-clause-refused g c clean no_memory no_store owner cs was =
    refused_so (impact_for cs c.args.caller.now c.args.number) c.in-Err.refusal (Foretells cs c.args.number) (c.in-Err.ensures.due clean no_memory no_store owner cs was)

pub returns-in-Err-clause-reads : goal.returns-in-Err-clause-reads
returns-in-Err-clause-reads g c = reads_err g.S.Store IsImpactRefusal c.args.self.now c.outlook.new.self c.in-Err.refusal c.in-Err.ensures.reads

-- the images weren't found

pub returns-in-Err-touched_images-clause-refused : goal.returns-in-Err-touched_images-clause-refused
returns-in-Err-touched_images-clause-refused g c clean no_memory no_store =
    let old = c.args.self.now in
    let failure = c.in-Err-touched_images.failure in
    failed_unanswered g.S.Store IsImpactRefusal old c.outlook.new.self c.in-Ok.outlook failure (ForEachShown g.S.Store old (λ owner cs. impact_for cs c.args.caller.now c.args.number ≡ Err failure))
    c.in-Ok.ensures.reads c.in-Err-touched_images.ensures.reads.named no_memory no_store

pub returns-in-Err-touched_images-clause-reads : goal.returns-in-Err-touched_images-clause-reads
returns-in-Err-touched_images-clause-reads g c =
    let late = c.touched_images.new.self in
    let failure = c.in-Err-touched_images.failure in
    reads_err g.S.Store IsImpactRefusal c.args.self.now late failure
    (reads_on g.S.Store c.args.self.now c.outlook.new.self late c.in-Ok.outlook (Err failure) c.in-Ok.ensures.reads c.in-Err-touched_images.ensures.reads)

-- there are none

pub returns-then-is_empty-clause-shown : goal.returns-then-is_empty-clause-shown
returns-then-is_empty-clause-shown g c clean =
    let outlook = c.in-Ok.outlook in
    let images = c.in-Ok-touched_images.touched in
    let empty : images.items ≡ [] = no_items images.items images.len c.is_empty.result c.is_empty.ensures c.if-is_empty.true images.ok.0 in
    none_shown g.S.Store c.args.self.now c.outlook.new.self c.touched_images.new.self c.args.caller.now c.args.number outlook images images.items
    (record { bars = c.new.result; adds = outlook.foreseen.adds; dbx = outlook.foreseen.dbx }) c.in-Ok.ensures.reads c.in-Ok-touched_images.ensures.reads c.in-Ok.ensures.due
    c.in-Ok-touched_images.ensures.shown c.untouched_bars_none.ensures empty c.new.ensures.items refl refl clean

pub returns-then-is_empty-clause-reads : goal.returns-then-is_empty-clause-reads
returns-then-is_empty-clause-reads g c =
    let old = c.args.self.now in
    let late = c.touched_images.new.self in
    let images = c.in-Ok-touched_images.touched in
    reads_ok g.S.Store IsImpactRefusal old late images _
    (reads_on g.S.Store old c.outlook.new.self late c.in-Ok.outlook (Ok images) c.in-Ok.ensures.reads c.in-Ok-touched_images.ensures.reads)

-- each was judged

pub returns-in-Ok-answer_question-clause-shown : goal.returns-in-Ok-answer_question-clause-shown
returns-in-Ok-answer_question-clause-shown g c clean =
    let old = c.args.self.now in
    let outlook = c.in-Ok.outlook in
    let bars = c.in-Ok-answer_question.bars in
    all_shown g.S.Store old c.outlook.new.self c.touched_images.new.self c.answer_question.new.self c.args.caller.now c.args.number outlook c.in-Ok-touched_images.touched bars c.deref.result.now
    (record { bars = bars; adds = outlook.foreseen.adds; dbx = outlook.foreseen.dbx }) c.in-Ok.ensures.reads c.in-Ok-touched_images.ensures.reads c.in-Ok-answer_question.ensures.reads c.in-Ok.ensures.due
    (λ late_clean owner cs was. c.deref.ensures.value ∙ c.in-Ok-touched_images.ensures.shown late_clean owner cs was) c.in-Ok-answer_question.ensures.shown refl refl clean

pub returns-in-Ok-answer_question-clause-reads : goal.returns-in-Ok-answer_question-clause-reads
returns-in-Ok-answer_question-clause-reads g c =
    let old = c.args.self.now in
    let late = c.touched_images.new.self in
    let new = c.answer_question.new.self in
    let images = c.in-Ok-touched_images.touched in
    let bars = c.in-Ok-answer_question.bars in
    reads_ok g.S.Store IsImpactRefusal old new bars _
    (reads_on g.S.Store old late new images (Ok bars)
    (reads_on g.S.Store old c.outlook.new.self late c.in-Ok.outlook (Ok images) c.in-Ok.ensures.reads c.in-Ok-touched_images.ensures.reads) c.in-Ok-answer_question.ensures.reads)

-- they couldn't be judged

pub returns-clause-refused : goal.returns-clause-refused
returns-clause-refused g c clean no_memory no_store =
    let old = c.args.self.now in
    let late = c.touched_images.new.self in
    let images = c.in-Ok-touched_images.touched in
    let failure = c.in-Err-answer_question.failure in
    failed_unanswered g.S.Store IsImpactRefusal old late images failure (ForEachShown g.S.Store old (λ owner cs. impact_for cs c.args.caller.now c.args.number ≡ Err failure))
    (reads_on g.S.Store old c.outlook.new.self late c.in-Ok.outlook (Ok images) c.in-Ok.ensures.reads c.in-Ok-touched_images.ensures.reads)
    c.in-Err-answer_question.ensures.reads.named no_memory no_store

pub returns-clause-reads : goal.returns-clause-reads
returns-clause-reads g c =
    let old = c.args.self.now in
    let late = c.touched_images.new.self in
    let new = c.answer_question.new.self in
    let images = c.in-Ok-touched_images.touched in
    let failure = c.in-Err-answer_question.failure in
    reads_err g.S.Store IsImpactRefusal old new failure
    (reads_on g.S.Store old late new images (Err failure)
    (reads_on g.S.Store old c.outlook.new.self late c.in-Ok.outlook (Ok images) c.in-Ok.ensures.reads c.in-Ok-touched_images.ensures.reads) c.in-Err-answer_question.ensures.reads)
