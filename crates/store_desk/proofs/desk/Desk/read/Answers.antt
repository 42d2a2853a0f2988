use Rattle.std.proofs.Common.{Ok, inl, inr, refl}
use Rattle.desk_exports.specs.Readings.{IsShownTo}
use Rattle.desk_exports.specs.declared.shown.Shown.TheVariants as shown
use Rattle.desk_history.specs.PeopleShown.{shown_person}
use Rattle.store_desk.specs.Showing.{IsReadingRefusal}
use Rattle.store_desk.proofs.ReadingLemmas.{gives_for, of_reads, refuses_for, shut_for}
use Rattle.store_desk.proofs.desk.Desk.read.Goals as goal

-- what one transaction can read
pub returns-in-Requests : goal.returns-in-Requests
returns-in-Requests g c = record {
  shown = c.show.ensures.shown;
  refused = c.show.ensures.refused;
  reads = of_reads g.S.Store (IsReadingRefusal c.args.reading) c.args.self.now c.show.new.self c.show.result c.show.ensures.reads;
  closed = λ was. let shut = c.show.ensures.reads.closed was in (inl shut.0, shut.1);
}

pub returns-in-Impact-clause-shown : goal.returns-in-Impact-clause-shown
returns-in-Impact-clause-shown g c =
    gives_for g.S.Store c.args.self.now c.show_impact.new.self c.show_impact.result (λ z owner cs. IsShownTo g.L.RequestList.holds owner cs c.args.person z) c.args.reading _ c.in-Impact.is
    c.show_impact.ensures.shown

pub returns-in-Impact-clause-refused : goal.returns-in-Impact-clause-refused
returns-in-Impact-clause-refused g c =
    refuses_for g.S.Store c.args.self.now c.show_impact.new.self c.show_impact.result (λ z owner cs. IsShownTo g.L.RequestList.holds owner cs c.args.person z) c.args.reading _ c.in-Impact.is
    c.show_impact.ensures.refused

pub returns-in-Export-clause-shown : goal.returns-in-Export-clause-shown
returns-in-Export-clause-shown g c =
    gives_for g.S.Store c.args.self.now c.show_export.new.self c.show_export.result (λ z owner cs. IsShownTo g.L.RequestList.holds owner cs c.args.person z) c.args.reading _ c.in-Export.is
    c.show_export.ensures.shown

pub returns-in-Export-clause-refused : goal.returns-in-Export-clause-refused
returns-in-Export-clause-refused g c =
    refuses_for g.S.Store c.args.self.now c.show_export.new.self c.show_export.result (λ z owner cs. IsShownTo g.L.RequestList.holds owner cs c.args.person z) c.args.reading _ c.in-Export.is
    c.show_export.ensures.refused

pub returns-in-Report-clause-shown : goal.returns-in-Report-clause-shown
returns-in-Report-clause-shown g c =
    gives_for g.S.Store c.args.self.now c.show_report.new.self c.show_report.result (λ z owner cs. IsShownTo g.L.RequestList.holds owner cs c.args.person z) c.args.reading _ c.in-Report.is
    c.show_report.ensures.shown

pub returns-in-Report-clause-refused : goal.returns-in-Report-clause-refused
returns-in-Report-clause-refused g c =
    refuses_for g.S.Store c.args.self.now c.show_report.new.self c.show_report.result (λ z owner cs. IsShownTo g.L.RequestList.holds owner cs c.args.person z) c.args.reading _ c.in-Report.is
    c.show_report.ensures.refused

pub returns-in-Report-clause-closed : goal.returns-in-Report-clause-closed
returns-in-Report-clause-closed g c was =
    let shut = c.show_report.ensures.closed was in (
      shut_for c.show_report.result (λ z owner cs. IsShownTo g.L.RequestList.holds owner cs c.args.person z) c.args.reading _ c.in-Report.is
          (elim shut.0 [ inl reopen ↦ inl reopen | inr each ↦ inr (λ owner cs. each cs) ]),
      shut.1,
    )

-- the person's own name and role, whatever the desk holds

pub returns-in-Me-clause-shown : goal.returns-in-Me-clause-shown
returns-in-Me-clause-shown g c =
    gives_for g.S.Store c.args.self.now c.args.self.now (Ok (shown.Me (shown_person c.args.person))) (λ z owner cs. IsShownTo g.L.RequestList.holds owner cs c.args.person z) c.args.reading _ c.in-Me.is
    (λ clean owner cs was. refl)

pub returns-in-Me-clause-closed : goal.returns-in-Me-clause-closed
returns-in-Me-clause-closed g c was = (
  shut_for (Ok (shown.Me (shown_person c.args.person))) (λ z owner cs. IsShownTo g.L.RequestList.holds owner cs c.args.person z) c.args.reading _ c.in-Me.is
      (inr (λ owner cs. refl)),
  refl,
)
