use Rattle.std.proofs.Common.{◌∙◌, sym}
use Rattle.http_responses.specs.declared.outage.Outage.TheVariants as outage
use Rattle.http_calls.proofs.MatchLemmas.{differs_given, differs_outage, differs_shut, outage_differs}
use Rattle.http_calls.proofs.matching.is_mismatch.Goals as goal

pub returns-clause-given : goal.returns-clause-given
returns-clause-given g c = λ clean.
    differs_given c.args.call.now c.in-Some.tag c.in-Some-subject_of.subject c.in-Some.is (sym c.subject_of.ensures ∙ c.in-Some-subject_of.is) (g.D.AnswersCalls.shows c.args.desk.now)
    c.tag_shown.result c.differs.result c.differs.ensures (c.tag_shown.ensures.given clean)

pub returns-clause-same : goal.returns-clause-same
returns-clause-same g c = λ clean no.
    c.tag_shown.ensures.same clean (λ e. no (outage_differs c.in-Some.tag c.tag_shown.result c.differs.result outage.Store c.differs.ensures e))

pub returns-clause-usable : goal.returns-clause-usable
returns-clause-usable g c = λ owner cs was e.
    c.tag_shown.ensures.usable owner cs was (differs_outage c.in-Some.tag c.tag_shown.result c.differs.result outage.Reopen c.differs.ensures e)

pub returns-clause-poisons : goal.returns-clause-poisons
returns-clause-poisons g c = λ e.
    c.tag_shown.ensures.poisons (differs_outage c.in-Some.tag c.tag_shown.result c.differs.result outage.Store c.differs.ensures e)

pub returns-clause-closed : goal.returns-clause-closed
returns-clause-closed g c was =
    let shut = c.tag_shown.ensures.closed was in
    (shut.0, differs_shut c.args.call.now c.in-Some.tag c.in-Some-subject_of.subject c.in-Some.is (sym c.subject_of.ensures ∙ c.in-Some-subject_of.is) c.tag_shown.result c.differs.result c.differs.ensures shut.1)

pub returns-clause-named : goal.returns-clause-named
returns-clause-named g c = λ e.
    c.tag_shown.ensures.named (differs_outage c.in-Some.tag c.tag_shown.result c.differs.result outage.NotADesk c.differs.ensures e)
