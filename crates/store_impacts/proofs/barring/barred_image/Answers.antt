use Rattle.std.proofs.Common.{◌≡◌, ◌∙◌, Some, None, rules, sym, arith}
use Rattle.sqlite.specs.Held.{state}
use Rattle.sqlite.specs.State.{HasCleanDisk}
use Rattle.desk_history.specs.declared.impact.BarredImage.{BarredImage}
use Rattle.store_impacts.specs.Barring.{AreFactsOf, Describes, IsBarred, finding_by}
use Rattle.store_impacts.proofs.BarLemmas.{shows_image, shows_none}
use Rattle.store_impacts.proofs.TellsLemmas.{of_so, of_then}
use Rattle.store_impacts.proofs.barring.barred_image.Goals as goal

pub returns-in_default-clause-value : goal.returns-in_default-clause-value
returns-in_default-clause-value g c clean inside =
    let entries = g.E.Standing.standing c.args.entries.now in
    let image = c.args.image in
    let facts = c.in_ok-facts.facts in
    let o = c.in_ok-found.field-0 in
    let s0 = state g.S.Store c.args.tx.now.conn.now in
    let s1 = state g.S.Store c.facts_of.new.tx.conn.now in
    let s2 = state g.S.Store c.finding_of.new.tx.conn.now in
    let c1 : HasCleanDisk s1 = omega (arith, c.in_ok-found.ensures.survives.clean, clean) in
    let a = c.in_ok-facts.ensures.value c1 inside in
    let b = c.in_ok-found.ensures.value clean a.kept.inside in
    let none : o ≡ None = search (rules, c.in_default.is) in
    of_so s0 s2 (λ cs. AreFactsOf image.call facts cs × (o ≡ finding_by entries cs facts)) (IsBarred entries image None)
    (λ cs both. shows_none entries cs facts image both.0 (sym none ∙ both.1))
    (of_then s0 s1 s2 (AreFactsOf image.call facts) (λ cs. o ≡ finding_by entries cs facts) a b)

pub returns-clause-value : goal.returns-clause-value
returns-clause-value g c clean inside =
    let entries = g.E.Standing.standing c.args.entries.now in
    let image = c.args.image in
    let facts = c.in_ok-facts.facts in
    let o = c.in_ok-found.field-0 in
    let found = c.in-Some.found in
    let row = c.in_ok-row.row in
    let s0 = state g.S.Store c.args.tx.now.conn.now in
    let s1 = state g.S.Store c.facts_of.new.tx.conn.now in
    let s2 = state g.S.Store c.finding_of.new.tx.conn.now in
    let s3 = state g.S.Store c.row_of.new.tx.conn.now in
    let c2 : HasCleanDisk s2 = omega (arith, c.in_ok-row.ensures.survives.clean, clean) in
    let c1 : HasCleanDisk s1 = omega (arith, c.in_ok-found.ensures.survives.clean, c2) in
    let a = c.in_ok-facts.ensures.value c1 inside in
    let b = c.in_ok-found.ensures.value c2 a.kept.inside in
    let d = c.in_ok-row.ensures.value clean b.kept.inside in
    let some : o ≡ Some found = search (rules, c.in-Some.is) in
    let shown : BarredImage =
    record { request = image.request; file = image.file; state = row.state; submitter = row.submitter; title = row.title; is_allowed = found.is_allowed; rule = found.rule } in
    of_so s0 s3 (λ cs. (AreFactsOf image.call facts cs × (o ≡ finding_by entries cs facts)) × Describes cs image.request row) (IsBarred entries image (Some shown))
    (λ cs all. shows_image entries cs facts image all.0.0 found (sym some ∙ all.0.1) row all.1)
    (of_then s0 s2 s3 (λ cs. AreFactsOf image.call facts cs × (o ≡ finding_by entries cs facts)) (λ cs. Describes cs image.request row)
    (of_then s0 s1 s2 (AreFactsOf image.call facts) (λ cs. o ≡ finding_by entries cs facts) a b) d)
