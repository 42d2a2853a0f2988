use Rattle.std.proofs.Common.{decimal, ap, refl, ◌∙◌}
use Rattle.std.proofs.lemmas.Option.{slice_get_past, slice_get_read}
use Rattle.cli_output.proofs.LineLemmas.{OnErr-same, OnOk-same, below_none, below_some}
use Rattle.cli_output.proofs.verdict_lines.put_below.Goals as goal

pub returns-in-None-clause-ok : goal.returns-in-None-clause-ok
returns-in-None-clause-ok g c =
    let needs = c.as_bytes-needs.ensures.value ∙ c.format.ensures.text ∙ ap decimal c.value.ensures.value in
    OnOk-same _ _ _ _ _ (below_none _ _ _ (slice_get_past _ _ c.in-None.ensures.lookup.3) needs) c.put_each.ensures.ok

pub returns-in-None-clause-err : goal.returns-in-None-clause-err
returns-in-None-clause-err g c =
    let needs = c.as_bytes-needs.ensures.value ∙ c.format.ensures.text ∙ ap decimal c.value.ensures.value in
    OnErr-same _ _ _ _ _ (below_none _ _ _ (slice_get_past _ _ c.in-None.ensures.lookup.3) needs) c.put_each.ensures.err

pub returns-in-Some-clause-ok : goal.returns-in-Some-clause-ok
returns-in-Some-clause-ok g c =
    let found = c.in-Some.ensures.lookup in
    let name = c.as_bytes-name.ensures.value ∙ c.as_str.ensures.value in
    let has = c.as_bytes-has.ensures.value ∙ c.format-in-Some.ensures.text ∙ ap decimal c.value-in-Some.ensures.value in
    let needs = c.as_bytes-needs.ensures.value ∙ c.format.ensures.text ∙ ap decimal c.value.ensures.value in
    OnOk-same _ _ _ _ _ (below_some _ c.in-Some.component.now _ _ _ _ (slice_get_read _ _ _ _ refl found.3.0 found.1) name has needs) c.put_each-in-Some.ensures.ok

pub returns-in-Some-clause-err : goal.returns-in-Some-clause-err
returns-in-Some-clause-err g c =
    let found = c.in-Some.ensures.lookup in
    let name = c.as_bytes-name.ensures.value ∙ c.as_str.ensures.value in
    let has = c.as_bytes-has.ensures.value ∙ c.format-in-Some.ensures.text ∙ ap decimal c.value-in-Some.ensures.value in
    let needs = c.as_bytes-needs.ensures.value ∙ c.format.ensures.text ∙ ap decimal c.value.ensures.value in
    OnErr-same _ _ _ _ _ (below_some _ c.in-Some.component.now _ _ _ _ (slice_get_read _ _ _ _ refl found.3.0 found.1) name has needs) c.put_each-in-Some.ensures.err
