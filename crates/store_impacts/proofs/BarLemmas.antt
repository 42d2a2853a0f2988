-- What is found of an image, from a view of its keys and from the entries.
use Rattle.std.proofs.Common.{◌≡◌, ℕ, Bool, true, false, List, [], Option, Some, None, option_map, refl, sym, ap, ap₂, subst, ◌∙◌}
use Rattle.std.specs.Prelude.{if◌then◌else◌}
use Rattle.std.specs.List.{Contains}
use Rattle.desk_types.specs.declared.facts.Facts.{Facts}
use Rattle.desk_history.specs.Calls.{History}
use Rattle.desk_history.specs.Images.{Image}
use Rattle.desk_history.specs.Impact.{allows, first_rule, newly_barred_by}
use Rattle.desk_history.specs.ImpactShown.{shown_barred}
use Rattle.desk_history.specs.Tables.{tables}
use Rattle.desk_history.specs.Verdicts.{Standing, bars, is_barred, standing, verdict}
use Rattle.desk_history.specs.declared.finding.Verdict.{Verdict}
use Rattle.desk_history.specs.declared.impact.BarredImage.{BarredImage}
use Rattle.desk_history.specs.declared.impact.Rule.{Rule}
use Rattle.desk_history.specs.declared.rows.RequestRow.{RequestRow}
use Rattle.desk_rules.specs.Views.{SaysVerdict, ShowsLists, keys_of, seen_standing}
use Rattle.desk_rules.specs.declared.list_view.ListView.{ListView}
use Rattle.desk_rules.proofs.StandingLemmas.{bars_alike, bars_so}
use Rattle.store_impacts.specs.Barring.{AreFactsOf, Describes, IsBarred, barred_by, finding_by, rule_by}
use Rattle.store_impacts.specs.Touching.{Brought, brought, kept}
use Rattle.store_impacts.specs.declared.barring.Finding.{Finding}
use Rattle.store_impacts.specs.declared.touched_image.TouchedImage.{TouchedImage}

module _ (entries : Standing) (view : ListView) (x : Facts) (owner : List ℕ) (cs : History) (shown : ShowsLists view (tables owner cs) (keys_of x)) where
  -- the view bars the image exactly where it is barred
  barred_is : bars (seen_standing view) x ≡ is_barred cs x
  barred_is = bars_alike (seen_standing view) (standing cs) x (bars_so view owner cs (keys_of x) shown)

  pub finds_barred : bars (seen_standing view) x ≡ true → None ≡ finding_by entries cs x
  finds_barred is =
      ap (λ b. option_map (λ rule. record { is_allowed = allows (verdict cs x); rule = rule }) (if b then None else first_rule entries x)) (sym (sym barred_is ∙ is))

  free : bars (seen_standing view) x ≡ false → (o : Option Rule) → first_rule entries x ≡ o → rule_by entries cs x ≡ o
  free is o rule = ap (λ b. if b then None else first_rule entries x) (sym barred_is ∙ is) ∙ rule

  pub finds_none : bars (seen_standing view) x ≡ false → None ≡ first_rule entries x → None ≡ finding_by entries cs x
  finds_none is none = ap (option_map (λ rule. record { is_allowed = allows (verdict cs x); rule = rule })) (sym (free is None (sym none)))

  pub finds_rule : bars (seen_standing view) x ≡ false → (said : Verdict) → SaysVerdict view x said → (rule : Rule) → Some rule ≡ first_rule entries x
      → Some (record { is_allowed = allows said; rule = rule }) ≡ finding_by entries cs x
  finds_rule is said says rule some =
      ap (λ v. Some (record { is_allowed = allows v; rule = rule })) (says owner cs shown)
      ∙ ap (option_map (λ rule. record { is_allowed = allows (verdict cs x); rule = rule })) (sym (free is (Some rule) (sym some)))

-- ---- an image as it is shown

abbrev found_by : Bool → Rule → Finding
found_by allowed rule = record { is_allowed = allowed; rule = rule }

no_rule : (allowed : Bool) (o : Option Rule) → None ≡ option_map (found_by allowed) o → o ≡ None
no_rule allowed None h = refl
no_rule allowed (Some rule) h = absurd cc

record HasRule (allowed : Bool) (o : Option Rule) (f : Finding) : Type 0 where
  allows : f.is_allowed ≡ allowed
  is : o ≡ Some f.rule

some_rule : (allowed : Bool) (o : Option Rule) (f : Finding) → Some f ≡ option_map (found_by allowed) o → HasRule allowed o f
some_rule allowed None f h = absurd cc
some_rule allowed (Some rule) f h =
    let same : f ≡ found_by allowed rule = cc in
    record { allows = ap (λ (x : Finding). x.is_allowed) same; is = ap (λ (x : Finding). Some x.rule) (sym same) }

module _ (entries : Standing) (cs : History) (facts : Facts) (image : TouchedImage) (are : AreFactsOf image.call facts cs) where
  same_facts : (b : Brought) → Contains (brought cs) b → kept b ≡ image → facts ≡ b.image.facts
  same_facts b has is = are b has (ap (λ (t : TouchedImage). t.call) is)

  pub shows_none : None ≡ finding_by entries cs facts → IsBarred entries image None cs
  shows_none none b has is =
      let no : rule_by entries cs facts ≡ None = no_rule (allows (verdict cs facts)) (rule_by entries cs facts) none in
      let here : rule_by entries cs b.image.facts ≡ None = ap (rule_by entries cs) (sym (same_facts b has is)) ∙ no in
      ap (option_map (λ rule. shown_barred (newly_barred_by cs b.image rule))) (sym here)

  pub shows_image : (f : Finding) → Some f ≡ finding_by entries cs facts → (row : RequestRow) → Describes cs image.request row
      → IsBarred entries image
      (Some (record { request = image.request; file = image.file; state = row.state; submitter = row.submitter; title = row.title; is_allowed = f.is_allowed; rule = f.rule })) cs
  shows_image f found row of_it b has is =
      let it = some_rule (allows (verdict cs facts)) (rule_by entries cs facts) f found in
      let here : rule_by entries cs b.image.facts ≡ Some f.rule = ap (rule_by entries cs) (sym (same_facts b has is)) ∙ it.is in
      let allowed : f.is_allowed ≡ allows (verdict cs b.image.facts) = it.allows ∙ ap (λ x. allows (verdict cs x)) (same_facts b has is) in
      let request : image.request ≡ b.image.request = ap (λ (t : TouchedImage). t.request) (sym is) in
      let file : image.file ≡ b.image.file = ap (λ (t : TouchedImage). t.file) (sym is) in
      let row_is : Describes cs b.image.request row = subst (λ k. Describes cs k row) request of_it in
      let shown : BarredImage = shown_barred (newly_barred_by cs b.image f.rule) in
      let same : record { request = image.request; file = image.file; state = row.state; submitter = row.submitter; title = row.title; is_allowed = f.is_allowed; rule = f.rule } ≡ shown =
      ap₂ (λ r k. record { request = r; file = k; state = row.state; submitter = row.submitter; title = row.title; is_allowed = f.is_allowed; rule = f.rule }) request file
      ∙ ap₂ (λ s n. record shown { state = s; submitter = n; title = row.title; is_allowed = f.is_allowed }) row_is.state row_is.submitter
      ∙ ap₂ (λ t a. record shown { title = t; is_allowed = a }) row_is.title allowed in
      ap Some same ∙ ap (option_map (λ rule. shown_barred (newly_barred_by cs b.image rule))) (sym here)
