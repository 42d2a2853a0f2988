use Rattle.std.proofs.Common.{◌∙◌, subst}
use Rattle.base.specs.Digests.{IsArranged}
use Rattle.store_decision_rows.specs.lists.Gathering.{barring_keys}
use Rattle.store_decision_rows.specs.lists.Lists.{HoldsNoOther}
use Rattle.desk_rules.specs.Views.{ShowsLists}
use Rattle.store_decision_rows.proofs.OrderLemmas.{arranged_as, entries, holds_named, shows_named}
use Rattle.store_decision_rows.proofs.lists.naming.import_view.Goals as goal

pub returns-clause-value : goal.returns-clause-value
returns-clause-value g c clean inside =
    let v = c.in_ok-view.view in
    let i = c.args.import.now in
    let first : IsArranged i.digests c.deref.result.now = arranged_as _ _ _ _ (c.as_slice.ensures.value ∙ c.digests.ensures) c.deref.ensures.value c.in_ok-images.ensures.arranged in
    let second : IsArranged i.certificates c.deref-2.result.now = arranged_as _ _ _ _ (c.as_slice-2.ensures.value ∙ c.certificates.ensures) c.deref-2.ensures.value c.in_ok-certificates.ensures.arranged in
    let told = c.in_ok-view.ensures.value clean inside in
    record {
      kept = told.kept;
      tells = λ t sees. shows_named v i.components c.deref.result.now c.deref-2.result.now i.digests i.certificates first second t
          (subst (λ n. ShowsLists v t (barring_keys (entries c.deref.result.now c.deref-2.result.now) n))
          (c.as_slice-3.ensures.value ∙ c.components.ensures) (told.tells t sees));
    }

pub returns-clause-only : goal.returns-clause-only
returns-clause-only g c =
    let v = c.in_ok-view.view in
    let i = c.args.import.now in
    let first : IsArranged i.digests c.deref.result.now = arranged_as _ _ _ _ (c.as_slice.ensures.value ∙ c.digests.ensures) c.deref.ensures.value c.in_ok-images.ensures.arranged in
    let second : IsArranged i.certificates c.deref-2.result.now = arranged_as _ _ _ _ (c.as_slice-2.ensures.value ∙ c.certificates.ensures) c.deref-2.ensures.value c.in_ok-certificates.ensures.arranged in
    holds_named v i.components c.deref.result.now c.deref-2.result.now i.digests i.certificates first second
    (subst (λ n. HoldsNoOther v (barring_keys (entries c.deref.result.now c.deref-2.result.now) n))
    (c.as_slice-3.ensures.value ∙ c.components.ensures) c.in_ok-view.ensures.only)
