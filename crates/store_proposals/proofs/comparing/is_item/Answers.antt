use Rattle.std.proofs.Common.{◌≡◌, ◌<◌, ◌≤◌, ◌-◌, Some, get_or, length, sym, ap, subst, ◌∙◌, arith}
use Rattle.desk_history.specs.declared.rows.ProposalItem.TheVariants as items
use Rattle.store_proposals.proofs.CompareLemmas.{certificate_at, component_at, digest_at, same_bytes, same_component}
use Rattle.store_proposals.proofs.comparing.is_item.Goals as goal

pub returns-in-Digest : goal.returns-in-Digest
returns-in-Digest c same =
    let i = c.args.named.now in
    let p = c.args.place in
    let d = c.index-digests-place.result in
    let digests : c.as_slice-digests.result.now ≡ i.digests = c.as_slice-digests.ensures.value ∙ c.digests.ensures in
    let low : p < length i.digests = subst (λ l. p < length l) digests c.if-place-digests.true in
    let there : d ≡ get_or i.digests p d = subst (λ l. d ≡ get_or l p d) digests c.index-digests-place.is in
    digest_at i p d low there ∙ ap (λ x. Some (items.Digest x)) (same_bytes d c.in-Digest.digest (sym c.eq.ensures ∙ same)) ∙ ap Some (sym c.in-Digest.is)

pub returns-in-Certificate-item : goal.returns-in-Certificate-item
returns-in-Certificate-item c same =
    let i = c.args.named.now in
    let p = c.args.place in
    let n = p - length i.digests in
    let d = c.index-certificates-later.result in
    let digests : c.as_slice-digests.result.now ≡ i.digests = c.as_slice-digests.ensures.value ∙ c.digests.ensures in
    let certificates : c.as_slice-certificates.result.now ≡ i.certificates = c.as_slice-certificates.ensures.value ∙ c.certificates.ensures in
    let high : length i.digests ≤ p = subst (λ l. length l ≤ p) digests c.if-place-digests.false in
    let low : n < length i.certificates = subst (λ l. p - length l < length i.certificates) digests (subst (λ l. p - length c.as_slice-digests.result.now < length l) certificates c.if-later-certificates.true) in
    let there : d ≡ get_or i.certificates n d =
    subst (λ l. d ≡ get_or i.certificates (p - length l) d) digests (subst (λ l. d ≡ get_or l (p - length c.as_slice-digests.result.now) d) certificates c.index-certificates-later.is) in
    certificate_at i p n d (omega (arith, high)) low there
    ∙ ap (λ x. Some (items.Certificate x)) (same_bytes d c.in-Certificate-item.digest (sym c.eq-in-Certificate-item.ensures ∙ same)) ∙ ap Some (sym c.in-Certificate-item.is)

pub returns-in-Component-item-2 : goal.returns-in-Component-item-2
returns-in-Component-item-2 c same =
    let i = c.args.named.now in
    let p = c.args.place in
    let n = p - length i.digests in
    let m = n - length i.certificates in
    let x = c.index-components-last.result in
    let digests : c.as_slice-digests.result.now ≡ i.digests = c.as_slice-digests.ensures.value ∙ c.digests.ensures in
    let certificates : c.as_slice-certificates.result.now ≡ i.certificates = c.as_slice-certificates.ensures.value ∙ c.certificates.ensures in
    let components : c.as_slice-components.result.now ≡ i.components = c.as_slice-components.ensures.value ∙ c.components.ensures in
    let high : length i.digests ≤ p = subst (λ l. length l ≤ p) digests c.if-place-digests.false in
    let more : length i.certificates ≤ n = subst (λ l. length i.certificates ≤ p - length l) digests (subst (λ l. length l ≤ p - length c.as_slice-digests.result.now) certificates c.if-later-certificates.false) in
    let low : m < length i.components =
    subst (λ l. m < length l) components (subst (λ l. n - length l < length c.as_slice-components.result.now) certificates
    (subst (λ l. p - length l - length c.as_slice-certificates.result.now < length c.as_slice-components.result.now) digests c.if-last-components.true)) in
    let there : x ≡ get_or i.components m x =
    subst (λ l. x ≡ get_or l m x) components (subst (λ l. x ≡ get_or c.as_slice-components.result.now (n - length l) x) certificates
    (subst (λ l. x ≡ get_or c.as_slice-components.result.now (p - length l - length c.as_slice-certificates.result.now) x) digests c.index-components-last.is)) in
    component_at i p n m x (omega (arith, high)) (omega (arith, more)) low there
    ∙ ap (λ y. Some (items.Component y)) (same_component x c.in-Component-item-2.component (sym c.eq-in-Component-item-2.ensures ∙ same)) ∙ ap Some (sym c.in-Component-item-2.is)
