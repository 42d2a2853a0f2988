-- Bodies read part by part, and as nested elements.
use Rattle.std.proofs.Common.{◌≡◌, ℕ, eqb, true, List, [], ◌++◌, Option, Some, None, refl, sym, ap, ◌∙◌, subst, inl, inr, arith}
use Rattle.std.proofs.lemmas.Bool.Decides.{nat_tests}
use Rattle.base.specs.Elements.{IsElement, sequence}
use Rattle.base.specs.Parts.{Part, element_of}
use Rattle.base.proofs.ElementLemmas.{chosen, element_of-each, element_of-some, some_same}
use Rattle.authenticode.specs.Bodies.{Begins, HoldsCertificates, HoldsSet}
use Rattle.base.specs.Lines.{begins_with}
use Rattle.authenticode.specs.SignedData.{◌>>=◌, certificate_set, certificates_of, first_own, integer, object_identifier, set, tagged, with_tag}

bind-some : {A B : Type 0} (o : Option A) (f : A → Option B) (y : B) → (o >>= f) ≡ Some y → (x : A) × (o ≡ Some x) × (f x ≡ Some y)
bind-some None f y h = absurd (cc)
bind-some (Some x) f y h = (x, refl, h)

with_tag-some : (tag : ℕ) (q p : Part) → with_tag tag q ≡ Some p → (q ≡ p) × (q.tag ≡ tag)
with_tag-some tag q p h = elim (chosen (eqb q.tag tag) _ _ _ h) [
  | inl t ↦ (some_same q p t.1, let e = t.0 in grind (arith, nat_tests))
  | inr t ↦ absurd (let e = t.1 in cc)
]

tagged-found : (tag : ℕ) (b : List ℕ) (p : Part) → tagged tag b ≡ Some p → Begins tag p.content p.rest b
unfolding tagged
tagged-found tag b p h =
    let (q, stands, same) = bind-some (element_of b) (with_tag tag) p h in
    let (is, kind) = with_tag-some tag q p same in
    let element = element_of-some b p (stands ∙ ap Some is) in
    let tag_is : p.tag ≡ tag = sym (ap (λ (r : Part). r.tag) is) ∙ kind in
    record { whole = p.whole; element = subst (λ t. IsElement t p.content p.whole) tag_is element.element; is = element.is }

tagged-each : (tag : ℕ) (content rest b : List ℕ) (h : Begins tag content rest b)
    → tagged tag b ≡ Some (record { tag = tag; content = content; whole = h.whole; rest = rest })
unfolding tagged
tagged-each tag content rest b h =
    let stands = element_of-each b (record { tag = tag; content = content; whole = h.whole; rest = rest }) h.element h.is in
    let same : eqb tag tag ≡ true = grind (arith, nat_tests) in
    rw (stands, same) refl

set-found : (b row : List ℕ) → certificate_set b ≡ Some row → HoldsSet b row
unfolding certificate_set
set-found b row h = elim (chosen (begins_with first_own b) _ _ _ h) [
  | inl t ↦
      let (c, stands, same) = bind-some (tagged first_own b) _ row t.1 in
      inl (c.rest, subst (λ r. Begins first_own r c.rest b) (some_same c.content row same) (tagged-found first_own b c stands))
  | inr t ↦ inr (t.0, sym (some_same [] row t.1))
]

set-each : (b row : List ℕ) → HoldsSet b row → certificate_set b ≡ Some row
unfolding certificate_set
set-each b row (inl (rest, h)) =
    let front : begins_with first_own b ≡ true = ap (begins_with first_own) (h.is ∙ ap (λ w. w ++ rest) h.element.is) in
    rw (front, tagged-each first_own row rest b h) refl
set-each b row (inr (none, is)) = rw (none, is) refl

-- a row that is found in a body is one that the body holds
pub certificates-found : (body row : List ℕ) → certificates_of body ≡ Some row → HoldsCertificates body row
unfolding certificates_of
certificates-found body row h =
    let (info, info_stands, h1) = bind-some (tagged sequence body) _ row h in
    let (kind, kind_stands, h2) = bind-some (tagged object_identifier info.content) _ row h1 in
    let (content, content_stands, h3) = bind-some (tagged first_own kind.rest) _ row h2 in
    let (signed, signed_stands, h4) = bind-some (tagged sequence content.content) _ row h3 in
    let (version, version_stands, h5) = bind-some (tagged integer signed.content) _ row h4 in
    let (digests, digests_stand, h6) = bind-some (tagged set version.rest) _ row h5 in
    let (inner, inner_stands, h7) = bind-some (tagged sequence digests.rest) _ row h6 in
    record {
      info = info.content;
      after_body = info.rest;
      kind = kind.content;
      after_kind = kind.rest;
      content = content.content;
      after_content = content.rest;
      signed = signed.content;
      after_signed = signed.rest;
      body_stands = tagged-found sequence body info info_stands;
      kind_stands = tagged-found object_identifier info.content kind kind_stands;
      content_stands = tagged-found first_own kind.rest content content_stands;
      signed_stands = tagged-found sequence content.content signed signed_stands;
      holds = record {
        version = version.content;
        after_version = version.rest;
        digests = digests.content;
        after_digests = digests.rest;
        info = inner.content;
        after_info = inner.rest;
        version_stands = tagged-found integer signed.content version version_stands;
        digests_stand = tagged-found set version.rest digests digests_stand;
        info_stands = tagged-found sequence digests.rest inner inner_stands;
        certificates = set-found inner.rest row h7;
      };
    }

-- the row that a body holds is found in it
pub certificates-each : (body row : List ℕ) → HoldsCertificates body row → certificates_of body ≡ Some row
unfolding certificates_of
certificates-each body row h =
    let r = h.holds in
    rw (
      tagged-each sequence h.info h.after_body body h.body_stands,
      tagged-each object_identifier h.kind h.after_kind h.info h.kind_stands,
      tagged-each first_own h.content h.after_content h.after_kind h.content_stands,
      tagged-each sequence h.signed h.after_signed h.content h.signed_stands,
      tagged-each integer r.version r.after_version h.signed r.version_stands,
      tagged-each set r.digests r.after_digests r.after_version r.digests_stand,
      tagged-each sequence r.info r.after_info r.after_digests r.info_stands,
    )
    (set-each r.after_info row r.certificates)
