-- The TBSCertificate read from bytes, against the definition of a certificate.
use Rattle.std.proofs.Common.{◌≡◌, ℕ, eqb, cond, Bool, true, false, ◌&&◌, List, [], length, Option, Some, None, refl, arith}
use Rattle.std.proofs.lemmas.Bool.Decides.{nat_tests}
use Rattle.std.proofs.lemmas.List.{nil_from_length}
use Rattle.base.specs.Elements.{IsCertificate}
use Rattle.base.specs.Parts.{Part, element_of}
use Rattle.base.proofs.ElementLemmas.{certificate_of, inner_is, no_inner, no_outer, outer_is, some_same}
use Rattle.desk_inputs.specs.imports.FromLists.{first_in, tbs_in, tbs_of}

-- the TBSCertificate of a certificate is read
first_is : (b t : List ℕ) (p : Part) (o : Option Part) → IsCertificate b t → element_of b ≡ Some p → element_of p.content ≡ o → first_in o ≡ Some t
first_is b t p None h e n = absurd (no_inner b t p h e n)
first_is b t p (Some q) h e n =
    let inner = inner_is b t p q h e n in
    let tag : eqb q.tag 48 ≡ true = let is = inner.0 in grind (arith, nat_tests, is) in
    rw (tag, inner.1) refl

tbs_is : (b t : List ℕ) (o : Option Part) → IsCertificate b t → element_of b ≡ o → tbs_in o ≡ Some t
tbs_is b t None h e = absurd (no_outer b t h e)
tbs_is b t (Some p) h e =
    let outer = outer_is b t p h e in
    let tag : eqb p.tag 48 ≡ true = let is = outer.tag in grind (arith, nat_tests, is) in
    rw (tag, outer.rest) (first_is b t p (element_of p.content) h e refl)

pub tbs_of-each : (b t : List ℕ) → IsCertificate b t → tbs_of b ≡ Some t
unfolding tbs_of
tbs_of-each b t h = tbs_is b t (element_of b) h refl

-- the TBSCertificate that is read is that of a certificate
first_found : (b t : List ℕ) (p : Part) (o : Option Part) → element_of b ≡ Some p → p.tag ≡ 48 → p.rest ≡ [] → element_of p.content ≡ o → first_in o ≡ Some t → IsCertificate b t
first_found b t p None e tag rest n h = absurd (cc)
first_found b t p (Some q) e tag rest n h = by (eqb q.tag 48) refl h
  where
    by : (c : Bool) → eqb q.tag 48 ≡ c → cond c (Some q.whole) None ≡ Some t → IsCertificate b t
    by true is same = rw (← some_same q.whole t same) (certificate_of b p q e tag rest n (grind (arith, nat_tests, is)))
    by false is same = absurd (cc)

tbs_found : (b t : List ℕ) (o : Option Part) → element_of b ≡ o → tbs_in o ≡ Some t → IsCertificate b t
tbs_found b t None e h = absurd (cc)
tbs_found b t (Some p) e h = by (eqb p.tag 48) (eqb (length p.rest) 0) refl refl h
  where
    by : (c d : Bool) → eqb p.tag 48 ≡ c → eqb (length p.rest) 0 ≡ d → cond (c && d) (first_in (element_of p.content)) None ≡ Some t → IsCertificate b t
    by true true tag rest same = first_found b t p (element_of p.content) e (grind (arith, nat_tests, tag)) (nil_from_length p.rest (grind (arith, nat_tests, rest))) refl same
    by true false tag rest same = absurd (cc)
    by false d tag rest same = absurd (cc)

pub tbs_of-found : (b t : List ℕ) → tbs_of b ≡ Some t → IsCertificate b t
unfolding tbs_of
tbs_of-found b t h = tbs_found b t (element_of b) refl h

-- nothing is read where there is no certificate
pub tbs_of-none : (b : List ℕ) → ((t : List ℕ) → IsCertificate b t → ⊥) → tbs_of b ≡ None
tbs_of-none b never = by (tbs_of b) refl
  where
    by : (o : Option (List ℕ)) → tbs_of b ≡ o → tbs_of b ≡ None
    by None e = e
    by (Some t) e = absurd (never t (tbs_of-found b t e))
