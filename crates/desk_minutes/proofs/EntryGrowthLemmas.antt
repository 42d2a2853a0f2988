-- The entries of dbx and of its form for shim, as a history goes on.
use Rattle.std.proofs.Common.{◌≡◌, ◌⊎◌, inl, inr, ℕ, Bool, true, false, not, ◌&&◌, ◌||◌, List, [], ◌∷◌, ◌++◌, map, refl, sym, ap, ap₂, subst, ◌∙◌, true≢false}
use Rattle.std.specs.Prelude.{bytes_eq, flat_map}
use Rattle.std.specs.List.{list_any}
use Rattle.std.proofs.lemmas.Bool.{or_cases, or_left, or_right}
use Rattle.std.proofs.lemmas.List.Elements.{filter_map-append}
use Rattle.std.proofs.lemmas.List.Folds.{list_any-append}
use Rattle.siglist.specs.Kinds.{sha256_kind, sha256_size, x509_kind, x509_sha256_kind, x509_sha256_size}
use Rattle.siglist.specs.SignatureLists.{Entry, SignatureList}
use Rattle.siglist.specs.Writing.{bare_row, digest_entry, entry_of, no_time, sha256_row, x509_row, x509_sha256_row}
use Rattle.desk_types.specs.Certificates.{WholeCertificate}
use Rattle.desk_types.specs.Naming.{certificate_listed}
use Rattle.desk_types.specs.declared.kind.ListedKind.{ListedKind}
use Rattle.desk_types.specs.declared.kind.ListedKind.TheVariants as kinds
use Rattle.desk_types.proofs.FormLemmas.{both, joined}
use Rattle.desk_history.specs.Calls.{History, Item, is_among}
use Rattle.desk_history.specs.Revocations.{is_revoked}
use Rattle.desk_history.proofs.ListLemmas.{any_after, any_of, bytes_eq-refl, or_mono, same_text}
use Rattle.desk_history.proofs.VerdictLemmas.{revoked_after}
use Rattle.desk_exports.specs.Bodies.{certificates_given, is_bodiless}
use Rattle.desk_exports.specs.Exports.{dbx_lists, revoked, revoked_bodies, revoked_bodiless, shim_lists}
use Rattle.desk_exports.proofs.OrderLemmas.{all_revoked}
use Rattle.desk_exports.proofs.ShimLemmas.{any_map, has_bodies, has_others}
use Rattle.desk_minutes.specs.Growth.{HasBody, HaveAll, ShimGrows, has_entry, is_same_entry}

-- ---- texts among others

-- a text among these that passes the test
pub record Passing (p : List ℕ → Bool) (texts : List (List ℕ)) : Type 0 where
  pub text : List ℕ
  pub among : is_among texts text ≡ true
  pub passes : p text ≡ true

pub passing : (p : List ℕ → Bool) (texts : List (List ℕ)) → list_any p texts ≡ true → Passing p texts
passing p [] h = absurd (true≢false (sym h))
passing p (t ∷ ts) h =
    elim (or_cases (p t) (list_any p ts) h) [
      | inl e ↦ record { text = t; among = or_left (bytes_eq t t) (is_among ts t) (bytes_eq-refl t); passes = e }
      | inr e ↦ let rest = passing p ts e in
          record { text = rest.text; among = or_right (bytes_eq rest.text t) (is_among ts rest.text) rest.among; passes = rest.passes }
    ]

pub passes_among : (p : List ℕ → Bool) (texts : List (List ℕ)) (text : List ℕ) → is_among texts text ≡ true → p text ≡ true → list_any p texts ≡ true
passes_among p texts text among h = any_of (bytes_eq text) p (λ t e. subst (λ u. p u ≡ true) (same_text text t e) h) texts among

-- each of the first texts is among the second
abbrev AreAmong : List (List ℕ) → List (List ℕ) → Type 0
AreAmong firsts others = (text : List ℕ) → is_among firsts text ≡ true → is_among others text ≡ true

passes_more : (p : List ℕ → Bool) (firsts others : List (List ℕ)) → AreAmong firsts others → list_any p firsts ≡ true → list_any p others ≡ true
passes_more p firsts others more h =
    let one = passing p firsts h in
    passes_among p others one.text (more one.text one.among) one.passes

-- ---- entries of rows

and_never : (b : Bool) → (b && false) ≡ false
and_never true = refl
and_never false = refl

or_never : (b : Bool) → (b || false) ≡ b
or_never true = refl
or_never false = refl

module _ (kind : List ℕ) (entry : Entry) where
  abbrev has : List SignatureList → Bool
  has lists = has_entry kind entry lists

  has_in_row : (k : List ℕ) (size : ℕ) (es : List Entry) → has (bare_row k size es) ≡ (bytes_eq kind k && list_any (is_same_entry entry) es)
  has_in_row k size [] = sym (and_never (bytes_eq kind k))
  has_in_row k size (e ∷ es) = or_never (bytes_eq kind k && list_any (is_same_entry entry) (e ∷ es))

  -- a row of entries of texts has one
  row_has : (k : List ℕ) (size : ℕ) (f : List ℕ → Entry) (texts : List (List ℕ)) → bytes_eq kind k ≡ true → list_any (λ t. is_same_entry entry (f t)) texts ≡ true
      → has (bare_row k size (map f texts)) ≡ true
  row_has k size f texts same h =
      has_in_row k size (map f texts)
      ∙ joined (bytes_eq kind k) (list_any (is_same_entry entry) (map f texts)) same (any_map (is_same_entry entry) f texts ∙ h)

  -- the text whose entry it is
  record InRow (k : List ℕ) (f : List ℕ → Entry) (texts : List (List ℕ)) : Type 0 where
    same : bytes_eq kind k ≡ true
    some : list_any (λ t. is_same_entry entry (f t)) texts ≡ true

  in_row : (k : List ℕ) (size : ℕ) (f : List ℕ → Entry) (texts : List (List ℕ)) → has (bare_row k size (map f texts)) ≡ true → InRow k f texts
  in_row k size f texts h =
      let parts = both (bytes_eq kind k) (list_any (is_same_entry entry) (map f texts)) (sym (has_in_row k size (map f texts)) ∙ h) in
      record { same = parts.0; some = sym (any_map (is_same_entry entry) f texts) ∙ parts.1 }

  row_grows : (k : List ℕ) (size : ℕ) (f : List ℕ → Entry) (firsts others : List (List ℕ)) → AreAmong firsts others
      → has (bare_row k size (map f firsts)) ≡ true → has (bare_row k size (map f others)) ≡ true
  row_grows k size f firsts others more h =
      let row = in_row k size f firsts h in
      row_has k size f others row.same (passes_more (λ t. is_same_entry entry (f t)) firsts others more row.some)

  flat_has : (f : List ℕ → List SignatureList) (texts : List (List ℕ)) → has (flat_map f texts) ≡ list_any (λ t. has (f t)) texts
  flat_has f [] = refl
  flat_has f (t ∷ ts) =
      list_any-append (λ (l : SignatureList). bytes_eq kind l.kind && list_any (is_same_entry entry) l.entries) (f t) (flat_map f ts)
      ∙ ap (λ b. has (f t) || b) (flat_has f ts)

  has-append : (xs ys : List SignatureList) → has (xs ++ ys) ≡ (has xs || has ys)
  has-append xs ys = list_any-append (λ (l : SignatureList). bytes_eq kind l.kind && list_any (is_same_entry entry) l.entries) xs ys

  in_front : (xs ys : List SignatureList) → has xs ≡ true → has (xs ++ ys) ≡ true
  in_front xs ys h = has-append xs ys ∙ or_left (has xs) (has ys) h

  in_back : (xs ys : List SignatureList) → has ys ≡ true → has (xs ++ ys) ≡ true
  in_back xs ys h = has-append xs ys ∙ or_right (has xs) (has ys) h

  both_grow : (xs ys vs ws : List SignatureList) → (has xs ≡ true → has vs ≡ true) → (has ys ≡ true → has ws ≡ true) → has (xs ++ ys) ≡ true → has (vs ++ ws) ≡ true
  both_grow xs ys vs ws f g h = has-append vs ws ∙ or_mono (has xs) (has ys) (has vs) (has ws) f g (sym (has-append xs ys) ∙ h)

-- ---- dbx

revoked_more : (kind : ListedKind) (cs new : History) → AreAmong (revoked kind cs) (revoked kind (new ++ cs))
revoked_more kind cs new text h =
    all_revoked kind (new ++ cs) text ∙ revoked_after kind cs new text (sym (all_revoked kind cs text) ∙ h)

module _ (owner : List ℕ) (cs new : History) where
  digests_grow : HaveAll (sha256_row owner (revoked kinds.Digest cs)) (sha256_row owner (revoked kinds.Digest (new ++ cs)))
  digests_grow kind entry h =
      row_grows kind entry sha256_kind sha256_size (entry_of owner) (revoked kinds.Digest cs) (revoked kinds.Digest (new ++ cs)) (revoked_more kinds.Digest cs new) h

  pub dbx_grows : HaveAll (dbx_lists owner cs) (dbx_lists owner (new ++ cs))
  dbx_grows kind entry h =
      both_grow kind entry (sha256_row owner (revoked kinds.Digest cs)) (x509_sha256_row owner (revoked kinds.Certificate cs))
      (sha256_row owner (revoked kinds.Digest (new ++ cs))) (x509_sha256_row owner (revoked kinds.Certificate (new ++ cs)))
      (digests_grow kind entry)
      (row_grows kind entry x509_sha256_kind x509_sha256_size (digest_entry owner no_time) (revoked kinds.Certificate cs) (revoked kinds.Certificate (new ++ cs)) (revoked_more kinds.Certificate cs new))
      h

-- ---- bodies of certificates

given_after : (p : WholeCertificate → Bool) (cs new : History) → list_any p (certificates_given cs) ≡ true → list_any p (certificates_given (new ++ cs)) ≡ true
given_after p cs new h =
    ap (list_any p) (filter_map-append (λ (i : Item). certificate_listed i.call.command) new cs) ∙ any_after p (certificates_given new) (certificates_given cs) h

bodies_more : (cs new : History) → AreAmong (revoked_bodies cs) (revoked_bodies (new ++ cs))
bodies_more cs new body h =
    let before : WholeCertificate → Bool = λ c. is_revoked kinds.Certificate cs c.tbs && bytes_eq body c.body in
    let after : WholeCertificate → Bool = λ c. is_revoked kinds.Certificate (new ++ cs) c.tbs && bytes_eq body c.body in
    has_bodies (new ++ cs) body ∙ any_of before after still (certificates_given (new ++ cs)) (given_after before cs new (sym (has_bodies cs body) ∙ h))
  where
    still : (c : WholeCertificate) → (is_revoked kinds.Certificate cs c.tbs && bytes_eq body c.body) ≡ true → (is_revoked kinds.Certificate (new ++ cs) c.tbs && bytes_eq body c.body) ≡ true
    still c e =
        let parts = both (is_revoked kinds.Certificate cs c.tbs) (bytes_eq body c.body) e in
        joined (is_revoked kinds.Certificate (new ++ cs) c.tbs) (bytes_eq body c.body) (revoked_after kinds.Certificate cs new c.tbs parts.0) parts.1

-- a certificate of this digest among these
record Given (tbs : List ℕ) (given : List WholeCertificate) : Type 0 where
  one : WholeCertificate
  of : bytes_eq tbs one.tbs ≡ true
  among : (p : WholeCertificate → Bool) → p one ≡ true → list_any p given ≡ true

one_given : (tbs : List ℕ) (given : List WholeCertificate) → list_any (λ (c : WholeCertificate). bytes_eq tbs c.tbs) given ≡ true → Given tbs given
one_given tbs [] h = absurd (true≢false (sym h))
one_given tbs (c ∷ given) h =
    elim (or_cases (bytes_eq tbs c.tbs) (list_any (λ (d : WholeCertificate). bytes_eq tbs d.tbs) given) h) [
      | inl e ↦ record { one = c; of = e; among = λ p k. or_left (p c) (list_any p given) k }
      | inr e ↦ let rest = one_given tbs given e in
          record { one = rest.one; of = rest.of; among = λ p k. or_right (p c) (list_any p given) (rest.among p k) }
    ]

same_entry : (a b : Entry) → is_same_entry a b ≡ true → a ≡ b
same_entry a b h =
    let parts = both (bytes_eq a.owner b.owner) (bytes_eq a.body b.body) h in
    ap₂ entry_of (same_text a.owner b.owner parts.0) (same_text a.body b.body parts.1)

-- ---- shim's form

module _ (owner : List ℕ) (cs : History) where
  -- the three parts of its lists
  abbrev of_digests : List SignatureList
  of_digests = sha256_row owner (revoked kinds.Digest cs)

  abbrev of_bodies : List SignatureList
  of_bodies = flat_map (x509_row owner) (revoked_bodies cs)

  abbrev of_others : List SignatureList
  of_others = x509_sha256_row owner (revoked_bodiless cs)

  has_body : (body : List ℕ) → is_among (revoked_bodies cs) body ≡ true → has_entry x509_kind (entry_of owner body) (shim_lists owner cs) ≡ true
  has_body body among =
      let entry = entry_of owner body in
      let same : is_same_entry entry entry ≡ true = joined (bytes_eq owner owner) (bytes_eq body body) (bytes_eq-refl owner) (bytes_eq-refl body) in
      let alone : has_entry x509_kind entry (x509_row owner body) ≡ true =
      or_left (bytes_eq x509_kind x509_kind && list_any (is_same_entry entry) (entry ∷ [])) false
      (joined (bytes_eq x509_kind x509_kind) (list_any (is_same_entry entry) (entry ∷ [])) (bytes_eq-refl x509_kind) (or_left (is_same_entry entry entry) false same)) in
      in_front x509_kind entry (of_digests ++ of_bodies) of_others (in_back x509_kind entry of_digests of_bodies
      (flat_has x509_kind entry (x509_row owner) (revoked_bodies cs) ∙ passes_among (λ b. has_entry x509_kind entry (x509_row owner b)) (revoked_bodies cs) body among alone))

  -- a revoked certificate of which a call gave a body
  body_of : (kind : List ℕ) (entry : Entry) (tbs : List ℕ) → bytes_eq kind x509_sha256_kind ≡ true → is_same_entry entry (digest_entry owner no_time tbs) ≡ true
      → is_revoked kinds.Certificate cs tbs ≡ true → is_bodiless cs tbs ≡ false → HasBody owner cs kind entry
  body_of kind entry tbs same is revoked_one some =
      let found = one_given tbs (certificates_given cs) (denied (list_any (λ (c : WholeCertificate). bytes_eq tbs c.tbs) (certificates_given cs)) some) in
      let text = found.one.body in
      let revoked_it = subst (λ t. is_revoked kinds.Certificate cs t ≡ true) (same_text tbs found.one.tbs found.of) revoked_one in
      record {
        tbs = tbs;
        body = text;
        by_digest = (same_text kind x509_sha256_kind same, same_entry entry (digest_entry owner no_time tbs) is);
        given = found.among (λ c. bytes_eq tbs c.tbs && bytes_eq text c.body) (joined (bytes_eq tbs found.one.tbs) (bytes_eq text text) found.of (bytes_eq-refl text));
        whole = has_body text (has_bodies cs text ∙ found.among (λ c. is_revoked kinds.Certificate cs c.tbs && bytes_eq text c.body)
            (joined (is_revoked kinds.Certificate cs found.one.tbs) (bytes_eq text text) revoked_it (bytes_eq-refl text)));
      }
    where
      denied : (b : Bool) → not b ≡ false → b ≡ true
      denied true h = refl
      denied false h = absurd (true≢false h)

module _ (owner : List ℕ) (cs new : History) where
  -- an entry of a certificate by its digest
  others_grow : (kind : List ℕ) (entry : Entry) → has_entry kind entry (of_others owner cs) ≡ true
      → (has_entry kind entry (shim_lists owner (new ++ cs)) ≡ true) ⊎ HasBody owner (new ++ cs) kind entry
  others_grow kind entry h =
      let row = in_row kind entry x509_sha256_kind x509_sha256_size (digest_entry owner no_time) (revoked_bodiless cs) h in
      let one = passing (λ t. is_same_entry entry (digest_entry owner no_time t)) (revoked_bodiless cs) row.some in
      let before = both (is_revoked kinds.Certificate cs one.text) (is_bodiless cs one.text) (sym (has_others cs one.text) ∙ one.among) in
      let still = revoked_after kinds.Certificate cs new one.text before.0 in
      elim (is_bodiless (new ++ cs) one.text) as (λ b. is_bodiless (new ++ cs) one.text ≡ b → ◌⊎◌ (has_entry kind entry (shim_lists owner (new ++ cs)) ≡ true) (HasBody owner (new ++ cs) kind entry)) [
        | true ↦ λ e. inl (in_back kind entry (of_digests owner (new ++ cs) ++ of_bodies owner (new ++ cs)) (of_others owner (new ++ cs))
            (row_has kind entry x509_sha256_kind x509_sha256_size (digest_entry owner no_time) (revoked_bodiless (new ++ cs)) row.same
            (passes_among (λ t. is_same_entry entry (digest_entry owner no_time t)) (revoked_bodiless (new ++ cs)) one.text
            (has_others (new ++ cs) one.text ∙ joined (is_revoked kinds.Certificate (new ++ cs) one.text) (is_bodiless (new ++ cs) one.text) still e) one.passes)))
        | false ↦ λ e. inr (body_of owner (new ++ cs) kind entry one.text row.same one.passes still e)
      ] refl

  bodies_grow : HaveAll (of_bodies owner cs) (of_bodies owner (new ++ cs))
  bodies_grow kind entry h =
      flat_has kind entry (x509_row owner) (revoked_bodies (new ++ cs))
      ∙ passes_more (λ b. has_entry kind entry (x509_row owner b)) (revoked_bodies cs) (revoked_bodies (new ++ cs)) (bodies_more cs new)
      (sym (flat_has kind entry (x509_row owner) (revoked_bodies cs)) ∙ h)

  pub shim_grows : ShimGrows owner cs (new ++ cs)
  shim_grows kind entry h =
      let parts : (has_entry kind entry (of_digests owner cs ++ of_bodies owner cs) || has_entry kind entry (of_others owner cs)) ≡ true =
      sym (has-append kind entry (of_digests owner cs ++ of_bodies owner cs) (of_others owner cs)) ∙ h in
      elim (or_cases (has_entry kind entry (of_digests owner cs ++ of_bodies owner cs)) (has_entry kind entry (of_others owner cs)) parts) [
        | inl e ↦ inl (in_front kind entry (of_digests owner (new ++ cs) ++ of_bodies owner (new ++ cs)) (of_others owner (new ++ cs))
            (both_grow kind entry (of_digests owner cs) (of_bodies owner cs) (of_digests owner (new ++ cs)) (of_bodies owner (new ++ cs)) (digests_grow owner cs new kind entry) (bodies_grow kind entry) e))
        | inr e ↦ others_grow kind entry e
      ]
