-- Elements read and spelt.
use Rattle.std.proofs.Common.{◌≡◌, ◌⊎◌, ℕ, suc, ◌+◌, ◌-◌, ◌%◌, ◌<◌, ◌≤◌, eqb, ltb, cond, Bool, true, false, ◌||◌, List, [], ◌∷◌, ◌++◌, length, take, drop, Option, Some, None, refl, sym, ap, ◌∙◌, subst, append_assoc, append-nil, inl, inr, arith}
use Rattle.std.proofs.lemmas.Bool.Decides.{nat_tests}
use Rattle.std.proofs.lemmas.List.{take_at, drop_at, length-take-le, length-drop, length-append, take-append-drop}
use Rattle.std.proofs.Math.Seq.{take-append-add}
use Rattle.base.specs.Elements.{IsElement, IsLengthForm, IsCertificate, number_of, sequence}
use Rattle.base.specs.Parts.{Part, form_of, cut_of, cut_where, element_of}

pub chosen : {A : Type 0} (c : Bool) (x y z : A) → cond c x y ≡ z → ((c ≡ true) × (x ≡ z)) ⊎ ((c ≡ false) × (y ≡ z))
chosen true x y z h = inl (refl, h)
chosen false x y z h = inr (refl, h)

pub some_same : {A : Type 0} (x y : A) → Some x ≡ Some y → x ≡ y
some_same x y h = cc

-- a length form that was read
pub record ReadsForm (bs : List ℕ) (k n : ℕ) : Type 0 where
  pub fits : k ≤ length bs
  pub form : IsLengthForm (take k bs) n

two : (k n l m : ℕ) → ◌≡◌ {A = Option (ℕ × ℕ)} (Some (k, n)) (Some (l, m)) → (k ≡ l) × (n ≡ m)
two k n l m h = let p = some_same (k, n) (l, m) h in (ap (λ (x : ℕ × ℕ). x.0) p, ap (λ (x : ℕ × ℕ). x.1) p)

pub form_of-some : (bs : List ℕ) (k n : ℕ) → form_of bs ≡ Some (k, n) → ReadsForm bs k n
unfolding form_of
form_of-some [] k n h = absurd (cc)
form_of-some (b ∷ bs) k n h = elim (chosen (ltb b 128) _ _ _ h) [
  | inl p ↦ let e = two _ _ _ _ p.1 in let low : b < 128 = grind (arith, nat_tests, p.0) in
      subst (λ j. ReadsForm (b ∷ bs) j n) e.0 (record { fits = omega arith; form = inl (low, refl, sym e.1) })
  | inr p ↦ elim (chosen (ltb b 129 || ltb 132 b) _ _ _ p.1) [
    | inl q ↦ absurd (cc)
    | inr q ↦ elim (chosen (ltb (length bs) (b - 128)) _ _ _ q.1) [
      | inl r ↦ absurd (cc)
      | inr r ↦
          let e = two _ _ _ _ r.1 in
          let above : (128 < b) × (b < 133) = (grind (arith, nat_tests, q.0), grind (arith, nat_tests, q.0)) in
          let room : b - 128 ≤ length bs = grind (arith, nat_tests, r.0) in
          let count = length-take-le (b - 128) bs room in
          let up : suc (b - 128) ≡ b - 128 + 1 = omega arith in
          subst (λ j. ReadsForm (b ∷ bs) j n) (up ∙ e.0) (record { fits = omega arith; form = inr (above.0, above.1, count, sym e.1) })
    ]
  ]
]

short_form : (b : ℕ) (x : List ℕ) → b < 128 → form_of (b ∷ x) ≡ Some (1, b)
unfolding form_of
short_form b x l = let t : ltb b 128 ≡ true = grind (arith, nat_tests) in rw t refl

or_false : (c d : Bool) → c ≡ false → d ≡ false → (c || d) ≡ false
or_false c d h k = rw (h, k) refl

long_form : (b : ℕ) (bs x : List ℕ) → 128 < b → b < 133 → length bs ≡ b - 128 → form_of (b ∷ (bs ++ x)) ≡ Some (b - 128 + 1, number_of bs)
unfolding form_of
long_form b bs x low high size =
    let one : ltb b 128 ≡ false = grind (arith, nat_tests) in
    let below : ltb b 129 ≡ false = grind (arith, nat_tests) in
    let above : ltb 132 b ≡ false = grind (arith, nat_tests) in
    let other = or_false (ltb b 129) (ltb 132 b) below above in
    let long = length-append bs x in
    let room : ltb (length (bs ++ x)) (b - 128) ≡ false = grind (arith, nat_tests, long) in
    rw (one, other, room, take_at bs x (b - 128) size) refl

pub form_of-again : (f x : List ℕ) (n : ℕ) → IsLengthForm f n → form_of (f ++ x) ≡ Some (length f, n)
form_of-again [] x n h = absurd h
form_of-again (b ∷ bs) x n h = elim h [
  | inl p ↦ let e : suc (length bs) ≡ 1 = ap suc (ap length p.1) in short_form b (bs ++ x) p.0 ∙ rw (e, p.2) refl
  | inr p ↦ let e : suc (length bs) ≡ b - 128 + 1 = let s = p.2 in omega (arith, s) in long_form b bs x p.0 p.1 p.2 ∙ rw (e, p.3) refl
]

-- an element that was read
pub record Stands (b : List ℕ) (p : Part) : Type 0 where
  pub element : IsElement p.tag p.content p.whole
  pub is : b ≡ p.whole ++ p.rest

take_parts : (k n : ℕ) (b : List ℕ) → k ≤ length b → take k b ++ take n (drop k b) ≡ take (k + n) b
take_parts k n b h =
    let joined = take-append-add (take k b) (drop k b) n in
    let whole = take-append-drop k b in
    let front : length (take k b) ≡ k = length-take-le k b h in
    cc

cut_stands : (tag k n : ℕ) (after : List ℕ) (p : Part) → (tag % 32 ≡ 31 → ⊥) → form_of after ≡ Some (k, n) → cut_of tag after (k, n) ≡ Some p → Stands (tag ∷ after) p
cut_stands tag k n after p low form h = elim (chosen (ltb (length after) (k + n)) _ _ _ h) [
  | inl t ↦ absurd (cc)
  | inr t ↦
      let room : k + n ≤ length after = grind (arith, nat_tests, t.0) in
      let r = form_of-some after k n form in
      let left = length-drop k after in
      let size : length (take n (drop k after)) ≡ n = length-take-le n (drop k after) (omega arith) in
      let is : record { tag = tag; content = take n (drop k after); whole = tag ∷ take (k + n) after; rest = drop (k + n) after } ≡ p = some_same _ p t.1 in
      subst (Stands (tag ∷ after)) is (record {
        element = record {
          form = take k after;
          low = low;
          size = subst (IsLengthForm (take k after)) (sym size) r.form;
          is = ap (λ x. tag ∷ x) (sym (take_parts k n after r.fits));
        };
        is = ap (λ x. tag ∷ x) (sym (take-append-drop (k + n) after));
      })
]

where_stands : (tag : ℕ) (after : List ℕ) (p : Part) (o : Option (ℕ × ℕ)) → (tag % 32 ≡ 31 → ⊥) → form_of after ≡ o → cut_where tag after o ≡ Some p → Stands (tag ∷ after) p
where_stands tag after p None low e h = absurd (cc)
where_stands tag after p (Some s) low e h = cut_stands tag s.0 s.1 after p low e h

pub element_of-some : (b : List ℕ) (p : Part) → element_of b ≡ Some p → Stands b p
unfolding element_of
element_of-some [] p h = absurd (cc)
element_of-some (tag ∷ after) p h = elim (chosen (eqb (tag % 32) 31) _ _ _ h) [
  | inl t ↦ absurd (cc)
  | inr t ↦ where_stands tag after p (form_of after) (λ e. let f = t.0 in grind (arith, nat_tests)) refl t.1
]

cut_again : (tag k n : ℕ) (after c w x : List ℕ) → k + n ≤ length after → take n (drop k after) ≡ c → take (k + n) after ≡ w → drop (k + n) after ≡ x
    → cut_of tag after (k, n) ≡ Some (record { tag = tag; content = c; whole = tag ∷ w; rest = x })
cut_again tag k n after c w x room content whole rest =
    let t : ltb (length after) (k + n) ≡ false = grind (arith, nat_tests, room) in rw (t, content, whole, rest) refl

-- an element at the front is read
pub element_of-again : (tag : ℕ) (c w x : List ℕ) → IsElement tag c w → element_of (w ++ x) ≡ Some (record { tag = tag; content = c; whole = w; rest = x })
unfolding element_of
element_of-again tag c w x h =
    let f = h.form in
    let after = (f ++ c) ++ x in
    let low : eqb (tag % 32) 31 ≡ false = let l = h.low in grind (arith, nat_tests) in
    let parts : after ≡ f ++ (c ++ x) = append_assoc f c x in
    let form = ap form_of parts ∙ form_of-again f (c ++ x) (length c) h.size in
    let one = length-append f c in
    let two = length-append (f ++ c) x in
    let past : drop (length f) after ≡ c ++ x = ap (drop (length f)) parts ∙ drop_at f (c ++ x) (length f) refl in
    let content : take (length c) (drop (length f) after) ≡ c = ap (take (length c)) past ∙ take_at c x (length c) refl in
    let whole : take (length f + length c) after ≡ f ++ c = take_at (f ++ c) x (length f + length c) one in
    let rest : drop (length f + length c) after ≡ x = drop_at (f ++ c) x (length f + length c) one in
    let cut = cut_again tag (length f) (length c) after c (f ++ c) x (omega arith) content whole rest in
    let at : element_of (tag ∷ after) ≡ Some (record { tag = tag; content = c; whole = tag ∷ (f ++ c); rest = x }) = rw (low, form, cut) refl in
    ap (λ v. element_of (v ++ x)) h.is ∙ at ∙ ap (λ v. Some (record { tag = tag; content = c; whole = v; rest = x })) (sym h.is)

-- there is no element where none is read
pub element_of-none : (b : List ℕ) → element_of b ≡ None → (tag : ℕ) (c w x : List ℕ) → IsElement tag c w → b ≡ w ++ x → ⊥
element_of-none b h tag c w x e is = let again = ap element_of is ∙ element_of-again tag c w x e in cc

pub record SameElement (s t : ℕ) (c d v w x y : List ℕ) : Type 0 where
  pub tag : s ≡ t
  pub content : c ≡ d
  pub whole : v ≡ w
  pub rest : x ≡ y

pub element_is_one : (s t : ℕ) (c d v w x y : List ℕ) → IsElement s c v → IsElement t d w → v ++ x ≡ w ++ y → SameElement s t c d v w x y
element_is_one s t c d v w x y h k e =
    let same = some_same _ _ (sym (element_of-again s c v x h) ∙ ap element_of e ∙ element_of-again t d w y k) in
    record { tag = ap (λ (p : Part). p.tag) same; content = ap (λ (p : Part). p.content) same; whole = ap (λ (p : Part). p.whole) same; rest = ap (λ (p : Part). p.rest) same }

pub tbs_is_one : (whole s t : List ℕ) → IsCertificate whole s → IsCertificate whole t → s ≡ t
tbs_is_one whole s t h k =
    let outer = element_is_one sequence sequence h.content k.content whole whole [] [] h.outer k.outer refl in
    (element_is_one sequence sequence h.inner k.inner s t h.rest k.rest h.first k.first (sym h.is ∙ outer.content ∙ k.is)).whole

-- the element that begins a certificate
pub record Opens (p : Part) (content : List ℕ) : Type 0 where
  pub tag : p.tag ≡ 48
  pub rest : p.rest ≡ []
  pub content_is : p.content ≡ content

pub outer_is : (b t : List ℕ) (p : Part) (h : IsCertificate b t) → element_of b ≡ Some p → Opens p h.content
outer_is b t p h e =
    let again = element_of-again sequence h.content b [] h.outer in
    let same = some_same _ _ (sym e ∙ ap element_of (sym (append-nil b)) ∙ again) in
    record { tag = ap (λ (p : Part). p.tag) same; rest = ap (λ (p : Part). p.rest) same; content_is = ap (λ (p : Part). p.content) same }

pub no_outer : (b t : List ℕ) → IsCertificate b t → element_of b ≡ None → ⊥
no_outer b t h e = element_of-none b e sequence h.content b [] h.outer (sym (append-nil b))

pub no_inner : (b t : List ℕ) (p : Part) → IsCertificate b t → element_of b ≡ Some p → element_of p.content ≡ None → ⊥
no_inner b t p h e none = element_of-none p.content none sequence h.inner t h.rest h.first ((outer_is b t p h e).content_is ∙ h.is)

pub inner_is : (b t : List ℕ) (p q : Part) → IsCertificate b t → element_of b ≡ Some p → element_of p.content ≡ Some q → (q.tag ≡ 48) × (q.whole ≡ t)
inner_is b t p q h e f =
    let same = some_same _ _ (sym f ∙ ap element_of ((outer_is b t p h e).content_is ∙ h.is) ∙ element_of-again sequence h.inner t h.rest h.first) in
    (ap (λ (p : Part). p.tag) same, ap (λ (p : Part). p.whole) same)

pub certificate_of : (b : List ℕ) (p q : Part) → element_of b ≡ Some p → p.tag ≡ 48 → p.rest ≡ [] → element_of p.content ≡ Some q → q.tag ≡ 48 → IsCertificate b q.whole
certificate_of b p q e tag none f first =
    let s = element_of-some b p e in
    let i = element_of-some p.content q f in
    let whole : p.whole ≡ b = sym (s.is ∙ ap (λ r. p.whole ++ r) none ∙ append-nil p.whole) in
    record {
      content = p.content;
      inner = q.content;
      rest = q.rest;
      outer = subst (λ w. IsElement 48 p.content w) whole (subst (λ n. IsElement n p.content p.whole) tag s.element);
      first = subst (λ n. IsElement n q.content q.whole) first i.element;
      is = i.is;
    }

-- the part that is read is an element, and each element is read
pub element_of-each : (b : List ℕ) (p : Part) → IsElement p.tag p.content p.whole → b ≡ p.whole ++ p.rest → element_of b ≡ Some p
element_of-each b p h is = ap element_of is ∙ element_of-again p.tag p.content p.whole p.rest h
