-- Walks that go on, and where they end.
use Rattle.std.proofs.Common.{◌≡◌, ℕ, zero, suc, List, [], ◌++◌, refl, sym, ap, ◌∙◌, subst, append_assoc, append-nil}
use Rattle.std.specs.Prelude.{map}
use Rattle.std.proofs.lemmas.List.{map-append}
use Rattle.sha2.specs.Sha256.{sha256}
use Rattle.authenticode.specs.Steps.Adding.{AddsStep}
use Rattle.authenticode.specs.Walks.{Reaches, Stepping, Walks}

-- ---- a walk that goes on

reaches_more : (Step : Stepping) (n : ℕ) (b c next : List ℕ) (items own : List (List ℕ))
    → Reaches Step n b items c → Step c own next → Reaches Step (suc n) b (items ++ own) next
reaches_more Step zero b c next items own r s =
    (own, next, [], subst (λ x. Step x own next) (sym r.1) s, (refl, refl), ap (λ x. x ++ own) r.0 ∙ sym (append-nil own))
reaches_more Step (suc n) b c next items own r s =
    (r.0, r.1, r.2 ++ own, r.3, reaches_more Step n r.1 c next r.2 own r.4 s, ap (λ x. x ++ own) r.5 ∙ append_assoc r.0 r.2 own)

-- a walk so far, and the SHA-256 of what it gave added to a list
pub record Collects (Step : Stepping) (b left : List ℕ) (old new : List (List ℕ)) : Type 0 where
  pub items : List (List ℕ)
  pub walk : Walks Step b items left
  pub added : new ≡ old ++ map sha256 items

pub Collects-init : (Step : Stepping) (b : List ℕ) (old : List (List ℕ)) → Collects Step b b old old
Collects-init Step b old = record {
  items = [];
  walk = record { count = 0; steps = (refl, refl) };
  added = sym (append-nil old);
}

pub Collects-more : (Step : Stepping) (b left next : List ℕ) (old mid new : List (List ℕ))
    → Collects Step b left old mid → AddsStep Step left next mid new → Collects Step b next old new
Collects-more Step b left next old mid new c s = record {
  items = c.items ++ s.own;
  walk = record {
    count = suc c.walk.count;
    steps = reaches_more Step c.walk.count b left next c.items s.own c.walk.steps s.step;
  };
  added = s.added ∙ ap (λ x. x ++ map sha256 s.own) c.added ∙ append_assoc old (map sha256 c.items) (map sha256 s.own)
      ∙ ap (λ x. old ++ x) (sym (map-append sha256 c.items s.own));
}

-- ---- where a walk ends

-- the bytes where a step begins determine it
pub record IsDetermined (Step : Stepping) : Type 0 where
  pub own : (b c d : List ℕ) (xs ys : List (List ℕ)) → Step b xs c → Step b ys d → xs ≡ ys
  pub next : (b c d : List ℕ) (xs ys : List (List ℕ)) → Step b xs c → Step b ys d → c ≡ d

-- no step begins at these bytes
abbrev pub Stops : Stepping → List ℕ → Type 0
Stops Step b = (own : List (List ℕ)) (next : List ℕ) → Step b own next → ⊥

-- the rest of a walk to d, where another led to c
record Remains (Step : Stepping) (c d : List ℕ) (xs ys : List (List ℕ)) : Type 0 where
  count : ℕ
  others : List (List ℕ)
  steps : Reaches Step count c others d
  joined : ys ≡ xs ++ others

remains : (Step : Stepping) → IsDetermined Step → (n m : ℕ) (b c d : List ℕ) (xs ys : List (List ℕ))
    → Reaches Step n b xs c → Reaches Step m b ys d → Stops Step d → Remains Step c d xs ys
remains Step same zero m b c d xs ys r q stop = record {
  count = m;
  others = ys;
  steps = subst (λ x. Reaches Step m x ys d) r.1 q;
  joined = ap (λ x. x ++ ys) (sym r.0);
}
remains Step same (suc n) zero b c d xs ys r q stop = absurd (stop r.0 r.1 (subst (λ x. Step x r.0 r.1) q.1 r.3))
remains Step same (suc n) (suc m) b c d xs ys r q stop =
    let own = same.own b r.1 q.1 r.0 q.0 r.3 q.3 in
    let next = same.next b r.1 q.1 r.0 q.0 r.3 q.3 in
    let rest = remains Step same n m r.1 c d r.2 q.2 r.4 (subst (λ x. Reaches Step m x q.2 d) (sym next) q.4) stop in
    record {
      count = rest.count;
      others = rest.others;
      steps = rest.steps;
      joined = q.5 ∙ ap (λ x. q.0 ++ x) rest.joined ∙ ap (λ x. x ++ (r.2 ++ rest.others)) (sym own)
          ∙ sym (append_assoc r.0 r.2 rest.others) ∙ ap (λ x. x ++ rest.others) (sym r.5);
    }

stays : (Step : Stepping) (n : ℕ) (c d : List ℕ) (xs : List (List ℕ)) → Reaches Step n c xs d → Stops Step c → c ≡ d
stays Step zero c d xs r stop = r.1
stays Step (suc n) c d xs r stop = absurd (stop r.0 r.1 r.3)

gives_none : (Step : Stepping) (n : ℕ) (c d : List ℕ) (xs : List (List ℕ)) → Reaches Step n c xs d → Stops Step c → xs ≡ []
gives_none Step zero c d xs r stop = r.0
gives_none Step (suc n) c d xs r stop = absurd (stop r.0 r.1 r.3)

-- two walks that can't go on end at the same bytes
pub Walks-end : (Step : Stepping) → IsDetermined Step → (b c d : List ℕ) (xs ys : List (List ℕ))
    → Walks Step b xs c → Walks Step b ys d → Stops Step c → Stops Step d → c ≡ d
Walks-end Step same b c d xs ys r q stop end =
    let rest = remains Step same r.count q.count b c d xs ys r.steps q.steps end in
    stays Step rest.count c d rest.others rest.steps stop

-- and give the same
pub Walks-same : (Step : Stepping) → IsDetermined Step → (b c d : List ℕ) (xs ys : List (List ℕ))
    → Walks Step b xs c → Walks Step b ys d → Stops Step c → Stops Step d → xs ≡ ys
Walks-same Step same b c d xs ys r q stop end =
    let rest = remains Step same r.count q.count b c d xs ys r.steps q.steps end in
    sym (rest.joined ∙ ap (λ x. xs ++ x) (gives_none Step rest.count c d rest.others rest.steps stop) ∙ append-nil xs)
