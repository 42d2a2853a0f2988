-- Rows of a table by a key that appears there at most once: those that some of the table's rows
-- find.
use Rattle.std.proofs.Common.{◌≡◌, ◌⊎◌, inl, inr, ◌≤◌, Bool, true, false, List, [], ◌∷◌, ◌++◌, length, filter, find, Option, Some, None, refl, sym, ap, subst, ◌∙◌, arith}
use Rattle.store_reads.specs.Reads.{listed}

abbrev pub IsAmong : {X : Type 0} → X → List X → Type 0
IsAmong x [] = ⊥
IsAmong x (y ∷ ys) = (x ≡ y) ⊎ IsAmong x ys

-- each of these rows is the table's
abbrev pub AreAmong : {X : Type 0} → List X → List X → Type 0
AreAmong {X} rows table = (x : X) → IsAmong x rows → IsAmong x table

module _ {X : Type 0} where
  in_append : (x : X) (a b : List X) → IsAmong x (a ++ b) → IsAmong x a ⊎ IsAmong x b
  in_append x [] b h = inr h
  in_append x (y ∷ a) b (inl e) = inl (inl e)
  in_append x (y ∷ a) b (inr h) = elim (in_append x a b h) [ inl k ↦ inl (inr k) | inr k ↦ inr k ]

  pub after : (x : X) (a b : List X) → IsAmong x b → IsAmong x (a ++ b)
  after x [] b h = h
  after x (y ∷ a) b h = inr (after x a b h)

  pub before : (x : X) (a b : List X) → IsAmong x a → IsAmong x (a ++ b)
  before x [] b h = absurd h
  before x (y ∷ a) b (inl e) = inl e
  before x (y ∷ a) b (inr h) = inr (before x a b h)

  pub all_among : (a b table : List X) → AreAmong a table → AreAmong b table → AreAmong (a ++ b) table
  all_among a b table h k x m = elim (in_append x a b m) [ inl l ↦ h x l | inr r ↦ k x r ]

  few : (found : Option X) → length (listed found) ≤ 1
  few None = omega arith
  few (Some x) = omega arith

module _ {X : Type 0} (p : X → Bool) where
  find_in : (xs : List X) (x : X) → find p xs ≡ Some x → IsAmong x xs × (p x ≡ true)
  find_in [] x e = absurd cc
  find_in (y ∷ xs) x e = elim (p y) as (λ b. p y ≡ b → IsAmong x (y ∷ xs) × (p x ≡ true)) [
    | true ↦ λ q. let same : x ≡ y = (let k = rw q at e in cc) in (inl same, ap p same ∙ q)
    | false ↦ λ q. let it = find_in xs x (rw q at e) in (inr it.0, it.1)
  ] refl

  find_none : (xs : List X) (x : X) → find p xs ≡ None → IsAmong x xs → p x ≡ false
  find_none [] x e h = absurd h
  find_none (y ∷ xs) x e h = elim (p y) as (λ b. p y ≡ b → p x ≡ false) [
    | true ↦ λ q. absurd (let k = rw q at e in cc)
    | false ↦ λ q. elim h [ inl same ↦ ap p same ∙ q | inr more ↦ find_none xs x (rw q at e) more ]
  ] refl

  in_filter : (xs : List X) (x : X) → IsAmong x xs → p x ≡ true → IsAmong x (filter p xs)
  in_filter [] x h q = absurd h
  in_filter (y ∷ xs) x (inl e) q = rw (sym (ap p e) ∙ q) (inl e)
  in_filter (y ∷ xs) x (inr h) q = elim (p y) as (λ b. p y ≡ b → IsAmong x (filter p (y ∷ xs))) [
    | true ↦ λ k. rw k (inr (in_filter xs x h q))
    | false ↦ λ k. rw k (in_filter xs x h q)
  ] refl

  filter_in : (xs : List X) (x : X) → IsAmong x (filter p xs) → IsAmong x xs
  filter_in [] x h = absurd h
  filter_in (y ∷ xs) x h = elim (p y) as (λ b. p y ≡ b → IsAmong x (y ∷ xs)) [
    | true ↦ λ k. elim (rw k at h) [ inl e ↦ inl e | inr m ↦ inr (filter_in xs x m) ]
    | false ↦ λ k. inr (filter_in xs x (rw k at h))
  ] refl

  one_of : (xs : List X) (x y : X) → length xs ≤ 1 → IsAmong x xs → IsAmong y xs → x ≡ y
  one_of [] x y low h k = absurd h
  one_of (z ∷ []) x y low (inl e) (inl f) = e ∙ sym f
  one_of (z ∷ []) x y low (inl e) (inr k) = absurd k
  one_of (z ∷ []) x y low (inr h) k = absurd h
  one_of (z ∷ w ∷ xs) x y low h k = absurd (omega (arith, low))

  exact : (table rows : List X) → AreAmong rows table → length (filter p table) ≤ 1 → AreAmong (filter p table) rows → find p rows ≡ find p table
  exact table rows among low covered = elim (find p rows) as (λ o. find p rows ≡ o → o ≡ find p table) [
    | Some x ↦ λ e. elim (find p table) as (λ o. find p table ≡ o → Some x ≡ o) [
      | Some y ↦ λ f.
          let a = find_in rows x e in
          let b = find_in table y f in
          ap Some (one_of (filter p table) x y low (in_filter table x (among x a.0) a.1) (in_filter table y b.0 b.1))
      | None ↦ λ f. absurd (let a = find_in rows x e in let k = a.1 in let m = find_none table x f (among x a.0) in cc)
    ] refl
    | None ↦ λ e. elim (find p table) as (λ o. find p table ≡ o → None ≡ o) [
      | Some y ↦ λ f. absurd (let b = find_in table y f in let k = b.1 in let m = find_none rows y e (covered y (in_filter table y b.0 b.1)) in cc)
      | None ↦ λ f. refl
    ] refl
  ] refl

  -- the rows that a read by the key gave are the table's
  pub are_of_table : (table : List X) (found : Option X) → filter p table ≡ listed found → AreAmong (listed found) table
  are_of_table table found is x h = filter_in table x (subst (IsAmong x) (sym is) h)

  -- rows of the table, with what a read by the key gave, find by it what the table has
  pub finds : (table rows : List X) (found : Option X) → filter p table ≡ listed found → AreAmong rows table → AreAmong (listed found) rows → find p rows ≡ find p table
  finds table rows found is among has =
      exact table rows among (subst (λ l. length l ≤ 1) (sym is) (few found)) (λ x h. has x (subst (IsAmong x) is h))
