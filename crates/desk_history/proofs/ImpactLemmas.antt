-- Impacts: the images that a Confirm would bar, by their rules.
use Rattle.std.proofs.Common.{◌≡◌, ◌⊎◌, ◌↔◌, ℕ, ◌<◌, Bool, true, false, not, ◌&&◌, ◌||◌, cond, List, [], ◌∷◌, map, filter, Option, Some, None, refl, sym, ◌∙◌, ap, subst, inl, inr, arith}
use Rattle.std.specs.Prelude.{if◌then◌else◌, IsTrue, filter_map, is_some, nat_lt, option_map, reverse, Ok, Err}
use Rattle.std.specs.List.{Contains, cons_option, list_any}
use Rattle.std.specs.Option.{option_map_or, option_or}
use Rattle.std.proofs.lemmas.Bool.{and_parts}
use Rattle.std.proofs.lemmas.List.Elements.{Contains-append_cases, Contains-append_left, Contains-append_right, Contains-push, Contains-push_cases}
use Rattle.std.proofs.lemmas.List.Sorted.{Contains-permutation, IsPermutation-reverse}
use Rattle.sbat.specs.declared.component.Component.{Component}
use Rattle.base.specs.declared.refusal.Refusal.{Refusal}
use Rattle.desk_history.specs.Calls.{History}
use Rattle.desk_history.specs.Images.{Image}
use Rattle.desk_history.specs.Impact.{Impact, NewlyBarred, after, component_rule, confirm_of, first_rule, impact, impact_of, impact_refusal, newly_barred, newly_barred_by, rule_at}
use Rattle.desk_history.specs.ImpactLaws.{RulesBar}
use Rattle.desk_history.specs.Verdicts.{Standing, has_revoked_certificate, has_revoked_digest, is_barred, is_below, is_less, standing}
use Rattle.desk_history.proofs.VerdictLemmas.{what_is_barred_stays_barred}
use Rattle.desk_history.specs.declared.impact.Rule.{Rule}
use Rattle.desk_history.specs.declared.impact.Rule.TheVariants as rules

-- ---- rules

one_some : (x : Component) (asked : Option ℕ) (rest : Option Rule) (any : Bool) → is_some rest ≡ any → is_some (option_or (rule_at x asked) rest) ≡ (is_less x.generation asked || any)
one_some x None rest any h = h
one_some x (Some needed) rest any h =
    elim (nat_lt x.generation needed) as (λ b. is_some (option_or (if b then Some (rules.Component x needed) else None) rest) ≡ (b || any)) [
      | true ↦ refl
      | false ↦ h
    ]

components_some : (s : Standing) (xs : List Component) → is_some (component_rule s xs) ≡ list_any (is_below s) xs
components_some s [] = refl
components_some s (x ∷ xs) = one_some x (s.required x.name) (component_rule s xs) (list_any (is_below s) xs) (components_some s xs)

rule_some : (digest certificate : Bool) (o : Option Rule) (any : Bool) → is_some o ≡ any
    → is_some (if digest then Some rules.Digest else (if certificate then Some rules.Certificate else o)) ≡ (digest || certificate || any)
rule_some true certificate o any h = refl
rule_some false true o any h = refl
rule_some false false o any h = h

pub each_rule_bars : RulesBar
each_rule_bars s x =
    rule_some (has_revoked_digest s x) (has_revoked_certificate s x) (component_rule s x.components) (list_any (is_below s) x.components) (components_some s x.components)

-- ---- the images of an impact

abbrev pub image_in : NewlyBarred → Image
image_in b = b.image

one_kept : (cs : History) (m : Image) (now : Bool) (o : Option Rule) (later : Bool) → is_some o ≡ later → (bs : List NewlyBarred) (ms : List Image) → map image_in bs ≡ ms
    → map image_in (cons_option (if now then None else option_map (newly_barred_by cs m) o) bs) ≡ cond (not now && later) (m ∷ ms) ms
one_kept cs m true o later e bs ms h = h
one_kept cs m false None later e bs ms h = subst (λ b. map image_in bs ≡ cond b (m ∷ ms) ms) e h
one_kept cs m false (Some rule) later e bs ms h = subst (λ b. m ∷ map image_in bs ≡ cond b (m ∷ ms) ms) e (ap (λ l. m ∷ l) h)

pub kept : (cs : History) (k : ℕ) (ms : List Image) → map image_in (filter_map (newly_barred cs k) ms) ≡ filter (λ m. not (is_barred cs m.facts) && is_barred (after cs k) m.facts) ms
kept cs k [] = refl
kept cs k (m ∷ ms) =
    one_kept cs m (is_barred cs m.facts) (first_rule (standing (after cs k)) m.facts) (is_barred (after cs k) m.facts) (each_rule_bars (standing (after cs k)) m.facts)
    (filter_map (newly_barred cs k) ms) (filter (λ m. not (is_barred cs m.facts) && is_barred (after cs k) m.facts) ms) (kept cs k ms)

-- ---- members

head_or : {X : Type 0} (y : X) (ys : List X) (x : X) → Contains (y ∷ ys) x → (y ≡ x) ⊎ Contains ys x
head_or y ys x h =
    elim (Contains-append_cases (y ∷ []) ys x h) [
      | inl one ↦ elim (Contains-push_cases [] y x one) [ inl none ↦ absurd (let below : none.0 < 0 = none.1 in omega arith) | inr e ↦ inl e ]
      | inr rest ↦ inr rest
    ]

first_one : {X : Type 0} (y : X) (ys : List X) (x : X) → y ≡ x → Contains (y ∷ ys) x
first_one y ys x e = subst (Contains (y ∷ ys)) e (Contains-append_left (y ∷ []) ys y (Contains-push [] y))

-- an item that passes a test is kept by it
passing_kept : {X : Type 0} (p : X → Bool) (xs : List X) (x : X) → Contains xs x → p x ≡ true → Contains (filter p xs) x
passing_kept p [] x h passes = h
passing_kept p (y ∷ ys) x h passes =
    elim (head_or y ys x h) [
      | inl e ↦ subst (λ b. Contains (cond b (y ∷ filter p ys) (filter p ys)) x) (sym (ap p e ∙ passes)) (first_one y (filter p ys) x e)
      | inr rest ↦ (let kept : Contains (filter p ys) x = passing_kept p ys x rest passes in
          elim (p y) as (λ b. Contains (cond b (y ∷ filter p ys) (filter p ys)) x) [
            | true ↦ Contains-append_right (y ∷ []) (filter p ys) x kept
            | false ↦ kept
          ])
    ]

-- and each one that is kept passes
kept_passes : {X : Type 0} (p : X → Bool) (xs : List X) (x : X) → Contains (filter p xs) x → p x ≡ true
kept_passes p [] x h = absurd (let below : h.0 < 0 = h.1 in omega arith)
kept_passes p (y ∷ ys) x h =
    elim (p y) as (λ b. p y ≡ b → Contains (cond b (y ∷ filter p ys) (filter p ys)) x → p x ≡ true) [
      | true ↦ λ e g. elim (head_or y (filter p ys) x g) [ inl same ↦ ap p (sym same) ∙ e | inr rest ↦ kept_passes p ys x rest ]
      | false ↦ λ e g. kept_passes p ys x g
    ] refl h

-- ---- images that are barred then

abbrev pub is_new : History → ℕ → Image → Bool
is_new cs k m = not (is_barred cs m.facts) && is_barred (after cs k) m.facts

-- an image is barred then exactly where it was or is in the impact
pub barred_exactly : (cs : History) (k : ℕ) (ms bs : List Image) → bs ≡ filter (is_new cs k) (reverse ms) → (m : Image) → Contains ms m
    → IsTrue (is_barred (after cs k) m.facts) ↔ (IsTrue (is_barred cs m.facts) ⊎ Contains bs m)
barred_exactly cs k ms bs is m among = (forth, back)
  where
    turned : Contains (reverse ms) m
    turned = Contains-permutation ms (reverse ms) m (IsPermutation-reverse ms) among

    forth : IsTrue (is_barred (after cs k) m.facts) → IsTrue (is_barred cs m.facts) ⊎ Contains bs m
    forth h =
        elim (is_barred cs m.facts) as (λ b. is_barred cs m.facts ≡ b → IsTrue (is_barred cs m.facts) ⊎ Contains bs m) [
          | true ↦ λ e. inl e
          | false ↦ λ e. inr (subst (λ l. Contains l m) (sym is) (passing_kept (is_new cs k) (reverse ms) m turned (ap (λ b. not b && is_barred (after cs k) m.facts) e ∙ h)))
        ] refl

    back : IsTrue (is_barred cs m.facts) ⊎ Contains bs m → IsTrue (is_barred (after cs k) m.facts)
    back (inl h) = what_is_barred_stays_barred cs (after cs k) m.facts (confirm_of k ∷ [], refl) h
    back (inr h) =
        (and_parts (not (is_barred cs m.facts)) (is_barred (after cs k) m.facts) (kept_passes (is_new cs k) (reverse ms) m (subst (λ l. Contains l m) is h))).1

-- ---- an impact that is shown

-- is the one that the history gives
pub shown_impact : (cs : History) (k : ℕ) (w : Impact) → impact cs k ≡ Ok w → w ≡ impact_of cs k
shown_impact cs k w h = by_refusal (impact_refusal cs k) h
  where
    by_refusal : (o : Option Refusal) → option_map_or Err o (Ok (impact_of cs k)) ≡ Ok w → w ≡ impact_of cs k
    by_refusal None e = cc
    by_refusal (Some refusal) e = cc
