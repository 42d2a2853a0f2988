-- Verdicts: which images are allowed, and that what is barred stays barred.
use Rattle.std.proofs.Common.{◌≡◌, ◌≢◌, ◌∙◌, ℕ, ◌+◌, Bool, true, false, ◌||◌, List, [], ◌∷◌, ◌++◌, Option, Some, None, refl, sym, subst, ◌↔◌, arith}
use Rattle.std.specs.Prelude.{if◌then◌else◌, IsTrue, bytes_eq, nat_lt}
use Rattle.std.specs.List.{list_any}
use Rattle.std.specs.Option.{option_map_or, option_or}
use Rattle.std.proofs.lemmas.Bool.Decides.{nat_tests}
use Rattle.sbat.specs.declared.component.Component.{Component}
use Rattle.desk_types.specs.declared.facts.Facts.{Facts}
use Rattle.desk_types.specs.declared.kind.ListedKind.{ListedKind}
use Rattle.desk_types.specs.declared.kind.ListedKind.TheVariants as kinds
use Rattle.desk_history.specs.Calls.{History}
use Rattle.desk_history.specs.Forces.{into_force, revoked_in}
use Rattle.desk_history.specs.Level.{generations, greater_of, greatest, is_sbat}
use Rattle.desk_history.specs.Revocations.{is_revoked, revocations}
use Rattle.desk_history.specs.declared.finding.Below.{Below}
use Rattle.desk_history.specs.declared.finding.Verdict.TheVariants.{Allowed, Sbat}
use Rattle.desk_history.specs.Laws.{AllowsExactly, StaysBarred}
use Rattle.desk_history.specs.Verdicts.{first_below, Standing, has_revoked_certificate, has_revoked_digest, is_barred, is_below, is_less, lack_at, standing, stands_in_db, verdict, verdict_by}
use Rattle.desk_history.proofs.ListLemmas.{any_after, any_of, or_mono}

-- no component is below the level exactly where the first such is none
abbrev AllowsBy : Option Below → Bool → Type 0
AllowsBy below any = (option_map_or Sbat below Allowed ≡ Allowed) ↔ (any ≡ false)

one_component : (place generation : ℕ) (asked : Option ℕ) (rest : Option Below) (any : Bool) → AllowsBy rest any → AllowsBy (option_or (lack_at place generation asked) rest) (is_less generation asked || any)
one_component place generation None rest any h = h
one_component place generation (Some needed) rest any h =
    elim (nat_lt generation needed) as (λ b. AllowsBy (option_or (if b then Some (record { place = place; needs = needed }) else None) rest) (b || any)) [
      | true ↦ (λ e. cc, λ e. cc)
      | false ↦ h
    ]

components_allow : (s : Standing) (place : ℕ) (xs : List Component) → AllowsBy (first_below s place xs) (list_any (is_below s) xs)
components_allow s place [] = (λ e. refl, λ e. refl)
components_allow s place (x ∷ xs) =
    one_component place x.generation (s.required x.name) (first_below s (place + 1) xs) (list_any (is_below s) xs) (components_allow s (place + 1) xs)

by_parts : (d c l : Bool) (below : Option Below) (any : Bool) → AllowsBy below any → (verdict_by d c l below ≡ Allowed) ↔ (((d || c || any) ≡ false) × (l ≡ true))
by_parts true c l below any h = (λ e. cc, λ e. cc)
by_parts false true l below any h = (λ e. cc, λ e. cc)
by_parts false false false below any h = (λ e. cc, λ e. cc)
by_parts false false true below any h = (λ e. (h.0 e, refl), λ e. h.1 e.0)

pub allows_exactly : AllowsExactly
allows_exactly cs x =
    by_parts (has_revoked_digest (standing cs) x) (has_revoked_certificate (standing cs) x) (stands_in_db cs x) (first_below (standing cs) 0 x.components) (list_any (is_below (standing cs)) x.components) (components_allow (standing cs) 0 x.components)

-- revocations and required generations after more calls

pub revoked_after : (kind : ListedKind) (cs new : History) (digest : List ℕ) → is_revoked kind cs digest ≡ true → is_revoked kind (new ++ cs) digest ≡ true
revoked_after kind cs [] digest h = h
revoked_after kind cs (c ∷ new) digest h =
    any_after (bytes_eq digest) (revoked_in kind (into_force (new ++ cs) c)) (revocations kind (new ++ cs)) (revoked_after kind cs new digest h)

more_asked : (n m : ℕ) (asked : Option ℕ) → is_less n asked ≡ true → is_less n (Some (greater_of m asked)) ≡ true
more_asked n m None h = cc
more_asked n m (Some k) h = grind (arith, nat_tests)

greatest_after : (n : ℕ) (name : List ℕ) (xs ys : List Component) → is_less n (greatest ys name) ≡ true → is_less n (greatest (xs ++ ys) name) ≡ true
greatest_after n name [] ys h = h
greatest_after n name (x ∷ xs) ys h =
    let later : is_less n (greatest (xs ++ ys) name) ≡ true = greatest_after n name xs ys h in
    elim (bytes_eq name x.name) as (λ b. is_less n (if b then Some (greater_of x.generation (greatest (xs ++ ys) name)) else greatest (xs ++ ys) name) ≡ true) [
      | true ↦ more_asked n x.generation (greatest (xs ++ ys) name) later
      | false ↦ later
    ]

asked_after : (cs new : History) (n : ℕ) (name : List ℕ) → is_less n (greatest (generations cs) name) ≡ true → is_less n (greatest (generations (new ++ cs)) name) ≡ true
asked_after cs [] n name h = h
asked_after cs (c ∷ new) n name h = greatest_after n name (into_force (new ++ cs) c).components (generations (new ++ cs)) (asked_after cs new n name h)

below_after : (cs new : History) (x : Component) → is_below (standing cs) x ≡ true → is_below (standing (new ++ cs)) x ≡ true
below_after cs new x h =
    elim (is_sbat x.name) as (λ b. is_less x.generation (if b then Some 1 else greatest (generations cs) x.name) ≡ true → is_less x.generation (if b then Some 1 else greatest (generations (new ++ cs)) x.name) ≡ true) [
      | true ↦ λ k. k
      | false ↦ asked_after cs new x.generation x.name
    ] h

barred_after : (cs new : History) (x : Facts) → is_barred cs x ≡ true → is_barred (new ++ cs) x ≡ true
barred_after cs new x =
    let digest : is_revoked kinds.Digest cs x.digest ≡ true → is_revoked kinds.Digest (new ++ cs) x.digest ≡ true = revoked_after kinds.Digest cs new x.digest in
    let signing : is_revoked kinds.Digest cs x.signing ≡ true → is_revoked kinds.Digest (new ++ cs) x.signing ≡ true = revoked_after kinds.Digest cs new x.signing in
    or_mono (has_revoked_digest (standing cs) x || has_revoked_certificate (standing cs) x) (list_any (is_below (standing cs)) x.components) (has_revoked_digest (standing (new ++ cs)) x || has_revoked_certificate (standing (new ++ cs)) x) (list_any (is_below (standing (new ++ cs))) x.components)
    (or_mono (has_revoked_digest (standing cs) x) (has_revoked_certificate (standing cs) x) (has_revoked_digest (standing (new ++ cs)) x) (has_revoked_certificate (standing (new ++ cs)) x)
    (or_mono (is_revoked kinds.Digest cs x.digest) (is_revoked kinds.Digest cs x.signing) (is_revoked kinds.Digest (new ++ cs) x.digest) (is_revoked kinds.Digest (new ++ cs) x.signing) digest signing)
    (any_of (is_revoked kinds.Certificate cs) (is_revoked kinds.Certificate (new ++ cs)) (revoked_after kinds.Certificate cs new) x.carried))
    (any_of (is_below (standing cs)) (is_below (standing (new ++ cs))) (below_after cs new) x.components)

pub what_is_barred_stays_barred : StaysBarred
what_is_barred_stays_barred earlier later x more h = subst (λ cs. IsTrue (is_barred cs x)) (sym more.1) (barred_after earlier more.0 x h)

-- an image that is barred isn't allowed
pub barred_not_allowed : (cs : History) (x : Facts) → IsTrue (is_barred cs x) → verdict cs x ≢ Allowed
barred_not_allowed cs x is allowed = let free = ((allows_exactly cs x).0 allowed).0 in absurd (let e = sym is ∙ free in cc)
