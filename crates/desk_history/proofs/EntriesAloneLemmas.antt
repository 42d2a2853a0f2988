-- What the entries of a proposal bar by themselves.
use Rattle.std.proofs.Common.{◌≡◌, ℕ, Bool, true, false, ◌||◌, List, [], ◌∷◌, ◌++◌, max, Option, Some, None, refl, sym, ◌∙◌, ap, ap₂, arith}
use Rattle.std.specs.Prelude.{is_some, if◌then◌else◌, bytes_eq, nat_lt, option_map, reverse, filter_map}
use Rattle.std.specs.List.{cons_option, list_any}
use Rattle.std.specs.Option.{option_or}
use Rattle.std.proofs.lemmas.Bool.Decides.{nat_tests}
use Rattle.std.proofs.lemmas.List.Folds.{list_any-append}
use Rattle.sbat.specs.declared.component.Component.{Component}
use Rattle.desk_types.specs.declared.facts.Facts.{Facts}
use Rattle.desk_types.specs.declared.kind.ListedKind.{ListedKind}
use Rattle.desk_types.specs.declared.kind.ListedKind.TheVariants as kinds
use Rattle.desk_history.specs.Calls.{History, is_among}
use Rattle.desk_history.specs.Forces.{revoked_in}
use Rattle.desk_history.specs.Images.{Image, images}
use Rattle.desk_history.specs.Impact.{after, allows, component_rule, first_rule, newly_barred, newly_barred_by, rule_at, standing_of, would_force}
use Rattle.desk_history.specs.ImpactLaws.{EntriesBar, EntriesMiss, EntriesRule, EntriesTell, ListedIsAllowed}
use Rattle.desk_history.specs.Level.{generations, greater_of, greatest, is_sbat}
use Rattle.desk_history.specs.Revocations.{is_revoked, revocations}
use Rattle.desk_history.specs.Verdicts.{Standing, bars, has_revoked_certificate, has_revoked_digest, is_barred, is_below, is_less, standing, stands_in_db, verdict}
use Rattle.desk_history.specs.declared.finding.Verdict.{Verdict}
use Rattle.desk_history.specs.declared.finding.Verdict.TheVariants as says
use Rattle.desk_history.proofs.ImpactLemmas.{each_rule_bars}
use Rattle.desk_history.proofs.ListLemmas.{none_left, none_right}
use Rattle.desk_history.proofs.VerdictLemmas.{allows_exactly}
use Rattle.desk_history.specs.declared.impact.Rule.{Rule}
use Rattle.desk_history.specs.declared.impact.Rule.TheVariants as rules

-- ---- tests that hold for one of two reasons

swapped : (a b : Bool) → (a || b) ≡ (b || a)
swapped true true = refl
swapped true false = refl
swapped false true = refl
swapped false false = refl

shuffled : (a b c d : Bool) → ((a || b) || (c || d)) ≡ ((a || c) || (b || d))
shuffled true b c d = refl
shuffled false b true d = swapped b true
shuffled false true false d = refl
shuffled false false false d = refl

or_nothing : (a : Bool) → a ≡ (a || false)
or_nothing true = refl
or_nothing false = refl

any_either : {X : Type 0} (p q r : X → Bool) → ((x : X) → p x ≡ (q x || r x)) → (xs : List X) → list_any p xs ≡ (list_any q xs || list_any r xs)
any_either p q r each [] = refl
any_either p q r each (x ∷ xs) =
    ap₂ ◌||◌ (each x) (any_either p q r each xs) ∙ shuffled (q x) (r x) (list_any q xs) (list_any r xs)

-- ---- generations

-- the greatest of two lists, from those of each
joined : Option ℕ → Option ℕ → Option ℕ
joined None b = b
joined (Some n) b = Some (greater_of n b)

greatest_of_three : (n : ℕ) (a b : Option ℕ) → Some (greater_of n (joined a b)) ≡ joined (Some (greater_of n a)) b
unfolding joined
greatest_of_three n None b = refl
greatest_of_three n (Some m) None = refl
greatest_of_three n (Some m) (Some k) = let same : max n (max m k) ≡ max (max n m) k = omega arith in ap Some same

greatest_joined : (xs ys : List Component) (name : List ℕ) → greatest (xs ++ ys) name ≡ joined (greatest xs name) (greatest ys name)
unfolding joined
greatest_joined [] ys name = refl
greatest_joined (x ∷ xs) ys name =
    elim (bytes_eq name x.name) as (λ b. (if b then Some (greater_of x.generation (greatest (xs ++ ys) name)) else greatest (xs ++ ys) name)
    ≡ joined (if b then Some (greater_of x.generation (greatest xs name)) else greatest xs name) (greatest ys name)) [
      | true ↦ ap (λ o. Some (greater_of x.generation o)) (greatest_joined xs ys name) ∙ greatest_of_three x.generation (greatest xs name) (greatest ys name)
      | false ↦ greatest_joined xs ys name
    ]

less_joined : (g : ℕ) (a b : Option ℕ) → is_less g (joined a b) ≡ (is_less g b || is_less g a)
unfolding joined
less_joined g None b = or_nothing (is_less g b)
less_joined g (Some n) None = refl
less_joined g (Some n) (Some m) = either
  where
    either : nat_lt g (max n m) ≡ (nat_lt g m || nat_lt g n)
    either =
        elim (nat_lt g m) as (λ b. nat_lt g m ≡ b → nat_lt g (max n m) ≡ (b || nat_lt g n)) [
          | true ↦ λ e. grind (arith, nat_tests, e)
          | false ↦ λ e. elim (nat_lt g n) as (λ d. nat_lt g n ≡ d → nat_lt g (max n m) ≡ d) [ true ↦ λ f. grind (arith, nat_tests, f) | false ↦ λ f. grind (arith, nat_tests, e, f) ] refl
        ] refl

rule_joined : (x : Component) (a b : Option ℕ) → is_less x.generation b ≡ false → rule_at x (joined a b) ≡ rule_at x a
unfolding joined
rule_joined x None None h = refl
rule_joined x None (Some m) h = rw h refl
rule_joined x (Some n) None h = refl
rule_joined x (Some n) (Some m) h =
    elim (nat_lt x.generation n) as (λ b. nat_lt x.generation n ≡ b → rule_at x (Some (max n m)) ≡ (if b then Some (rules.Component x n) else None)) [
      | true ↦ λ e. (let same : max n m ≡ n = grind (arith, nat_tests, e, h) in rw (same, e) refl)
      | false ↦ λ e. (let neither : nat_lt x.generation (max n m) ≡ false = grind (arith, nat_tests, e, h) in rw neither refl)
    ] refl

-- ---- a standing with more entries

module _ (cs : History) (k : ℕ) where
  abbrev now : Standing
  now = standing cs

  abbrev coming : Standing
  coming = standing (after cs k)

  abbrev alone : Standing
  alone = standing_of (would_force cs k)

  revoked_either : (kind : ListedKind) (d : List ℕ) → is_revoked kind (after cs k) d ≡ (is_revoked kind cs d || is_among (revoked_in kind (would_force cs k)) d)
  revoked_either kind d =
      list_any-append (bytes_eq d) (revoked_in kind (would_force cs k)) (revocations kind cs)
      ∙ swapped (is_among (revoked_in kind (would_force cs k)) d) (is_revoked kind cs d)

  digest_either : (x : Facts) → has_revoked_digest coming x ≡ (has_revoked_digest now x || has_revoked_digest alone x)
  digest_either x =
      ap₂ ◌||◌ (revoked_either kinds.Digest x.digest) (revoked_either kinds.Digest x.signing)
      ∙ shuffled (is_revoked kinds.Digest cs x.digest) (alone.revoked kinds.Digest x.digest) (is_revoked kinds.Digest cs x.signing) (alone.revoked kinds.Digest x.signing)

  certificate_either : (x : Facts) → has_revoked_certificate coming x ≡ (has_revoked_certificate now x || has_revoked_certificate alone x)
  certificate_either x = any_either (coming.revoked kinds.Certificate) (now.revoked kinds.Certificate) (alone.revoked kinds.Certificate) (revoked_either kinds.Certificate) x.carried

  below_either : (x : Component) → is_below coming x ≡ (is_below now x || is_below alone x)
  below_either x =
      elim (is_sbat x.name) as (λ b. is_less x.generation (if b then Some 1 else greatest (generations (after cs k)) x.name)
      ≡ (is_less x.generation (if b then Some 1 else greatest (generations cs) x.name) || is_less x.generation (if b then None else greatest (would_force cs k).components x.name))) [
        | true ↦ or_nothing (nat_lt x.generation 1)
        | false ↦ ap (is_less x.generation) (greatest_joined (would_force cs k).components (generations cs) x.name)
            ∙ less_joined x.generation (greatest (would_force cs k).components x.name) (greatest (generations cs) x.name)
      ]

  pub bars_either : (x : Facts) → is_barred (after cs k) x ≡ (is_barred cs x || bars alone x)
  bars_either x =
      ap₂ ◌||◌
      (ap₂ ◌||◌ (digest_either x) (certificate_either x) ∙ shuffled (has_revoked_digest now x) (has_revoked_digest alone x) (has_revoked_certificate now x) (has_revoked_certificate alone x))
      (any_either (is_below coming) (is_below now) (is_below alone) below_either x.components)
      ∙ shuffled (has_revoked_digest now x || has_revoked_certificate now x) (has_revoked_digest alone x || has_revoked_certificate alone x) (list_any (is_below now) x.components) (list_any (is_below alone) x.components)

  rule_of_one : (x : Component) → is_below now x ≡ false → rule_at x (coming.required x.name) ≡ rule_at x (alone.required x.name)
  rule_of_one x h =
      elim (is_sbat x.name) as (λ b. is_less x.generation (if b then Some 1 else greatest (generations cs) x.name) ≡ false
      → rule_at x (if b then Some 1 else greatest (generations (after cs k)) x.name) ≡ rule_at x (if b then None else greatest (would_force cs k).components x.name)) [
        | true ↦ λ e. rw e refl
        | false ↦ λ e. ap (rule_at x) (greatest_joined (would_force cs k).components (generations cs) x.name)
            ∙ rule_joined x (greatest (would_force cs k).components x.name) (greatest (generations cs) x.name) e
      ] h

  rule_of_all : (xs : List Component) → list_any (is_below now) xs ≡ false → component_rule coming xs ≡ component_rule alone xs
  rule_of_all [] h = refl
  rule_of_all (x ∷ xs) h =
      ap₂ option_or (rule_of_one x (none_left (is_below now x) (list_any (is_below now) xs) h)) (rule_of_all xs (none_right (is_below now x) (list_any (is_below now) xs) h))

  abbrev chosen : Bool → Bool → Option Rule → Option Rule
  chosen digest certificate o = if digest then Some rules.Digest else (if certificate then Some rules.Certificate else o)

  only_right : (a b c : Bool) → c ≡ (a || b) → a ≡ false → c ≡ b
  only_right a b c is h = is ∙ ap (λ d. d || b) h

  pub rule_alone : (x : Facts) → is_barred cs x ≡ false → first_rule coming x ≡ first_rule alone x
  rule_alone x h =
      let lists : (has_revoked_digest now x || has_revoked_certificate now x) ≡ false = none_left (has_revoked_digest now x || has_revoked_certificate now x) (list_any (is_below now) x.components) h in
      let digest : has_revoked_digest coming x ≡ has_revoked_digest alone x =
      only_right (has_revoked_digest now x) (has_revoked_digest alone x) (has_revoked_digest coming x) (digest_either x) (none_left (has_revoked_digest now x) (has_revoked_certificate now x) lists) in
      let certificate : has_revoked_certificate coming x ≡ has_revoked_certificate alone x =
      only_right (has_revoked_certificate now x) (has_revoked_certificate alone x) (has_revoked_certificate coming x) (certificate_either x) (none_right (has_revoked_digest now x) (has_revoked_certificate now x) lists) in
      let below : component_rule coming x.components ≡ component_rule alone x.components =
      rule_of_all x.components (none_right (has_revoked_digest now x || has_revoked_certificate now x) (list_any (is_below now) x.components) h) in
      ap (λ b. chosen b (has_revoked_certificate coming x) (component_rule coming x.components)) digest
      ∙ ap (λ b. chosen (has_revoked_digest alone x) b (component_rule coming x.components)) certificate
      ∙ ap (chosen (has_revoked_digest alone x) (has_revoked_certificate alone x)) below

pub entries_bar : EntriesBar
entries_bar cs k x = bars_either cs k x

pub entries_rule : EntriesRule
entries_rule cs k x h = rule_alone cs k x h

-- ---- the images of an impact

one_told : (cs : History) (k : ℕ) (m : Image) → newly_barred cs k m ≡ option_map (newly_barred_by cs m) (if is_barred cs m.facts then None else first_rule (standing_of (would_force cs k)) m.facts)
one_told cs k m =
    elim (is_barred cs m.facts) as (λ b. is_barred cs m.facts ≡ b → (if b then None else option_map (newly_barred_by cs m) (first_rule (standing (after cs k)) m.facts))
    ≡ option_map (newly_barred_by cs m) (if b then None else first_rule (standing_of (would_force cs k)) m.facts)) [
      | true ↦ λ e. refl
      | false ↦ λ e. ap (option_map (newly_barred_by cs m)) (entries_rule cs k m.facts e)
    ] refl

all_told : (cs : History) (k : ℕ) (ms : List Image) → filter_map (newly_barred cs k) ms
    ≡ filter_map (λ m. option_map (newly_barred_by cs m) (if is_barred cs m.facts then None else first_rule (standing_of (would_force cs k)) m.facts)) ms
all_told cs k [] = refl
all_told cs k (m ∷ ms) = ap₂ cons_option (one_told cs k m) (all_told cs k ms)

pub entries_tell : EntriesTell
entries_tell cs k = all_told cs k (reverse (images cs))

no_rule : (o : Option Rule) → is_some o ≡ false → o ≡ None
no_rule None h = refl
no_rule (Some rule) h = cc

missed : {X A : Type 0} (f : X → A) (b : Bool) (o : Option X) → o ≡ None → option_map f (if b then None else o) ≡ None
missed f true o h = refl
missed f false o h = ap (option_map f) h

pub entries_miss : EntriesMiss
entries_miss cs k m h =
    let alone : Standing = standing_of (would_force cs k) in
    one_told cs k m ∙ missed (newly_barred_by cs m) (is_barred cs m.facts) (first_rule alone m.facts) (no_rule (first_rule alone m.facts) (each_rule_bars alone m.facts ∙ h))

-- ---- allowed now

allowed_is : (v : Verdict) → allows v ≡ true → v ≡ says.Allowed
allowed_is says.Allowed h = refl
allowed_is says.DbxDigest h = cc
allowed_is says.DbxCertificate h = cc
allowed_is says.NotListed h = cc
allowed_is (says.Sbat below) h = cc

pub listed_is_allowed : ListedIsAllowed
listed_is_allowed cs x free =
    elim (stands_in_db cs x) as (λ b. stands_in_db cs x ≡ b → allows (verdict cs x) ≡ b) [
      | true ↦ λ e. ap allows ((allows_exactly cs x).1 (free, e))
      | false ↦ λ e. elim (allows (verdict cs x)) as (λ b. allows (verdict cs x) ≡ b → b ≡ false) [
        | true ↦ λ f. (let listed : stands_in_db cs x ≡ true = ((allows_exactly cs x).0 (allowed_is (verdict cs x) f)).1 in sym listed ∙ e)
        | false ↦ λ f. refl
      ] refl
    ] refl
