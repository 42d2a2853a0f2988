-- Views that show a history for some keys: they agree with it on these keys.
use Rattle.std.proofs.Common.{◌≡◌, ℕ, ◌+◌, Bool, true, false, ◌||◌, cond, List, [], ◌∷◌, map, Option, Some, None, refl, sym, ◌∙◌, ap}
use Rattle.std.specs.Prelude.{if◌then◌else◌, IsTrue, bytes_eq, find, is_some, option_map, unwrap_or}
use Rattle.std.specs.List.{list_any}
use Rattle.std.specs.Option.{option_or}
use Rattle.std.proofs.lemmas.Bool.{or_left, or_right}
use Rattle.sbat.specs.declared.component.Component.{Component}
use Rattle.desk_types.specs.declared.facts.Facts.{Facts}
use Rattle.desk_types.specs.declared.kind.ListedKind.{ListedKind}
use Rattle.desk_types.specs.declared.kind.ListedKind.TheVariants as kinds
use Rattle.desk_history.specs.Calls.{History, is_among}
use Rattle.desk_history.specs.Impact.{component_rule, first_rule, rule_at}
use Rattle.desk_history.specs.Level.{generations, greater_of, greatest, is_sbat, names}
use Rattle.desk_history.specs.Revocations.{revocations}
use Rattle.desk_history.specs.Tables.{level_row, level_rows, tables}
use Rattle.desk_history.specs.Writes.{is_named}
use Rattle.desk_history.specs.declared.finding.Verdict.{Verdict}
use Rattle.desk_history.specs.declared.impact.Rule.TheVariants as rules
use Rattle.desk_rules.specs.declared.list_view.ListView.{ListView}
use Rattle.desk_history.specs.Verdicts.{Standing, bars, first_below, has_revoked_certificate, has_revoked_digest, is_below, is_less, lack_at, lists_image, standing, verdict, verdict_by, verdict_on}
use Rattle.desk_rules.specs.Views.{EntryKeys, Keys, ShowsLists, component_names, generation_in, keys_for, keys_of, listed_keys, revoked_keys, seen_standing}
use Rattle.desk_history.proofs.ListLemmas.{any_once, bytes_eq-refl, same_text}
use Rattle.desk_history.proofs.ListingLemmas.{listed_rows_are_listed}

-- both bar these keys alike
pub record BarAlike (s u : Standing) (entries : EntryKeys) (names : List (List ℕ)) : Type 0 where
  pub revoked : (kind : ListedKind) (digest : List ℕ) → IsTrue (is_among (keys_for entries kind) digest) → s.revoked kind digest ≡ u.revoked kind digest
  pub required : (name : List ℕ) → IsTrue (is_among names name) → s.required name ≡ u.required name

-- both list these keys alike
pub record ListAlike (s u : Standing) (entries : EntryKeys) : Type 0 where
  pub listed : (kind : ListedKind) (digest : List ℕ) → IsTrue (is_among (keys_for entries kind) digest) → s.listed kind digest ≡ u.listed kind digest

-- a name is named exactly where it has a greatest generation
pub named_some : (named : List Component) (n : List ℕ) → is_among (map (λ x. x.name) named) n ≡ is_some (greatest named n)
named_some [] n = refl
named_some (x ∷ xs) n =
    elim (bytes_eq n x.name) as (λ b. (b || is_among (map (λ x. x.name) xs) n) ≡ is_some (if b then Some (greater_of x.generation (greatest xs n)) else greatest xs n)) [
      | true ↦ refl
      | false ↦ named_some xs n
    ]

row_at : (named : List Component) (ns : List (List ℕ)) (n : List ℕ) → generation_in (map (level_row named) ns) n ≡ cond (is_among ns n) (Some (unwrap_or (greatest named n) 0)) None
row_at named [] n = refl
row_at named (m ∷ ns) n =
    elim (bytes_eq n m) as (λ b. bytes_eq n m ≡ b → option_map (λ (row : Component). row.generation) (if b then Some (level_row named m) else find (is_named n) (map (level_row named) ns)) ≡ cond (b || is_among ns n) (Some (unwrap_or (greatest named n) 0)) None) [
      | true ↦ λ e. ap (λ k. Some (unwrap_or (greatest named k) 0)) (sym (same_text n m e))
      | false ↦ λ _. row_at named ns n
    ] refl

-- a name's row has its greatest generation
pub generation_row : (named : List Component) (n : List ℕ) → generation_in (level_rows named) n ≡ greatest named n
generation_row named n =
    row_at named (names named) n
    ∙ (ap (λ b. cond b (Some (unwrap_or (greatest named n) 0)) None) (any_once n (map (λ x. x.name) named) ∙ named_some named n) ∙ whole (greatest named n))
  where
    whole : (o : Option ℕ) → cond (is_some o) (Some (unwrap_or o 0)) None ≡ o
    whole None = refl
    whole (Some g) = refl

module _ (v : ListView) (owner : List ℕ) (cs : History) (k : Keys) (shown : ShowsLists v (tables owner cs) k) where
  revoked_alike : (kind : ListedKind) (digest : List ℕ) → IsTrue (is_among (keys_for k.revoked kind) digest) → (seen_standing v).revoked kind digest ≡ (standing cs).revoked kind digest
  revoked_alike kinds.Digest digest h = shown.revoked kinds.Digest digest h ∙ any_once digest (revocations kinds.Digest cs)
  revoked_alike kinds.Certificate digest h = shown.revoked kinds.Certificate digest h ∙ any_once digest (revocations kinds.Certificate cs)

  pub shown_generation : (name : List ℕ) → IsTrue (is_among k.names name) → generation_in v.components.items name ≡ greatest (generations cs) name
  shown_generation name h = ap (λ o. option_map (λ (row : Component). row.generation) o) (shown.components name h) ∙ generation_row (generations cs) name

  -- the view and the calls bar these keys alike
  pub bars_so : BarAlike (seen_standing v) (standing cs) k.revoked k.names
  bars_so = record {
    revoked = revoked_alike;
    required = λ name h. ap (λ o. if is_sbat name then Some 1 else o) (shown_generation name h);
  }

  pub lists_so : ListAlike (seen_standing v) (standing cs) k.listed
  lists_so = record { listed = λ kind digest h. shown.listed kind digest h ∙ listed_rows_are_listed cs kind digest }

pub any_alike : (p q : List ℕ → Bool) (xs : List (List ℕ)) → ((x : List ℕ) → IsTrue (is_among xs x) → p x ≡ q x) → list_any p xs ≡ list_any q xs
any_alike p q [] each = refl
any_alike p q (x ∷ xs) each =
    ap (λ b. b || list_any p xs) (each x (or_left (bytes_eq x x) (is_among xs x) (bytes_eq-refl x)))
    ∙ ap (λ b. q x || b) (any_alike p q xs (λ y h. each y (or_right (bytes_eq y x) (is_among xs y) h)))

module _ (s u : Standing) where
  below_alike : (xs : List Component) → ((name : List ℕ) → IsTrue (is_among (map (λ x. x.name) xs) name) → s.required name ≡ u.required name) → list_any (is_below s) xs ≡ list_any (is_below u) xs
  below_alike [] each = refl
  below_alike (x ∷ xs) each =
      ap (λ o. is_less x.generation o || list_any (is_below s) xs) (each x.name (or_left (bytes_eq x.name x.name) (is_among (map (λ x. x.name) xs) x.name) (bytes_eq-refl x.name)))
      ∙ ap (λ b. is_below u x || b) (below_alike xs (λ n h. each n (or_right (bytes_eq n x.name) (is_among (map (λ x. x.name) xs) n) h)))

  first_alike : (place : ℕ) (xs : List Component) → ((name : List ℕ) → IsTrue (is_among (map (λ x. x.name) xs) name) → s.required name ≡ u.required name) → first_below s place xs ≡ first_below u place xs
  first_alike place [] each = refl
  first_alike place (x ∷ xs) each =
      ap (λ o. option_or (lack_at place x.generation o) (first_below s (place + 1) xs)) (each x.name (or_left (bytes_eq x.name x.name) (is_among (map (λ x. x.name) xs) x.name) (bytes_eq-refl x.name)))
      ∙ ap (λ b. option_or (lack_at place x.generation (u.required x.name)) b) (first_alike (place + 1) xs (λ n h. each n (or_right (bytes_eq n x.name) (is_among (map (λ x. x.name) xs) n) h)))

  component_alike : (xs : List Component) → ((name : List ℕ) → IsTrue (is_among (map (λ x. x.name) xs) name) → s.required name ≡ u.required name) → component_rule s xs ≡ component_rule u xs
  component_alike [] each = refl
  component_alike (x ∷ xs) each =
      ap (λ o. option_or (rule_at x o) (component_rule s xs)) (each x.name (or_left (bytes_eq x.name x.name) (is_among (map (λ x. x.name) xs) x.name) (bytes_eq-refl x.name)))
      ∙ ap (λ o. option_or (rule_at x (u.required x.name)) o) (component_alike xs (λ n h. each n (or_right (bytes_eq n x.name) (is_among (map (λ x. x.name) xs) n) h)))

  module _ (x : Facts) where
    own_digest : (rest : List (List ℕ)) → IsTrue (is_among (x.digest ∷ rest) x.digest)
    own_digest rest = or_left (bytes_eq x.digest x.digest) (is_among rest x.digest) (bytes_eq-refl x.digest)

    own_signing : IsTrue (is_among (x.digest ∷ x.signing ∷ []) x.signing)
    own_signing = or_right (bytes_eq x.signing x.digest) (is_among (x.signing ∷ []) x.signing) (or_left (bytes_eq x.signing x.signing) false (bytes_eq-refl x.signing))

    module _ (agree : ListAlike s u (listed_keys x)) where
      pub lists_alike : lists_image s x ≡ lists_image u x
      lists_alike =
          ap (λ b. b || list_any (s.listed kinds.Certificate) x.carried) (agree.listed kinds.Digest x.digest (own_digest []))
          ∙ ap (λ b. u.listed kinds.Digest x.digest || b) (any_alike (s.listed kinds.Certificate) (u.listed kinds.Certificate) x.carried (agree.listed kinds.Certificate))

    module _ (agree : BarAlike s u (revoked_keys x) (component_names x)) where
      digest_alike : has_revoked_digest s x ≡ has_revoked_digest u x
      digest_alike =
          ap (λ b. b || s.revoked kinds.Digest x.signing) (agree.revoked kinds.Digest x.digest (own_digest (x.signing ∷ [])))
          ∙ ap (λ b. u.revoked kinds.Digest x.digest || b) (agree.revoked kinds.Digest x.signing own_signing)

      certificate_alike : has_revoked_certificate s x ≡ has_revoked_certificate u x
      certificate_alike = any_alike (s.revoked kinds.Certificate) (u.revoked kinds.Certificate) x.carried (agree.revoked kinds.Certificate)

      pub bars_alike : bars s x ≡ bars u x
      bars_alike =
          ap (λ b. b || has_revoked_certificate s x || list_any (is_below s) x.components) digest_alike
          ∙ (ap (λ b. has_revoked_digest u x || b || list_any (is_below s) x.components) certificate_alike
          ∙ ap (λ b. has_revoked_digest u x || has_revoked_certificate u x || b) (below_alike x.components agree.required))

      pub rule_alike : first_rule s x ≡ first_rule u x
      rule_alike =
          ap (λ b. if b then Some rules.Digest else (if has_revoked_certificate s x then Some rules.Certificate else component_rule s x.components)) digest_alike
          ∙ (ap (λ b. if has_revoked_digest u x then Some rules.Digest else (if b then Some rules.Certificate else component_rule s x.components)) certificate_alike
          ∙ ap (λ o. if has_revoked_digest u x then Some rules.Digest else (if has_revoked_certificate u x then Some rules.Certificate else o)) (component_alike x.components agree.required))

      pub verdict_alike : ListAlike s u (listed_keys x) → verdict_on s x ≡ verdict_on u x
      verdict_alike listing =
          ap (λ b. verdict_by b (has_revoked_certificate s x) (lists_image s x) (first_below s 0 x.components)) digest_alike
          ∙ (ap (λ b. verdict_by (has_revoked_digest u x) b (lists_image s x) (first_below s 0 x.components)) certificate_alike
          ∙ (ap (λ b. verdict_by (has_revoked_digest u x) (has_revoked_certificate u x) b (first_below s 0 x.components)) (lists_alike listing)
          ∙ ap (λ o. verdict_by (has_revoked_digest u x) (has_revoked_certificate u x) (lists_image u x) o) (first_alike 0 x.components agree.required)))

-- the view's verdict is that on the history
pub says_verdict : (v : ListView) (x : Facts) (said : Verdict) → said ≡ verdict_on (seen_standing v) x → (owner : List ℕ) (cs : History) → ShowsLists v (tables owner cs) (keys_of x) → said ≡ verdict cs x
says_verdict v x said is owner cs shown = is ∙ verdict_alike (seen_standing v) (standing cs) x (bars_so v owner cs (keys_of x) shown) (lists_so v owner cs (keys_of x) shown)
