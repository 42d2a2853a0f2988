-- The entries of a proposal, as they are looked up, stand as they do by themselves.
use Rattle.std.proofs.Common.{◌≡◌, ℕ, List, ◌∙◌, ap}
use Rattle.std.specs.Prelude.{None, bytes_eq, if◌then◌else◌, reverse}
use Rattle.std.specs.FinMap.{get}
use Rattle.std.proofs.lemmas.List.Sorted.{IsPermutation-reverse, list_any-IsPermutation}
use Rattle.desk_types.specs.Imports.{Imported}
use Rattle.desk_types.specs.declared.facts.Facts.{Facts}
use Rattle.desk_types.specs.declared.kind.ListedKind.{ListedKind}
use Rattle.desk_types.specs.declared.kind.ListedKind.TheVariants as kinds
use Rattle.desk_history.specs.Calls.{is_among}
use Rattle.desk_history.specs.Forces.{forced}
use Rattle.desk_history.specs.Impact.{standing_of}
use Rattle.desk_history.specs.Level.{greatest, is_sbat}
use Rattle.desk_rules.specs.Entries.{StandsAs, held_standing}
use Rattle.desk_rules.specs.Views.{component_names, revoked_keys}
use Rattle.desk_rules.specs.declared.entries.Entries.{Entries}
use Rattle.desk_rules.proofs.StandingLemmas.{BarAlike, bars_alike, rule_alike}

-- the entries hold these digests, in any order, and the greatest generations
pub record Hold (e : Entries) (n : Imported) : Type 0 where
  pub digests : (q : List ℕ) → is_among e.digests.keys q ≡ is_among n.digests q
  pub certificates : (q : List ℕ) → is_among e.certificates.keys q ≡ is_among n.certificates q
  pub required : (q : List ℕ) → get e.level.generations q ≡ greatest (reverse n.components) q

among_reversed : (digests : List (List ℕ)) (q : List ℕ) → is_among digests q ≡ is_among (reverse digests) q
among_reversed digests q = list_any-IsPermutation (bytes_eq q) digests (reverse digests) (IsPermutation-reverse digests)

module _ (e : Entries) (n : Imported) (held : Hold e n) where
  revoked : (kind : ListedKind) (q : List ℕ) → (held_standing e).revoked kind q ≡ (standing_of (forced n)).revoked kind q
  revoked kinds.Digest q = held.digests q ∙ among_reversed n.digests q
  revoked kinds.Certificate q = held.certificates q ∙ among_reversed n.certificates q

  alike : (x : Facts) → BarAlike (held_standing e) (standing_of (forced n)) (revoked_keys x) (component_names x)
  alike x = record {
    revoked = λ kind q _. revoked kind q;
    required = λ q _. ap (λ o. if is_sbat q then None else o) (held.required q);
  }

  pub stands_as : StandsAs (held_standing e) (standing_of (forced n))
  stands_as = record {
    barred = λ x. bars_alike (held_standing e) (standing_of (forced n)) x (alike x);
    rule = λ x. rule_alike (held_standing e) (standing_of (forced n)) x (alike x);
  }
