-- The entries of a proposal, as they are looked up.
use Rattle.std.specs.Prelude.{◌≡◌, ℕ, false, if◌then◌else◌, List, None}
use Rattle.std.specs.FinMap.{get}
use Rattle.desk_types.specs.declared.facts.Facts.{Facts}
use Rattle.desk_types.specs.declared.kind.ListedKind.{ListedKind}
use Rattle.desk_types.specs.declared.kind.ListedKind.TheVariants as kinds
use Rattle.desk_history.specs.Calls.{is_among}
use Rattle.desk_history.specs.Impact.{first_rule}
use Rattle.desk_history.specs.Level.{is_sbat}
use Rattle.desk_history.specs.Verdicts.{Standing, bars}
use Rattle.desk_rules.specs.declared.entries.Entries.{Entries}

-- the digests of this kind among the entries
abbrev pub held_digests : Entries → ListedKind → List (List ℕ)
held_digests e kinds.Digest = e.digests.keys
held_digests e kinds.Certificate = e.certificates.keys

-- what the entries revoke, and the generations that they require
abbrev pub held_standing : Entries → Standing
held_standing e = record {
  revoked = λ kind digest. is_among (held_digests e kind) digest;
  listed = λ kind digest. false;
  required = λ name. if is_sbat name then None else get e.level.generations name;
}

-- both bar the same images, each by the same rule
pub record StandsAs (one other : Standing) : Type 0 where
  pub barred : (x : Facts) → bars one x ≡ bars other x
  pub rule : (x : Facts) → first_rule one x ≡ first_rule other x
