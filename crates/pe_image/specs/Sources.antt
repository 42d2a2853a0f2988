-- The content of a source, and its count of failures.
use Rattle.std.specs.Prelude.{◌≡◌, ◌⊎◌, ◌<◌, ◌≤◌, ℕ, List}

-- own: the greatest u64, at which a count of failures stops
abbrev pub greatest_count : ℕ
greatest_count = 18446744073709551615

-- own: a count of failures rose, or was already at its maximum
abbrev pub HaveRisen : ℕ → ℕ → Type 0
HaveRisen before after = (before < after) ⊎ (before ≡ greatest_count)

-- a call only reads the source: the content stays, and the count of failures never falls
pub record OnlyReads {X : Type 0} (content : X → List ℕ) (failures : X → ℕ) (old new : X) : Type 0 where
  pub same : content new ≡ content old
  pub kept : failures old ≤ failures new
