-- The pages of a desk's file that its store has room for.
use Rattle.std.specs.Prelude.{ℕ, ◌+◌, ◌/◌, min}
use Rattle.cli_opening.specs.declared.connecting.CacheSize.{CacheSize}
use Rattle.cli_opening.specs.declared.connecting.CacheSize.TheVariants.{AsItIs, ToGrow}

-- own: for a file of so many bytes its pages of 4,096 bytes and 64 more, up to 8,192; or 8,192, for
-- one that grows
abbrev pub pages_for : CacheSize → ℕ → ℕ
pages_for AsItIs bytes = min (bytes / 4096 + 64) 8192
pages_for ToGrow bytes = 8192
