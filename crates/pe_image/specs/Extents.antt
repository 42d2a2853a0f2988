-- Lengths of an image's file.
use Rattle.std.specs.Prelude.{ℕ}

-- the number of bytes of a file, and of those before the sections' end that are in no header and no
-- section
pub record Lengths : Type 0 where
  pub length : ℕ
  pub gap : ℕ
