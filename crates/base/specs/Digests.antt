-- SHA-256 values (FIPS 180-4), and their text.
use Rattle.std.specs.Prelude.{ℕ, ◌==◌, if◌then◌else◌, length, List, Option, None}
use Rattle.std.specs.List.{Contains}
use Rattle.std.specs.List.Sorted.{IsStrictlySortedBy}
use Rattle.std.specs.Ordering.{nat_cmp}
use Rattle.std.specs.Cmp.Lexicographic.{slice_cmp}
use Rattle.std.specs.Result.{result_ok}
use Rattle.hex.specs.Hex.{decode_of}

-- own: the 32 bytes that 64 hexadecimal digits of either case spell, or nothing for any other text
abbrev pub digest_of : List ℕ → Option (List ℕ)
digest_of text = if length text == 64 then result_ok (decode_of text) else None

-- ascending by bytes, each once
abbrev pub IsAscending : List (List ℕ) → Type 0
IsAscending ds = IsStrictlySortedBy (slice_cmp nat_cmp) ds

-- own: the named digests, ascending, each once
pub record IsArranged (named ds : List (List ℕ)) : Type 0 where
  pub ascending : IsAscending ds
  pub all : (d : List ℕ) → Contains named d → Contains ds d
  pub no_other : (d : List ℕ) → Contains ds d → Contains named d
