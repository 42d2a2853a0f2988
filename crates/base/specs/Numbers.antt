-- Little-endian numbers in bytes (PE/COFF, "General Concepts"; UEFI 2.10, section 1.8.1).
use Rattle.std.specs.Prelude.{ℕ, List, take, drop}
use Rattle.std.specs.Int.{w16, w32, from_le_bytes}

-- the u16 in the two bytes from an offset on
unfoldable pub u16_at : List ℕ → ℕ → ℕ
u16_at b at = from_le_bytes w16 (take 2 (drop at b))

-- the u32 in the four bytes from an offset on
unfoldable pub u32_at : List ℕ → ℕ → ℕ
u32_at b at = from_le_bytes w32 (take 4 (drop at b))
